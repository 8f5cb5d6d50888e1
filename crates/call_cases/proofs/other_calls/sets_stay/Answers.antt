use Rattle.call_cases.proofs.OtherCalls.Sets.{sets_stay}
use Rattle.call_cases.proofs.other_calls.sets_stay.Goals as goal

pub returns : goal.returns
returns c = sets_stay
