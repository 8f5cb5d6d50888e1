use Rattle.call_cases.proofs.CallEnds.Cancels.{cancels_stand}
use Rattle.call_cases.proofs.call_ends.cancels_stand.Goals as goal

pub returns : goal.returns
returns c = cancels_stand
