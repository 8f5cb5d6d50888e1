use Rattle.call_cases.proofs.CallEnds.Late.{late_cancels}
use Rattle.call_cases.proofs.call_ends.late_cancels_are_refused.Goals as goal

pub returns : goal.returns
returns c = late_cancels
