use Rattle.call_cases.proofs.CallEnds.Cancels.{cancels_stand}
use Rattle.call_cases.proofs.OneCallEnds.Whole.{one_call_ends}
use Rattle.call_cases.proofs.ended_calls.open_cancels_are_answered.Goals as goal

pub returns : goal.returns
returns c = cancels_stand one_call_ends
