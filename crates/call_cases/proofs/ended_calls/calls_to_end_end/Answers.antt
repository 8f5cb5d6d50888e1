use Rattle.call_cases.proofs.OneCallEnds.Whole.{one_call_ends}
use Rattle.call_cases.proofs.SendsEnd.Alike.{calls_end_alike}
use Rattle.call_cases.proofs.ended_calls.calls_to_end_end.Goals as goal

pub returns : goal.returns
returns c = calls_end_alike one_call_ends
