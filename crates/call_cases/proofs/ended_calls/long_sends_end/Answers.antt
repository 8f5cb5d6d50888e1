use Rattle.call_cases.proofs.LongSends.Joined.{long_sends_are_answered}
use Rattle.call_cases.proofs.OneCallEnds.Whole.{one_call_ends}
use Rattle.call_cases.proofs.SendsEnd.Alike.{calls_end_alike}
use Rattle.call_cases.proofs.ended_calls.long_sends_end.Goals as goal

pub returns : goal.returns
returns c = long_sends_are_answered (calls_end_alike one_call_ends)
