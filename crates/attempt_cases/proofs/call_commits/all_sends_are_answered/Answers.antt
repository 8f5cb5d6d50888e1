use Rattle.attempt_cases.proofs.CallCommits.Sends.{sends_commit}
use Rattle.call_cases.proofs.CallSends.All.{sends_are_all_answered}
use Rattle.call_cases.proofs.OneCallEnds.Whole.{one_call_ends}
use Rattle.call_cases.proofs.SendsEnd.Alike.{calls_end_alike}
use Rattle.attempt_cases.proofs.call_commits.all_sends_are_answered.Goals as goal

pub returns : goal.returns
returns c = sends_are_all_answered (calls_end_alike one_call_ends) sends_commit
