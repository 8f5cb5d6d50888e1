use Rattle.call_cases.proofs.EndsWithoutAttempts.Unconfigured.{ends_without_attempts_follow}
use Rattle.call_cases.proofs.OneCallEnds.Whole.{one_call_ends}
use Rattle.call_cases.proofs.ended_calls.calls_without_attempts_end_too.Goals as goal

pub returns : goal.returns
returns c = ends_without_attempts_follow c.calls_stir.ensures one_call_ends
