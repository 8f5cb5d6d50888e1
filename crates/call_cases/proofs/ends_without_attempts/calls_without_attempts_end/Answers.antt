use Rattle.call_cases.proofs.EndsWithoutAttempts.Unconfigured.{ends_without_attempts_follow}
use Rattle.call_cases.proofs.ends_without_attempts.calls_without_attempts_end.Goals as goal

pub returns : goal.returns
returns c = ends_without_attempts_follow c.calls_stir.ensures
