use Rattle.end_cases.proofs.EndRetries.Whole.{retries_follow_ends}
use Rattle.end_cases.proofs.attempt_ends.retries_follow_ends.Goals as goal

pub returns : goal.returns
returns c = retries_follow_ends
