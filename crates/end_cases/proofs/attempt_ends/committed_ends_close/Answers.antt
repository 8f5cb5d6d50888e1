use Rattle.end_cases.proofs.AttemptEnds.Closed.{committed_ends_close}
use Rattle.end_cases.proofs.attempt_ends.committed_ends_close.Goals as goal

pub returns : goal.returns
returns c = committed_ends_close
