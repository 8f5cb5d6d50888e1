use Rattle.end_cases.proofs.AttemptEnds.Last.{lone_last_ends_close}
use Rattle.end_cases.proofs.attempt_ends.lone_last_ends_close.Goals as goal

pub returns : goal.returns
returns c = lone_last_ends_close
