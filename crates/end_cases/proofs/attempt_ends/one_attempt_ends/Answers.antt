use Rattle.end_cases.proofs.CutEnds.Whole.{one_attempt_ends}
use Rattle.end_cases.proofs.attempt_ends.one_attempt_ends.Goals as goal

pub returns : goal.returns
returns c = one_attempt_ends
