use Rattle.end_cases.proofs.CutEnds.Whole.{last_ends_cut_off}
use Rattle.end_cases.proofs.attempt_ends.last_ends_cut_off.Goals as goal

pub returns : goal.returns
returns c = last_ends_cut_off
