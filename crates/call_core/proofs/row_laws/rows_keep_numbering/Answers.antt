use Rattle.call_core.proofs.RowLaws.Numbers.{never_misnumbered}
use Rattle.call_core.proofs.row_laws.rows_keep_numbering.Goals as goal

pub returns : goal.returns
returns c = never_misnumbered
