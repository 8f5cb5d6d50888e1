use Rattle.call_core.proofs.Report.{reported_end}
use Rattle.call_core.proofs.laws.ended_rows_are_reported.Goals as goal

pub returns : goal.returns
returns c = reported_end
