use Rattle.call_core.proofs.Room.{full_law}
use Rattle.call_core.proofs.laws.full_reports_what_is_held.Goals as goal

pub returns : goal.returns
returns c = full_law
