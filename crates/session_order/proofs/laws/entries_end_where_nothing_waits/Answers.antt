use Rattle.session_order.proofs.Waits.{ends_where_nothing_waits}
use Rattle.session_order.proofs.laws.entries_end_where_nothing_waits.Goals as goal

pub returns : goal.returns
returns c = ends_where_nothing_waits
