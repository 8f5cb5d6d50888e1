use Rattle.session_order.proofs.SessionLaws.Calls.{takes_are_next}
use Rattle.session_order.proofs.session_laws.takes_are_next.Goals as goal

pub returns : goal.returns
returns c = takes_are_next
