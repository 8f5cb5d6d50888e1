use Rattle.session_order.proofs.SessionLaws.Policies.{current_ones_are_asked}
use Rattle.session_order.proofs.session_laws.current_policies_are_asked.Goals as goal

pub returns : goal.returns
returns c = current_ones_are_asked
