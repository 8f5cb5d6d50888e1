use Rattle.call_core.proofs.Delivery.{delivery, not_yet}
use Rattle.call_core.proofs.laws.items_are_taken_in_order.Goals as goal

pub returns-clause-taken : goal.returns-clause-taken
returns-clause-taken c = delivery

pub returns-clause-not_yet : goal.returns-clause-not_yet
returns-clause-not_yet c = not_yet
