use Rattle.call_actions.proofs.EndsInOrder.InOrder.{ends_stay_in_order}
use Rattle.call_actions.proofs.ends_in_order.ends_stay_in_order.Goals as goal

pub returns : goal.returns
returns c = ends_stay_in_order
