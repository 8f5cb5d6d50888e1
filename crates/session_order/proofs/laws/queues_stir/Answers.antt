use Rattle.session_order.proofs.Queues.{asked_leaves, withheld_leaves}
use Rattle.session_order.proofs.laws.queues_stir.Goals as goal

pub returns : goal.returns
returns c = record { asked = asked_leaves; withheld = withheld_leaves }
