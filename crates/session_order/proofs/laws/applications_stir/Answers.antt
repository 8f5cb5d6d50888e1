use Rattle.session_order.proofs.Messages.{accepted_leaves}
use Rattle.session_order.proofs.Posts.{finished_leaves, taken_leaves}
use Rattle.session_order.proofs.laws.applications_stir.Goals as goal

pub returns : goal.returns
returns c = record { accepted = accepted_leaves; finished = finished_leaves; taken = taken_leaves }
