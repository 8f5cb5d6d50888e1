use Rattle.session_order.proofs.Posts.{answered_leaves, refused_leaves, settles_leaves, unresolved_leaves}
use Rattle.session_order.proofs.laws.entries_stir.Goals as goal

pub returns : goal.returns
returns c = record { refused = refused_leaves; answered = answered_leaves; settles = settles_leaves; unresolved = unresolved_leaves }
