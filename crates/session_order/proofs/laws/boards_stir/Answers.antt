use Rattle.session_order.proofs.Added.{added_leaves}
use Rattle.session_order.proofs.Boards.{connects_leaves, failed_leaves, rests_leaves}
use Rattle.session_order.proofs.Queues.{dialled_leaves}
use Rattle.session_order.proofs.Turns.{down_leaves, ready_leaves}
use Rattle.session_order.proofs.UpLinks.{up_leaves}
use Rattle.session_order.proofs.laws.boards_stir.Goals as goal

pub returns : goal.returns
returns c = record { dialled = dialled_leaves; failed = failed_leaves; connects = connects_leaves; rested = rests_leaves; up = up_leaves; ready = ready_leaves; down = down_leaves; added = added_leaves }
