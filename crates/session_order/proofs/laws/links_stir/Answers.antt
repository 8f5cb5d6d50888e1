use Rattle.session_order.proofs.Overs.{broken_leaves, lost_leaves}
use Rattle.session_order.proofs.FramesRead.{read_leaves}
use Rattle.session_order.proofs.Wires.{arrived_leaves, pinged_leaves}
use Rattle.session_order.proofs.laws.links_stir.Goals as goal

pub returns : goal.returns
returns c = record { read = read_leaves; broken = broken_leaves; lost = lost_leaves; arrived = arrived_leaves; pinged = pinged_leaves }
