use Rattle.session_order.proofs.Begun.{begun_leaves}
use Rattle.session_order.proofs.Ended.{ended_leaves}
use Rattle.session_order.proofs.Turns.{shut_leaves}
use Rattle.session_order.proofs.laws.calls_stir.Goals as goal

pub returns : goal.returns
returns c = record { begun = begun_leaves; shut = shut_leaves; ended = ended_leaves }
