use Rattle.loop_server.proofs.Pieces as pieces
use Rattle.loop_server.proofs.laws.pieces_join.Goals as goal

pub returns : goal.returns
returns c = pieces.pieces_join
