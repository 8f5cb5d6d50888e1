use Rattle.relay_connection.proofs.Pieces as pieces
use Rattle.relay_connection.proofs.laws.pieces_join.Goals as goal

pub returns : goal.returns
returns c = pieces.pieces_join
