use Rattle.frame_cases.proofs.PieceWalks.Answered as answered
use Rattle.frame_cases.proofs.piece_walks.pieces_are_handled.Goals as goal

pub returns : goal.returns
returns c = answered.pieces_are_handled c.attempts_are_few.ensures
