use Rattle.h2_frame.proofs.TextLaws.{pieces_join, fault_ends}
use Rattle.h2_frame.proofs.laws.pieces_join.Goals as goal

pub returns : goal.returns
returns c = record { go_on = pieces_join; stay = fault_ends }
