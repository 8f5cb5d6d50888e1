use Rattle.h2_frame.proofs.TextLaws.{written_is_frame, written_is_read}
use Rattle.h2_frame.proofs.laws.written_is_read_again.Goals as goal

pub returns : goal.returns
returns c = record { frame = written_is_frame; again = written_is_read }
