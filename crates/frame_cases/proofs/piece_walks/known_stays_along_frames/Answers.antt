use Rattle.frame_cases.proofs.PieceWalks.Knows.{known_along_frames}
use Rattle.frame_cases.proofs.piece_walks.known_stays_along_frames.Goals as goal

pub returns : goal.returns
returns c = known_along_frames c.calls_of_channels_go_on.ensures.answers c.calls_stay_sound.ensures.answers c.buffers_stay_sound.ensures.answers
