use Rattle.frame_cases.proofs.HeadFrames.Received as handled
use Rattle.frame_cases.proofs.head_frames.heads_are_handled.Goals as goal

pub returns : goal.returns
returns c = handled.heads_are_handled
