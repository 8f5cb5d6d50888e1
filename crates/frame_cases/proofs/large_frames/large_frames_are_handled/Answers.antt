use Rattle.frame_cases.proofs.LargeFrames.Received as handled
use Rattle.frame_cases.proofs.large_frames.large_frames_are_handled.Goals as goal

pub returns : goal.returns
returns c = handled.large_frames_are_handled
