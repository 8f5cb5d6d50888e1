use Rattle.frame_cases.proofs.MessageFrames.Received as handled
use Rattle.frame_cases.proofs.message_frames.messages_are_handled.Goals as goal

pub returns : goal.returns
returns c = handled.messages_are_handled
