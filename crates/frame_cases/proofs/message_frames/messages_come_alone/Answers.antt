use Rattle.frame_cases.proofs.MessageFrames.Alone as alone
use Rattle.frame_cases.proofs.message_frames.messages_come_alone.Goals as goal

pub returns : goal.returns
returns c = alone.messages_come_alone
