use Rattle.frame_cases.proofs.HeadFrames.Alone as alone
use Rattle.frame_cases.proofs.head_frames.heads_come_alone.Goals as goal

pub returns : goal.returns
returns c = alone.heads_come_alone
