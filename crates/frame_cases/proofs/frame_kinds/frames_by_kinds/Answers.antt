use Rattle.frame_cases.proofs.FrameKinds.Kinds as kinds
use Rattle.frame_cases.proofs.frame_kinds.frames_by_kinds.Goals as goal

pub returns : goal.returns
returns c = kinds.frames_by_kinds
