use Rattle.frame_cases.proofs.EndedFrames.Received as handled
use Rattle.frame_cases.proofs.ended_frames.ended_frames_are_handled.Goals as goal

pub returns : goal.returns
returns c = handled.ended_frames_are_handled c.buffers_stay_sound.ensures.each c.runs_rise.ensures.sessions
