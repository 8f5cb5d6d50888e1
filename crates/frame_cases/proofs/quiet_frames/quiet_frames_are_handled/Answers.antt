use Rattle.frame_cases.proofs.QuietFrames.Received.{quiet_frames_are_handled}
use Rattle.frame_cases.proofs.QuietFrames.Responses.{quiet_frames_leave_responses}
use Rattle.frame_cases.proofs.quiet_frames.quiet_frames_are_handled.Goals as goal

pub returns-clause-responses : goal.returns-clause-responses
returns-clause-responses c = quiet_frames_leave_responses

pub returns-clause-handled : goal.returns-clause-handled
returns-clause-handled c = quiet_frames_are_handled
