use Rattle.frame_cases.proofs.FirstSettings.Received.{prefaced_frames_are_handled}
use Rattle.frame_cases.proofs.first_settings.first_settings_are_handled.Goals as goal

pub returns : goal.returns
returns c = prefaced_frames_are_handled
