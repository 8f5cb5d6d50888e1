use Rattle.link_actions.proofs.ResponseActions.Quiet.{quiet_is_reported}
use Rattle.link_actions.proofs.response_actions.quiet_frames_are_reported.Goals as goal

pub returns : goal.returns
returns c = quiet_is_reported
