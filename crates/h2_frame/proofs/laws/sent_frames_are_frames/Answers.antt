use Rattle.h2_frame.proofs.PayloadLaws.{settings_allowed}
use Rattle.h2_frame.proofs.laws.sent_frames_are_frames.Goals as goal

pub returns-clause-settings : goal.returns-clause-settings
returns-clause-settings c = settings_allowed
