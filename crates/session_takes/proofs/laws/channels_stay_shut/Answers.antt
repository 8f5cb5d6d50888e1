use Rattle.session_takes.proofs.Shut.{shut_channels_stay}
use Rattle.session_takes.proofs.laws.channels_stay_shut.Goals as goal

pub returns : goal.returns
returns c = shut_channels_stay
