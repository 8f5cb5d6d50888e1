use Rattle.channel_actions.proofs.Fresh.{new_channels_agree}
use Rattle.channel_actions.proofs.laws.new_channels_are_new_sessions.Goals as goal

pub returns : goal.returns
returns c = new_channels_agree c.new_nets_are_new_sessions.ensures
