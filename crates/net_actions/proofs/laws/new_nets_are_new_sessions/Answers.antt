use Rattle.net_actions.proofs.TakingOver.{new_ones_agree}
use Rattle.net_actions.proofs.laws.new_nets_are_new_sessions.Goals as goal

pub returns : goal.returns
returns c = new_ones_agree
