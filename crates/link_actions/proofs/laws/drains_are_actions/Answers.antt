use Rattle.link_actions.proofs.Draining.{drains_are_written}
use Rattle.link_actions.proofs.laws.drains_are_actions.Goals as goal

pub returns : goal.returns
returns c = drains_are_written
