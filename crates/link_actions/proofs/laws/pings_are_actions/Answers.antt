use Rattle.link_actions.proofs.Queued.{pings_keep}
use Rattle.link_actions.proofs.laws.pings_are_actions.Goals as goal

pub returns : goal.returns
returns c = pings_keep
