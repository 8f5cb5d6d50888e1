use Rattle.channel_actions.proofs.Links.Prefaced.Along.{links_are_joined}
use Rattle.channel_actions.proofs.prefaced_links.links_are_joined.Goals as goal

pub returns : goal.returns
returns c = links_are_joined
