use Rattle.link_actions.proofs.SteadyLinks.Left.{links_are_left, links_are_left_but}
use Rattle.link_actions.proofs.steady_links.links_are_left.Goals as goal

pub returns-clause-streams : goal.returns-clause-streams
returns-clause-streams c = links_are_left

pub returns-clause-but : goal.returns-clause-but
returns-clause-but c = links_are_left_but
