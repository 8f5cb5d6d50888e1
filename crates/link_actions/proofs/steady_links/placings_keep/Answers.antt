use Rattle.link_actions.proofs.SteadyLinks.Placing as placing
use Rattle.link_actions.proofs.steady_links.placings_keep.Goals as goal

pub returns : goal.returns
returns c = placing.placings_keep
