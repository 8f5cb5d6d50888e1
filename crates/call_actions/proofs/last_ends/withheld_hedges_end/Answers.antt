use Rattle.call_actions.proofs.LastEnds.LastWithheld.{withheld_hedges_end}
use Rattle.call_actions.proofs.last_ends.withheld_hedges_end.Goals as goal

pub returns : goal.returns
returns c = withheld_hedges_end
