use Rattle.call_actions.proofs.LastEnds.Withheld.{withheld_hedges_close}
use Rattle.call_actions.proofs.last_ends.withheld_hedges_close.Goals as goal

pub returns : goal.returns
returns c = withheld_hedges_close
