use Rattle.end_cases.proofs.LastHedges.Whole.{last_is_withheld}
use Rattle.end_cases.proofs.last_hedges.last_is_withheld.Goals as goal

pub returns : goal.returns
returns c = last_is_withheld
