use Rattle.call_core.proofs.Hedges.{hedge_end}
use Rattle.call_core.proofs.laws.hedges_follow_their_policy.Goals as goal

pub returns : goal.returns
returns c = hedge_end
