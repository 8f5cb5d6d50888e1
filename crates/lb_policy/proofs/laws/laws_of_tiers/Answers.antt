use Rattle.lb_policy.proofs.TierLaws.{no-pick-passes, no-wish-passes, recovered-is-used}
use Rattle.lb_policy.proofs.laws.laws_of_tiers.Goals as goal

pub returns-clause-picks : goal.returns-clause-picks
returns-clause-picks c = no-pick-passes

pub returns-clause-wishes : goal.returns-clause-wishes
returns-clause-wishes c = no-wish-passes

pub returns-clause-recovery : goal.returns-clause-recovery
returns-clause-recovery c = recovered-is-used
