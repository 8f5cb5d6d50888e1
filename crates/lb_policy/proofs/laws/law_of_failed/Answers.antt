use Rattle.lb_policy.proofs.FailedLaws.{failed-stays}
use Rattle.lb_policy.proofs.laws.law_of_failed.Goals as goal

pub returns : goal.returns
returns c = failed-stays
