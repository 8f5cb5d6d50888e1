use Rattle.load_plan.proofs.MomentLaws.{never_fall}
use Rattle.load_plan.proofs.laws.moments_never_fall.Goals as goal

pub returns : goal.returns
returns c = never_fall
