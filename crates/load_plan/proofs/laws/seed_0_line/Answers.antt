use Rattle.std.proofs.Common.{refl}
use Rattle.std.specs.Fmt.{digits}
use Rattle.load_plan.specs.Lines.{counted}
use Rattle.load_plan.proofs.laws.seed_0_line.Goals as goal

pub returns : goal.returns
unfolding counted digits
returns c = refl
