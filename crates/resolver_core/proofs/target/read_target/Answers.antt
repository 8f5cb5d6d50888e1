use Rattle.resolver_core.proofs.AnyTargetLaws.{listed_some}
use Rattle.resolver_core.proofs.target.read_target.Goals as goal

pub returns-in-Some-clause-some : goal.returns-in-Some-clause-some
returns-in-Some-clause-some c = listed_some c.in-Some.items.now c.read_items.result c.read_items.ensures
