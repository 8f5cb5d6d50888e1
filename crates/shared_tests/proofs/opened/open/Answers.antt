use Rattle.std.proofs.Common.{rules}
use Rattle.shared_tests.proofs.OpenLaws.{new_run}
use Rattle.shared_tests.proofs.opened.open.Goals as goal

pub new-requires-2-clause-run : goal.new-requires-2-clause-run
new-requires-2-clause-run g c = new_run _ _ _ _ _ c.of-origin.ensures c.in_ok-core.ensures (search rules)
