use Rattle.resolver_core.proofs.HostLaws.{same_test}
use Rattle.resolver_core.proofs.any_target.names_host.Goals as goal

pub returns-clause-value : goal.returns-clause-value
returns-clause-value c = same_test c.args.text.now c.is_host.result c.is_host.ensures
