use Rattle.keepalive_core.proofs.KeepLaws.{stand_law}
use Rattle.keepalive_core.specs.declared.rule.KeepKind.TheVariants as kind
use Rattle.keepalive_core.proofs.keepalive.Keepalive.octets.Goals as goal

pub returns-clause-law : goal.returns-clause-law
returns-clause-law c = λ start log before. stand_law _ start (record { moment = c.args.moment; kind = kind.Octets }) log _ _ before c.receive.ensures
