use Rattle.dns_watch.proofs.WaitLaws.{turn_law}
use Rattle.dns_watch.proofs.watch.DnsWatch.turn.Goals as goal

pub returns-clause-law : goal.returns-clause-law
returns-clause-law c = λ log kept. turn_law _ log _ _ _ c.is_turn.ensures kept
