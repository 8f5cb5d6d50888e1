use Rattle.keepalive_core.proofs.NextLaws.{before_next, from_next}
use Rattle.keepalive_core.proofs.laws.next_is_the_first.Goals as goal

pub returns : goal.returns
returns c = record { before = before_next; from = from_next }
