use Rattle.std.proofs.Common.{inr, refl}
use Rattle.relay_front.proofs.links.round.Goals as goal

pub returns-in-None-clause-round : goal.returns-in-None-clause-round
returns-in-None-clause-round g c = inr (record { over = c.read_link.ensures.over c.in-None.is; same = refl; ends = refl })
