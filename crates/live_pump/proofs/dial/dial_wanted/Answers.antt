use Rattle.std.proofs.Common.{refl}
use Rattle.live_pump.proofs.DialLaws.{dials_nothing, dials_taken}
use Rattle.live_pump.proofs.dial.dial_wanted.Goals as goal

pub returns-in-Some-clause-posted : goal.returns-in-Some-clause-posted
returns-in-Some-clause-posted g c = dials_taken _ _ _ _ _ _ _ _ (record { made = c.post-came.ensures.made; errors = c.post-came.ensures.errors }) c.in-Some.ensures.sub c.dial_to.ensures.posted

pub returns-clause-posted : goal.returns-clause-posted
returns-clause-posted g c = dials_nothing _ _ _ _ _ (record { made = c.post-came.ensures.made; errors = c.post-came.ensures.errors }) c.in-None.ensures.sub (record { coming = refl; faults = refl }) (record { made = refl; errors = refl; last = refl }) (c.idle_turn.ensures g.N.In.LinkIn.left)
