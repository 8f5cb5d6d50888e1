use Rattle.std.proofs.Common.{Err, ap, ◌∙◌}
use Rattle.live_pump.specs.Pumps.{OutSeen}
use Rattle.relay_front.proofs.LinkLaws.{drains_nothing, drains_out}
use Rattle.relay_front.proofs.links.drain_out.Goals as goal

pub returns-in-Ok-clause-out : goal.returns-in-Ok-clause-out
returns-in-Ok-clause-out g c = drains_out (λ (o : g.row.O.Denot). let seen : OutSeen = record { taken = g.O.LinkOut.taken o; faults = g.O.LinkOut.faults o } in seen) c.args.core.now c.drain.new.self _ _ c.in-Ok.octets _ c.write_out.result c.in-Ok.ensures.drains c.drain.ensures.calls c.as_slice.ensures c.write_out.ensures.writes

pub returns-in-Err-Broken-clause-out : goal.returns-in-Err-Broken-clause-out
returns-in-Err-Broken-clause-out g c = drains_nothing (λ (o : g.row.O.Denot). let seen : OutSeen = record { taken = g.O.LinkOut.taken o; faults = g.O.LinkOut.faults o } in seen) c.drain.result _ c.args.core.now c.drain.new.self _ (c.in-Err-Broken.is ∙ ap Err c.in-Err-Broken.field-0-is) c.drain.ensures.broken c.drain.ensures.same
