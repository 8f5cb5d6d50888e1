use Rattle.std.proofs.Common.{◌∙◌}
use Rattle.relay_mode.proofs.RelaySideLaws.{left_world, relay_side_reported}
use Rattle.relay_mode.proofs.session.run_world.Goals as goal

pub returns-clause-left : goal.returns-clause-left
returns-clause-left g c = left_world _ _ _ _ _ _ c.in_ok-seat.seat c.run_relay_links.result (c.parts-clock.ensures.held ∙ c.lookup-lookup.ensures.held) c.in_ok-seat.ensures.given c.run_relay_links.ensures.left

pub returns-clause-reported : goal.returns-clause-reported
returns-clause-reported g c = relay_side_reported _ _ c.in_ok-seat.seat c.run_relay_links.result c.in_ok-seat.ensures.reported c.run_relay_links.ensures.sees
