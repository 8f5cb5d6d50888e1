use Rattle.std.proofs.Common.{◌∙◌}
use Rattle.live_channel.proofs.SeatLaws.{reported_left}
use Rattle.live_mode.proofs.LiveLaws.{left_at}
use Rattle.live_mode.proofs.session.run_world.Goals as goal

pub returns-clause-left : goal.returns-clause-left
returns-clause-left g c = left_at _ _ _ _ _ _ c.in_ok-seat.seat c.run_calls.result (c.parts-clock.ensures.held ∙ c.lookup-lookup.ensures.held) c.in_ok-seat.ensures.given c.run_calls.ensures.left

pub returns-clause-reported : goal.returns-clause-reported
returns-clause-reported g c = reported_left _ _ c.in_ok-seat.seat c.run_calls.result c.in_ok-seat.ensures.reported c.run_calls.ensures.sees
