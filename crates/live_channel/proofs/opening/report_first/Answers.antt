use Rattle.live_channel.proofs.SeatLaws.{reported_first, reported_own}
use Rattle.live_channel.proofs.opening.report_first.Goals as goal

pub returns-clause-reported : goal.returns-clause-reported
returns-clause-reported g c =
    reported_first _ _ c.args.event c.post-came.result _ c.args.seat c.handle-post.result.seat c.into_seat-seat.result c.post-came.new.self.seat c.connectivity.new.seat c.reported.result
    c.handle-post.ensures.seat c.into_seat-seat.ensures c.reported.ensures c.requires.seat c.post-came.ensures.place c.connectivity.ensures.sees c.connectivity.ensures.kept

pub returns-clause-own : goal.returns-clause-own
returns-clause-own g c =
    reported_own _ _ c.args.event c.post-came.result _ c.args.seat c.handle-post.result.seat c.into_seat-seat.result c.post-came.new.self.seat c.connectivity.new.seat c.reported.result
    c.handle-post.ensures.seat c.into_seat-seat.ensures c.reported.ensures c.requires.seat c.post-came.ensures.place c.connectivity.ensures.sees c.connectivity.ensures.kept
