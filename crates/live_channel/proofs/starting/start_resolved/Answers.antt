use Rattle.std.proofs.Common.{rules, subst}
use Rattle.grpc_base.specs.declared.event.Event.{Event}
use Rattle.live_channel.specs.Handles.{keeper_in}
use Rattle.live_channel.specs.Report.{IsReportedFirst}
use Rattle.live_channel.proofs.GivenLaws.{nets_given, reported_given}
use Rattle.live_channel.proofs.SeatLaws.{few_split, splits_empty, started_by, reported_beside, reported_split}
use Rattle.live_channel.proofs.starting.start_resolved.Goals as goal

pub returns-clause-started : goal.returns-clause-started
returns-clause-started g c =
    let splits = c.in_ok-add_nets.ensures.splits _ (splits_empty _ _ c.in_ok-seat.seat (search rules)) in
    started_by _ c.in_ok-seat.seat c.add_nets.new.seat _ c.in_ok-seat.ensures.lock c.in_ok-seat.ensures.parts c.in_ok-seat.ensures.own.0 (reported_beside _ _ _ _ c.in_ok-event.ensures c.in_ok-seat.ensures.own.1)
    (few_split 4 _ _ _ splits c.in_ok-add_nets.ensures.parts (search rules)) splits

pub returns-clause-given : goal.returns-clause-given
returns-clause-given g c =
    let splits = c.in_ok-add_nets.ensures.splits _ (splits_empty _ _ c.in_ok-seat.seat (search rules)) in
    nets_given (λ j. keeper_in g.N.Dialer.coming j) _ c.args.config c.new-links.result.items c.add_nets.new.links.items c.add_nets.new.seat (search rules) c.in_ok-add_nets.ensures.keepers
    (reported_given _ _ c.args.config c.in_ok-seat.seat.own c.add_nets.new.seat.own c.in_ok-event.ensures splits.own c.in_ok-seat.ensures.own.1)

pub returns-clause-reported : goal.returns-clause-reported
returns-clause-reported g c =
    let splits = c.in_ok-add_nets.ensures.splits _ (splits_empty _ _ c.in_ok-seat.seat (search rules)) in
    reported_split _ c.in_ok-seat.seat c.add_nets.new.seat splits.seen (subst (λ (e : Event). IsReportedFirst e c.in_ok-seat.seat.seen) c.in_ok-event.ensures c.in_ok-seat.ensures.reported)
