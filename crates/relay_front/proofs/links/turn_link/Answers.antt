use Rattle.std.proofs.Common.{rules}
use Rattle.live_pump.specs.Pumps.{HandleSeen, OutSeen}
use Rattle.relay_front.proofs.LinkLaws.{ended_as, goes_no_more, goes_on, going_reports}
use Rattle.relay_front.proofs.links.turn_link.Goals as goal

pub returns-then-not-is_going-clause-turned : goal.returns-then-not-is_going-clause-turned
returns-then-not-is_going-clause-turned g c = record {
  turned = c.relay_turn-turn.new.core;
  answer = c.relay_turn-turn.result;
  turns = c.relay_turn-turn.ensures.turns;
  goes = goes_no_more (λ (o : g.row.O.Denot). let seen : OutSeen = record { taken = g.O.LinkOut.taken o; faults = g.O.LinkOut.faults o } in seen) _ _ c.relay_turn-turn.result _ c.end_of.result (search rules) c.end_of.ensures;
}

pub returns-clause-turned : goal.returns-clause-turned
returns-clause-turned g c = record {
  turned = c.relay_turn-turn.new.core;
  answer = c.relay_turn-turn.result;
  turns = c.relay_turn-turn.ensures.turns;
  goes = goes_on (λ (o : g.row.O.Denot). let seen : OutSeen = record { taken = g.O.LinkOut.taken o; faults = g.O.LinkOut.faults o } in seen) _ _ _ c.relay_turn-turn.result _ _ c.drain_out.result (search rules) c.drain_out.ensures.out;
}

pub returns-then-not-is_going-clause-reports_that : goal.returns-then-not-is_going-clause-reports_that
returns-then-not-is_going-clause-reports_that g c =
    let seen : g.row.P.Denot → HandleSeen = λ p. record { made = g.P.Post.made p; errors = g.P.Post.errors p; last = g.P.Post.last_error p } in
    ended_as (seen c.args.post.now) (seen c.relay_turn-turn.new.post) c.relay_turn-turn.result c.end_of.result c.end_of.ensures c.relay_turn-turn.ensures.reports_that

pub returns-clause-reports_that : goal.returns-clause-reports_that
returns-clause-reports_that g c =
    let seen : g.row.P.Denot → HandleSeen = λ p. record { made = g.P.Post.made p; errors = g.P.Post.errors p; last = g.P.Post.last_error p } in
    c.drain_out.ensures.reports_that (seen c.args.post.now) (seen c.relay_turn-turn.new.post) (going_reports (seen c.args.post.now) (seen c.relay_turn-turn.new.post) c.relay_turn-turn.result (search rules) c.relay_turn-turn.ensures.reports_that)
