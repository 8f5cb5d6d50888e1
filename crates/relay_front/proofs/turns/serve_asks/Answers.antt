use Rattle.std.proofs.Common.{Ok}
use Rattle.live_pump.specs.Pumps.{HandleSeen}
use Rattle.relay_calls.specs.Posting.{Eyes, eyes_of}
use Rattle.relay_front.proofs.ReportLaws.{faulted_reports, turn_from}
use Rattle.relay_front.proofs.TurnLaws.{cuts_asks, serves_asks}
use Rattle.relay_front.proofs.turns.serve_asks.Goals as goal

pub returns-in-Ok-clause-serves : goal.returns-in-Ok-clause-serves
returns-in-Ok-clause-serves g c =
    let eyes : Eyes g.row.P.Denot = eyes_of g.P.Post.made g.P.Post.errors g.P.Post.last_error g.P.Post.looks g.P.Post.last_look in
    serves_asks eyes c.args.core.now c.post_asks.new.self _ _ _ _ _ (Ok tt) _ c.post_asks.ensures.relay c.in-Ok.ensures.posted c.give_all.ensures.given

pub returns-in-Ok-clause-reports_that : goal.returns-in-Ok-clause-reports_that
returns-in-Ok-clause-reports_that g c =
    let seen : g.row.P.Denot → HandleSeen = λ p. record { made = g.P.Post.made p; errors = g.P.Post.errors p; last = g.P.Post.last_error p } in
    turn_from (seen c.args.post.now) (seen c.post_asks.new.post) (seen c.give_all.new.post) c.give_all.result c.in-Ok.ensures.reports_that c.give_all.ensures.reports_that

pub returns-in-Err-clause-serves : goal.returns-in-Err-clause-serves
returns-in-Err-clause-serves g c =
    let eyes : Eyes g.row.P.Denot = eyes_of g.P.Post.made g.P.Post.errors g.P.Post.last_error g.P.Post.looks g.P.Post.last_look in
    cuts_asks eyes c.args.core.now c.post_asks.new.self _ _ _ c.in-Err.fault c.turn_of.result c.post_asks.ensures.relay c.turn_of.ensures c.in-Err.ensures.posted

pub returns-in-Err-clause-reports_that : goal.returns-in-Err-clause-reports_that
returns-in-Err-clause-reports_that g c =
    let seen : g.row.P.Denot → HandleSeen = λ p. record { made = g.P.Post.made p; errors = g.P.Post.errors p; last = g.P.Post.last_error p } in
    faulted_reports (seen c.args.post.now) (seen c.post_asks.new.post) c.in-Err.fault c.turn_of.result c.turn_of.ensures c.in-Err.ensures.reports_that
