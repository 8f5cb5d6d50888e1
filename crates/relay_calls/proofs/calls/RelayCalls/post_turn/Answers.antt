use Rattle.live_pump.specs.Pumps.{HandleSeen}
use Rattle.relay_calls.specs.Posting.{Eyes, eyes_of}
use Rattle.relay_calls.proofs.PostLaws.{posts_turn, posts_turn_cut}
use Rattle.relay_calls.proofs.ReportLaws.{reports_from}
use Rattle.relay_calls.proofs.calls.RelayCalls.post_turn.Goals as goal

pub returns-in-Ok-clause-posted : goal.returns-in-Ok-clause-posted
returns-in-Ok-clause-posted g c =
    let eyes : Eyes g.row.P.Denot = eyes_of g.P.Post.made g.P.Post.errors g.P.Post.last_error g.P.Post.looks g.P.Post.last_look in
    posts_turn eyes c.args.self.now c.take_waiting-waited.new.self _ _ _ _ _ _ _ _ c.take_waiting-waited.ensures.taken c.take_waiting-waited.ensures.rest c.in-Ok.ensures.posted c.post_all-in-Ok.ensures.posted

pub returns-in-Ok-clause-reports_that : goal.returns-in-Ok-clause-reports_that
returns-in-Ok-clause-reports_that g c =
    let seen : g.row.P.Denot → HandleSeen = λ p. record { made = g.P.Post.made p; errors = g.P.Post.errors p; last = g.P.Post.last_error p } in
    reports_from (seen c.args.post.now) (seen c.post_all.new.post) (seen c.post_all-in-Ok.new.post) c.post_all-in-Ok.result c.in-Ok.ensures.reports_that c.post_all-in-Ok.ensures.reports_that

pub returns-in-Err-clause-posted : goal.returns-in-Err-clause-posted
returns-in-Err-clause-posted g c =
    let eyes : Eyes g.row.P.Denot = eyes_of g.P.Post.made g.P.Post.errors g.P.Post.last_error g.P.Post.looks g.P.Post.last_look in
    posts_turn_cut eyes c.args.self.now c.take_waiting-waited.new.self _ _ _ _ _ c.in-Err.fault c.take_waiting-waited.ensures.taken c.take_waiting-waited.ensures.rest c.in-Err.ensures.posted
