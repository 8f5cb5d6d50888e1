use Rattle.std.proofs.Common.{Some, refl, sym, subst}
use Rattle.live_pump.specs.Pumps.{HandleSeen}
use Rattle.relay_calls.specs.Posting.{Eyes, eyes_of}
use Rattle.relay_front.specs.Rounds.{Finishes, ReportsEnd}
use Rattle.relay_front.specs.declared.links.LinkEnd.{LinkEnd}
use Rattle.relay_front.specs.declared.turned.RelayTurn.TheVariants as broken
use Rattle.relay_front.proofs.ReportLaws.{link_from, link_turned}
use Rattle.relay_front.proofs.links.finish.Goals as goal

pub returns-in-Lost-clause-reports_that : goal.returns-in-Lost-clause-reports_that
returns-in-Lost-clause-reports_that g c =
    let seen : g.row.P.Denot → HandleSeen = λ p. record { made = g.P.Post.made p; errors = g.P.Post.errors p; last = g.P.Post.last_error p } in
    λ start h. link_from start (seen c.args.post.now) (seen c.relay_close.new.post) c.relay_close.result (subst (λ (e : LinkEnd). ReportsEnd start (seen c.args.post.now) (Some e)) c.in-Lost.is h) c.relay_close.ensures.reports_that

pub returns-in-Broken-clause-finishes : goal.returns-in-Broken-clause-finishes
returns-in-Broken-clause-finishes g c =
    let eyes : Eyes g.row.P.Denot = eyes_of g.P.Post.made g.P.Post.errors g.P.Post.last_error g.P.Post.looks g.P.Post.last_look in
    subst (λ (e : LinkEnd). Finishes eyes e c.args.core.now c.args.post.now c.relay_close-in-Broken.new.core c.relay_close-in-Broken.new.post (broken.Broken c.in-Broken.code)) (sym c.in-Broken.is) (c.relay_close-in-Broken.result, c.relay_close-in-Broken.ensures.closes, refl)

pub returns-in-Broken-clause-reports_that : goal.returns-in-Broken-clause-reports_that
returns-in-Broken-clause-reports_that g c = λ start h. tt

pub returns-in-Turned-clause-reports_that : goal.returns-in-Turned-clause-reports_that
returns-in-Turned-clause-reports_that g c =
    let seen : g.row.P.Denot → HandleSeen = λ p. record { made = g.P.Post.made p; errors = g.P.Post.errors p; last = g.P.Post.last_error p } in
    λ start h. link_turned start (seen c.args.post.now) c.in-Turned.turn (subst (λ (e : LinkEnd). ReportsEnd start (seen c.args.post.now) (Some e)) c.in-Turned.is h)

pub returns-in-NoMemory-clause-reports_that : goal.returns-in-NoMemory-clause-reports_that
returns-in-NoMemory-clause-reports_that g c =
    let seen : g.row.P.Denot → HandleSeen = λ p. record { made = g.P.Post.made p; errors = g.P.Post.errors p; last = g.P.Post.last_error p } in
    λ start h. subst (λ (e : LinkEnd). ReportsEnd start (seen c.args.post.now) (Some e)) c.in-NoMemory.is h
