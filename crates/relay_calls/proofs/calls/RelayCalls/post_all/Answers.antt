use Rattle.std.proofs.Common.{◌≡◌, [], Err, List, refl, sym, subst, ◌∙◌}
use Rattle.std.proofs.lemmas.List.{nil_from_length}
use Rattle.std.specs.Vec.Iter.{into_iter_items}
use Rattle.live_pump.specs.Pumps.{HandleSeen}
use Rattle.relay_asks.specs.declared.ask.RelayAsk.{RelayAsk}
use Rattle.relay_calls.specs.Posting.{Eyes, PostsAll, eyes_of}
use Rattle.relay_calls.proofs.PostLaws.{posts_fault, posts_first, posts_none}
use Rattle.relay_calls.proofs.ReportLaws.{reports_from}
use Rattle.relay_calls.proofs.calls.RelayCalls.post_all.Goals as goal

pub loop-ask-init : goal.loop-ask-init
loop-ask-init g c =
    let eyes : Eyes g.row.P.Denot = eyes_of g.P.Post.made g.P.Post.errors g.P.Post.last_error g.P.Post.looks g.P.Post.last_look in
    record {
      errors = refl;
      share = refl;
      later = λ after post result h. subst (λ (l : List RelayAsk). PostsAll eyes c.args.self.now c.args.post.now l after post result) c.into_iter-rest.ensures.rest h;
    }

pub loop-ask-preserved : goal.loop-ask-preserved
loop-ask-preserved g c =
    let eyes : Eyes g.row.P.Denot = eyes_of g.P.Post.made g.P.Post.errors g.P.Post.last_error g.P.Post.looks g.P.Post.last_look in
    record {
      errors = c.in-Ok.ensures.reports_that ∙ c.loop-ask.invariant.errors;
      share = c.in-Ok.ensures.share ∙ c.loop-ask.invariant.share;
      later = λ after post result h. c.loop-ask.invariant.later after post result (posts_first eyes _ c.in-Some.ask _ _ _ after _ _ post result c.in-Some.ensures.items c.in-Ok.ensures.posted h);
    }

pub returns-in-Err-clause-posted : goal.returns-in-Err-clause-posted
returns-in-Err-clause-posted g c =
    let eyes : Eyes g.row.P.Denot = eyes_of g.P.Post.made g.P.Post.errors g.P.Post.last_error g.P.Post.looks g.P.Post.last_look in
    c.loop-ask.invariant.later _ _ _ (posts_fault eyes _ c.in-Some.ask _ _ _ _ _ c.in-Err.fault c.in-Some.ensures.items c.in-Err.ensures.posted)

pub returns-in-Err-clause-reports_that : goal.returns-in-Err-clause-reports_that
returns-in-Err-clause-reports_that g c =
    let seen : g.row.P.Denot → HandleSeen = λ p. record { made = g.P.Post.made p; errors = g.P.Post.errors p; last = g.P.Post.last_error p } in
    reports_from (seen c.args.post.now) (seen c.loop-ask.post) (seen c.post_ask.new.post) (Err c.in-Err.fault) c.loop-ask.invariant.errors c.in-Err.ensures.reports_that

pub returns-clause-posted : goal.returns-clause-posted
returns-clause-posted g c =
    let eyes : Eyes g.row.P.Denot = eyes_of g.P.Post.made g.P.Post.errors g.P.Post.last_error g.P.Post.looks g.P.Post.last_look in
    let none : ◌≡◌ {A = List RelayAsk} (into_iter_items c.loop-ask.rest) [] = nil_from_length (into_iter_items c.loop-ask.rest) (sym c.loop-ask.rest.rest.ok.0 ∙ c.in_default.ensures.cases.0) in
    c.loop-ask.invariant.later _ _ _ (posts_none eyes _ _ _ none)
