use Rattle.std.proofs.Common.{sym, ◌∙◌, arith}
use Rattle.live_pump.specs.Runs.{Eyes, eyes_of}
use Rattle.live_pump.proofs.RunLaws.{fails_with, given_up_reports, goes_on, turned_failed, turned_off, turned_on}
use Rattle.live_pump.proofs.rounds.turn_at.Goals as goal

pub returns-then-is_given_up-clause-part : goal.returns-then-is_given_up-clause-part
returns-then-is_given_up-clause-part g c =
    let eyes : Eyes g.row.P.Denot g.row.T.Denot g.row.I.Denot g.row.O.Denot = eyes_of g.P.Post.made g.P.Post.errors g.P.Post.last_error g.P.Post.last_look g.T.Tender.turns g.T.Tender.last_turn
    g.I.LinkIn.left g.I.LinkIn.faults g.I.LinkIn.quiet g.O.LinkOut.taken g.O.LinkOut.faults g.O.LinkOut.closed in
    given_up_reports (eyes.handle c.args.post.now) (eyes.handle c.turn_link-answer.new.post) c.turn_link-answer.result (sym c.is_given_up.ensures ∙ c.if-is_given_up.true) c.turn_link-answer.ensures.reports_that

pub returns-then-is_given_up-clause-turned : goal.returns-then-is_given_up-clause-turned
returns-then-is_given_up-clause-turned g c =
    let eyes : Eyes g.row.P.Denot g.row.T.Denot g.row.I.Denot g.row.O.Denot = eyes_of g.P.Post.made g.P.Post.errors g.P.Post.last_error g.P.Post.last_look g.T.Tender.turns g.T.Tender.last_turn
    g.I.LinkIn.left g.I.LinkIn.faults g.I.LinkIn.quiet g.O.LinkOut.taken g.O.LinkOut.faults g.O.LinkOut.closed in
    λ after left end later.
    turned_off eyes c.args.links.now.items _ c.args.at _ c.index_mut-kept.result.now c.turn_link-answer.new.kept c.turn_link-answer.result _ _ after left end c.requires c.index_mut-kept.ensures.value c.turn_link-answer.ensures.turned
    (sym c.is_given_up.ensures ∙ c.if-is_given_up.true) c.remove.ensures.by_index.2 (omega arith) later

pub returns-in-Some-clause-ended : goal.returns-in-Some-clause-ended
returns-in-Some-clause-ended g c =
    let eyes : Eyes g.row.P.Denot g.row.T.Denot g.row.I.Denot g.row.O.Denot = eyes_of g.P.Post.made g.P.Post.errors g.P.Post.last_error g.P.Post.last_look g.T.Tender.turns g.T.Tender.last_turn
    g.I.LinkIn.left g.I.LinkIn.faults g.I.LinkIn.quiet g.O.LinkOut.taken g.O.LinkOut.faults g.O.LinkOut.closed in
    turned_failed eyes c.args.links.now.items c.args.at c.index_mut-kept.result.now c.turn_link-answer.new.kept c.turn_link-answer.result c.in-Some.error _ _ c.requires c.index_mut-kept.ensures.value c.turn_link-answer.ensures.turned
    (fails_with c.turn_link-answer.result c.in-Some.error c.in-Some.ensures)

pub returns-in-None-clause-turned : goal.returns-in-None-clause-turned
returns-in-None-clause-turned g c =
    let eyes : Eyes g.row.P.Denot g.row.T.Denot g.row.I.Denot g.row.O.Denot = eyes_of g.P.Post.made g.P.Post.errors g.P.Post.last_error g.P.Post.last_look g.T.Tender.turns g.T.Tender.last_turn
    g.I.LinkIn.left g.I.LinkIn.faults g.I.LinkIn.quiet g.O.LinkOut.taken g.O.LinkOut.faults g.O.LinkOut.closed in
    λ after left end later.
    turned_on eyes c.args.links.now.items c.args.at c.index_mut-kept.result.now c.turn_link-answer.new.kept c.turn_link-answer.result _ _ after left end c.requires c.index_mut-kept.ensures.value c.turn_link-answer.ensures.turned
    (goes_on c.turn_link-answer.result (sym c.is_given_up.ensures ∙ c.if-is_given_up.false) c.in-None.ensures) later
