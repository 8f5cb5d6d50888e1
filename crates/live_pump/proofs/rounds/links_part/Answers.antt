use Rattle.std.proofs.Common.{refl, ◌∙◌, arith}
use Rattle.live_pump.specs.Runs.{Eyes, eyes_of}
use Rattle.live_pump.proofs.RunLaws.{turned_all}
use Rattle.live_pump.proofs.rounds.links_part.Goals as goal

pub loop-at-init : goal.loop-at-init
loop-at-init g c = record { within = omega arith; errors = refl; share = refl; looks = omega arith; turns = λ after left end later. later }

pub loop-at-preserved : goal.loop-at-preserved
loop-at-preserved g c = record {
  within = c.in-Ok.ensures.passed.0;
  errors = c.in-Ok.ensures.part ∙ c.loop-at.invariant.errors;
  share = c.turn_at.ensures.share ∙ c.loop-at.invariant.share;
  looks = omega arith;
  turns = λ after left end later. c.loop-at.invariant.turns after left end (c.in-Ok.ensures.turned after left end later);
}

pub returns-in-Err-clause-turned : goal.returns-in-Err-clause-turned
returns-in-Err-clause-turned g c = c.loop-at.invariant.turns _ _ _ c.in-Err.ensures.ended

pub returns-clause-turned : goal.returns-clause-turned
returns-clause-turned g c =
    let eyes : Eyes g.row.P.Denot g.row.T.Denot g.row.I.Denot g.row.O.Denot = eyes_of g.P.Post.made g.P.Post.errors g.P.Post.last_error g.P.Post.last_look g.T.Tender.turns g.T.Tender.last_turn
    g.I.LinkIn.left g.I.LinkIn.faults g.I.LinkIn.quiet g.O.LinkOut.taken g.O.LinkOut.faults g.O.LinkOut.closed in
    c.loop-at.invariant.turns _ _ _ (turned_all eyes c.loop-at.links.items c.loop-at.at (record { post = c.loop-at.post; tender = c.loop-at.tender }) (omega arith))
