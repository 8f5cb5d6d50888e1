use Rattle.std.proofs.Common.{[], ◌∷◌, ◌++◌, refl, ◌∙◌, arith}
use Rattle.live_pump.specs.Dials.{DialerSeen}
use Rattle.live_pump.specs.Runs.{eyes_of}
use Rattle.live_pump.proofs.RunLaws.{rounds_more}
use Rattle.live_pump.proofs.rounds.run_rounds.Goals as goal

pub loop-init : goal.loop-init
loop-init g c = record { errors = refl; share = refl; looks = omega arith; rounds = []; goes_on = refl }

pub loop-preserved : goal.loop-preserved
loop-preserved g c =
    let eyes = eyes_of g.P.Post.made g.P.Post.errors g.P.Post.last_error g.P.Post.last_look g.T.Tender.turns g.T.Tender.last_turn
    g.N.In.LinkIn.left g.N.In.LinkIn.faults g.N.In.LinkIn.quiet g.N.Out.LinkOut.taken g.N.Out.LinkOut.faults g.N.Out.LinkOut.closed in
    let sees : g.row.N.Denot → DialerSeen = λ d. record { coming = g.N.Dialer.coming d; faults = g.N.Dialer.faults d } in
    record {
      errors = c.in_default.ensures.round ∙ c.loop.invariant.errors;
      share = c.round.ensures.share ∙ c.loop.invariant.share;
      looks = omega arith;
      rounds = c.loop.invariant.rounds ++ record { site = record { post = c.round.new.post; tender = c.round.new.tender }; dialer = c.round.new.dialer; links = c.round.new.links.items } ∷ [];
      goes_on = rounds_more eyes sees (g.C.Clock.may_give c.args.clock.now) _ c.loop.invariant.rounds _ _ c.loop.invariant.goes_on c.in_default.ensures.parts;
    }

pub returns-in-Some-round-clause-run : goal.returns-in-Some-round-clause-run
returns-in-Some-round-clause-run g c = record {
  rounds = c.loop.invariant.rounds;
  last = record { site = record { post = c.loop.post; tender = c.loop.tender }; dialer = c.loop.dialer; links = c.loop.links.items };
  goes_on = c.loop.invariant.goes_on;
  ends = c.in-Some-round.ensures.parts;
}
