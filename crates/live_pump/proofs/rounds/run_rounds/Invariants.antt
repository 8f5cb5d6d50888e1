use Rattle.std.proofs.Common.{◌≡◌, List}
use Rattle.live_pump.specs.Dials.{DialerSeen}
use Rattle.live_pump.specs.Runs.{RoundsOn, Stand, eyes_of}
use Rattle.live_pump.specs.Workers.{HasNotFallen}
use Rattle.live_pump.proofs.rounds.run_rounds.Given as goal

-- none of the rounds so far ends the worker
abbrev pub invariant-loop : goal.invariant-loop
invariant-loop g l =
    let eyes = eyes_of g.P.Post.made g.P.Post.errors g.P.Post.last_error g.P.Post.last_look g.T.Tender.turns g.T.Tender.last_turn
    g.N.In.LinkIn.left g.N.In.LinkIn.faults g.N.In.LinkIn.quiet g.N.Out.LinkOut.taken g.N.Out.LinkOut.faults g.N.Out.LinkOut.closed in
    let sees : g.row.N.Denot → DialerSeen = λ d. record { coming = g.N.Dialer.coming d; faults = g.N.Dialer.faults d } in record {
      errors : g.P.Post.errors l.post ≡ g.P.Post.errors l.fn.post;
      share : g.P.Post.share l.post ≡ g.P.Post.share l.fn.post;
      looks : HasNotFallen (g.P.Post.looks l.fn.post) (g.P.Post.looks l.post);
      rounds : List (Stand g.row.P.Denot g.row.T.Denot g.row.N.Denot _ _);
      goes_on : RoundsOn eyes sees (g.C.Clock.may_give l.clock) (record { site = record { post = l.fn.post; tender = l.fn.tender }; dialer = l.fn.dialer; links = l.fn.links.items }) rounds
          (record { site = record { post = l.post; tender = l.tender }; dialer = l.dialer; links = l.links.items });
    }
