use Rattle.live_pump.specs.Dials.{DialerSeen}
use Rattle.live_pump.specs.Runs.{eyes_of}
use Rattle.live_pump.proofs.CauseLaws.{run_causes, run_kinds}
use Rattle.live_pump.proofs.PrefixLaws.{run_prefixes}
use Rattle.live_pump.proofs.RunLaws.{run_from_none}
use Rattle.live_pump.proofs.rounds.net_worker.Goals as goal

pub returns-clause-run : goal.returns-clause-run
returns-clause-run g c =
    let eyes = eyes_of g.P.Post.made g.P.Post.errors g.P.Post.last_error g.P.Post.last_look g.T.Tender.turns g.T.Tender.last_turn
    g.N.In.LinkIn.left g.N.In.LinkIn.faults g.N.In.LinkIn.quiet g.N.Out.LinkOut.taken g.N.Out.LinkOut.faults g.N.Out.LinkOut.closed in
    let sees : g.row.N.Denot → DialerSeen = λ d. record { coming = g.N.Dialer.coming d; faults = g.N.Dialer.faults d } in
    run_from_none eyes sees (g.C.Clock.may_give c.args.clock.now) _ _ c.args.dialer.now _ _ c.make_rounds.result c.new-links.ensures.items c.make_rounds.ensures.run

pub returns-clause-causes : goal.returns-clause-causes
returns-clause-causes g c =
    let eyes = eyes_of g.P.Post.made g.P.Post.errors g.P.Post.last_error g.P.Post.last_look g.T.Tender.turns g.T.Tender.last_turn
    g.N.In.LinkIn.left g.N.In.LinkIn.faults g.N.In.LinkIn.quiet g.N.Out.LinkOut.taken g.N.Out.LinkOut.faults g.N.Out.LinkOut.closed in
    let sees : g.row.N.Denot → DialerSeen = λ d. record { coming = g.N.Dialer.coming d; faults = g.N.Dialer.faults d } in
    run_causes eyes sees (g.C.Clock.may_give c.args.clock.now) _ _ _ c.make_rounds.result c.make_rounds.ensures.run

pub returns-clause-kinds : goal.returns-clause-kinds
returns-clause-kinds g c =
    let eyes = eyes_of g.P.Post.made g.P.Post.errors g.P.Post.last_error g.P.Post.last_look g.T.Tender.turns g.T.Tender.last_turn
    g.N.In.LinkIn.left g.N.In.LinkIn.faults g.N.In.LinkIn.quiet g.N.Out.LinkOut.taken g.N.Out.LinkOut.faults g.N.Out.LinkOut.closed in
    let sees : g.row.N.Denot → DialerSeen = λ d. record { coming = g.N.Dialer.coming d; faults = g.N.Dialer.faults d } in
    run_kinds eyes sees (g.C.Clock.may_give c.args.clock.now) _ _ _ c.make_rounds.result c.make_rounds.ensures.run

pub returns-clause-prefixes : goal.returns-clause-prefixes
returns-clause-prefixes g c =
    let eyes = eyes_of g.P.Post.made g.P.Post.errors g.P.Post.last_error g.P.Post.last_look g.T.Tender.turns g.T.Tender.last_turn
    g.N.In.LinkIn.left g.N.In.LinkIn.faults g.N.In.LinkIn.quiet g.N.Out.LinkOut.taken g.N.Out.LinkOut.faults g.N.Out.LinkOut.closed in
    let sees : g.row.N.Denot → DialerSeen = λ d. record { coming = g.N.Dialer.coming d; faults = g.N.Dialer.faults d } in
    run_prefixes eyes sees (g.C.Clock.may_give c.args.clock.now) _ _ _ c.make_rounds.result c.new-links.ensures.items c.make_rounds.ensures.run
