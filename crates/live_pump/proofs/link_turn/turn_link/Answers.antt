use Rattle.std.proofs.Common.{subst, Bool, ◌∙◌}
use Rattle.live_pump.specs.Runs.{ClosesUnless, Eyes, eyes_of}
use Rattle.live_pump.proofs.RunLaws.{closed_where_not}
use Rattle.live_pump.proofs.link_turn.turn_link.Goals as goal

pub returns-clause-turned : goal.returns-clause-turned
returns-clause-turned g c =
    let eyes : Eyes g.row.P.Denot g.row.T.Denot g.row.I.Denot g.row.O.Denot = eyes_of g.P.Post.made g.P.Post.errors g.P.Post.last_error g.P.Post.last_look g.T.Tender.turns g.T.Tender.last_turn
    g.I.LinkIn.left g.I.LinkIn.faults g.I.LinkIn.quiet g.O.LinkOut.taken g.O.LinkOut.faults g.O.LinkOut.closed in
    (c.pump_link-answer.new.kept, c.pump_link-answer.ensures.pumped, subst (λ (b : Bool). ClosesUnless eyes.output eyes.closed b c.pump_link-answer.new.kept c.close_unless.new.kept) c.is_going.ensures c.close_unless.ensures)

pub returns-clause-closed : goal.returns-clause-closed
returns-clause-closed g c =
    let eyes : Eyes g.row.P.Denot g.row.T.Denot g.row.I.Denot g.row.O.Denot = eyes_of g.P.Post.made g.P.Post.errors g.P.Post.last_error g.P.Post.last_look g.T.Tender.turns g.T.Tender.last_turn
    g.I.LinkIn.left g.I.LinkIn.faults g.I.LinkIn.quiet g.O.LinkOut.taken g.O.LinkOut.faults g.O.LinkOut.closed in
    λ over. closed_where_not eyes.output eyes.closed c.is_going.result c.pump_link-answer.new.kept c.close_unless.new.kept c.close_unless.ensures (c.is_going.ensures ∙ over)
