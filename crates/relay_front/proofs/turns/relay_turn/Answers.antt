use Rattle.std.proofs.Common.{Err, ap, ◌∙◌}
use Rattle.relay_calls.specs.Posting.{Eyes, eyes_of}
use Rattle.relay_front.proofs.TurnLaws.{takes_piece, turns_broken_as, turns_wanting, turns_whole, whole_taken, whole_wanting}
use Rattle.relay_front.proofs.turns.relay_turn.Goals as goal

pub returns-in-Ok-clause-turns : goal.returns-in-Ok-clause-turns
returns-in-Ok-clause-turns g c =
    let eyes : Eyes g.row.P.Denot = eyes_of g.P.Post.made g.P.Post.errors g.P.Post.last_error g.P.Post.looks g.P.Post.last_look in
    turns_whole eyes _ c.args.core.now _ _ _ _ _ (whole_taken _ c.arrived.result c.in-Ok.asks c.in-Ok.is c.arrived.ensures.broken)
    (takes_piece eyes c.args.core.now c.arrived.new.self _ _ _ _ _ _ c.arrived.ensures.calls c.in-Ok.ensures.asks c.serve_asks.ensures.serves)

pub returns-in-Err-Broken-clause-turns : goal.returns-in-Err-Broken-clause-turns
returns-in-Err-Broken-clause-turns g c =
    let eyes : Eyes g.row.P.Denot = eyes_of g.P.Post.made g.P.Post.errors g.P.Post.last_error g.P.Post.looks g.P.Post.last_look in
    turns_broken_as eyes c.arrived.result c.in-Err-Broken.code c.args.core.now c.arrived.new.self _ _ (c.in-Err-Broken.is ∙ ap Err c.in-Err-Broken.field-0-is) c.arrived.ensures.broken c.arrived.ensures.same

pub returns-in-Err-NoMemory-clause-turns : goal.returns-in-Err-NoMemory-clause-turns
returns-in-Err-NoMemory-clause-turns g c =
    let eyes : Eyes g.row.P.Denot = eyes_of g.P.Post.made g.P.Post.errors g.P.Post.last_error g.P.Post.looks g.P.Post.last_look in
    turns_wanting eyes _ c.args.core.now _ _ _ (whole_wanting _ c.arrived.result (c.in-Err-NoMemory.is ∙ ap Err c.in-Err-NoMemory.field-0-is) c.arrived.ensures.broken)
