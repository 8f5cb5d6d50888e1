use Rattle.std.proofs.Common.{◌≡◌, ◌≤◌, ◌-◌, [], List, Option, length, take, drop}
use Rattle.grpc_base.specs.declared.post.PostError.{PostError}
use Rattle.live_pump.specs.Runs.{Eyes, Site, TurnsLinks, eyes_of}
use Rattle.live_pump.specs.Workers.{HasNotFallen}
use Rattle.live_pump.specs.declared.link_turn.OpenLink.{OpenLink}
use Rattle.live_pump.proofs.rounds.links_part.Given as goal

-- what becomes of the links from here on becomes of all
abbrev pub invariant-loop-at : goal.invariant-loop-at
invariant-loop-at g l =
    let eyes : Eyes g.row.P.Denot g.row.T.Denot g.row.I.Denot g.row.O.Denot = eyes_of g.P.Post.made g.P.Post.errors g.P.Post.last_error g.P.Post.last_look g.T.Tender.turns g.T.Tender.last_turn
    g.I.LinkIn.left g.I.LinkIn.faults g.I.LinkIn.quiet g.O.LinkOut.taken g.O.LinkOut.faults g.O.LinkOut.closed in record {
      within : l.at ≤ length l.links.items;
      errors : g.P.Post.errors l.post ≡ g.P.Post.errors l.fn.post;
      share : g.P.Post.share l.post ≡ g.P.Post.share l.fn.post;
      looks : HasNotFallen (g.P.Post.looks l.fn.post) (g.P.Post.looks l.post);
      turns : (after : Site g.row.P.Denot g.row.T.Denot) (left : List (OpenLink g.row.I.Denot g.row.O.Denot)) (end : Option PostError)
          → TurnsLinks eyes (take l.at l.links.items) (record { post = l.post; tender = l.tender }) (drop l.at l.links.items) after left end
          → TurnsLinks eyes [] (record { post = l.fn.post; tender = l.fn.tender }) l.fn.links.items after left end;
    }

abbrev pub decreases-loop-at : goal.decreases-loop-at
decreases-loop-at g l = length l.links.items - l.at
