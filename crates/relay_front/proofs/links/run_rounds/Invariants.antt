use Rattle.std.proofs.Common.{◌≡◌, List}
use Rattle.relay_calls.specs.Posting.{eyes_of}
use Rattle.relay_front.specs.Rounds.{LinkEyes, RoundsOn, Stand, link_eyes_of}
use Rattle.relay_front.proofs.links.run_rounds.Given as goal

-- none of the rounds so far ends the job
abbrev pub invariant-loop : goal.invariant-loop
invariant-loop g l =
    let eyes : LinkEyes g.row.P.Denot g.row.I.Denot g.row.O.Denot = link_eyes_of (eyes_of g.P.Post.made g.P.Post.errors g.P.Post.last_error g.P.Post.looks g.P.Post.last_look)
    g.I.LinkIn.left g.I.LinkIn.faults g.I.LinkIn.quiet g.O.LinkOut.taken g.O.LinkOut.faults in record {
      errors : g.P.Post.errors l.post ≡ g.P.Post.errors l.fn.post;
      share : g.P.Post.share l.post ≡ g.P.Post.share l.fn.post;
      rounds : List (Stand g.row.P.Denot g.row.I.Denot g.row.O.Denot);
      goes_on : RoundsOn eyes (record { core = l.fn.core; post = l.fn.post; input = l.fn.input; output = l.fn.output }) rounds (record { core = l.core; post = l.post; input = l.input; output = l.output });
    }
