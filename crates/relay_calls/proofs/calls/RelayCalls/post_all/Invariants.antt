use Rattle.std.proofs.Common.{◌≡◌, Result, length}
use Rattle.std.specs.Vec.Iter.{into_iter_items}
use Rattle.relay_calls.specs.Calls.{Calls}
use Rattle.relay_calls.specs.Posting.{Eyes, PostsAll, eyes_of}
use Rattle.relay_calls.specs.declared.fault.CallsFault.{CallsFault}
use Rattle.relay_calls.proofs.calls.RelayCalls.post_all.Given as goal

-- what becomes of the asks that are left becomes of all
abbrev pub invariant-loop-ask : goal.invariant-loop-ask
invariant-loop-ask g l =
    let eyes : Eyes g.row.P.Denot = eyes_of g.P.Post.made g.P.Post.errors g.P.Post.last_error g.P.Post.looks g.P.Post.last_look in record {
      errors : g.P.Post.errors l.post ≡ g.P.Post.errors l.fn.post;
      share : g.P.Post.share l.post ≡ g.P.Post.share l.fn.post;
      later : (after : Calls) (post : g.row.P.Denot) (result : Result Unit CallsFault)
          → PostsAll eyes l.self l.post (into_iter_items l.rest) after post result → PostsAll eyes l.fn.self l.fn.post l.fn.asks.items after post result;
    }

abbrev pub decreases-loop-ask : goal.decreases-loop-ask
decreases-loop-ask g l = length (into_iter_items l.rest)
