use Rattle.std.proofs.Common.{◌≡◌, ◌≤◌, ◌-◌, length}
use Rattle.relay_calls.specs.Posting.{Eyes, eyes_of}
use Rattle.relay_front.specs.Turns.{GivesTo}
use Rattle.relay_front.proofs.turns.take_all.Given as goal

-- the calls at the places so far were taken of
abbrev pub invariant-loop-place : goal.invariant-loop-place
invariant-loop-place g l =
    let eyes : Eyes g.row.P.Denot = eyes_of g.P.Post.made g.P.Post.errors g.P.Post.last_error g.P.Post.looks g.P.Post.last_look in record {
      errors : g.P.Post.errors l.post ≡ g.P.Post.errors l.fn.post;
      share : g.P.Post.share l.post ≡ g.P.Post.share l.fn.post;
      within : l.place ≤ length l.core.calls.calls;
      many : length l.core.calls.calls ≡ length l.fn.core.calls.calls;
      given : GivesTo eyes l.place l.fn.core l.fn.post l.core l.post;
    }

abbrev pub decreases-loop-place : goal.decreases-loop-place
decreases-loop-place g l = length l.core.calls.calls - l.place
