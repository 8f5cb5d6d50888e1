use Rattle.std.proofs.Common.{◌≡◌, ◌≤◌, ◌-◌, [], length}
use Rattle.relay_calls.specs.Posting.{Eyes, eyes_of}
use Rattle.relay_calls.specs.Taking.{GivesUpTo}
use Rattle.relay_calls.proofs.calls.RelayCalls.give_up_all.Given as goal

-- the calls at the places so far were given up
abbrev pub invariant-loop-place : goal.invariant-loop-place
invariant-loop-place g l =
    let eyes : Eyes g.row.P.Denot = eyes_of g.P.Post.made g.P.Post.errors g.P.Post.last_error g.P.Post.looks g.P.Post.last_look in record {
      errors : g.P.Post.errors l.post ≡ g.P.Post.errors l.fn.post;
      share : g.P.Post.share l.post ≡ g.P.Post.share l.fn.post;
      within : l.place ≤ length l.self.calls;
      many : length l.self.calls ≡ length l.fn.self.calls;
      given_up : GivesUpTo eyes l.place (record l.fn.self { waiting = [] }) l.fn.post l.self l.post;
    }

abbrev pub decreases-loop-place : goal.decreases-loop-place
decreases-loop-place g l = length l.self.calls - l.place
