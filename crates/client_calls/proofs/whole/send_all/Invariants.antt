use Rattle.std.proofs.Common.{◌≡◌, ◌++◌, ℕ, List, length}
use Rattle.client_calls.specs.Entries.{others_in}
use Rattle.client_calls.specs.Exchanges.{Sends}
use Rattle.client_calls.proofs.whole.send_all.Given as goal

-- what is done was sent, and the rest is left
abbrev pub invariant-loop-message : goal.invariant-loop-message
invariant-loop-message g l = record {
  errors : g.P.Post.errors l.post ≡ g.P.Post.errors l.fn.post;
  share : g.P.Post.share l.post ≡ g.P.Post.share l.fn.post;
  others : others_in (g.P.Post.made l.post) ≡ others_in (g.P.Post.made l.fn.post);
  done : List (List ℕ);
  parts : l.messages ≡ done ++ l.rest;
  so_far : Sends l.call done (g.P.Post.made l.fn.post) (g.P.Post.made l.post);
}

abbrev pub decreases-loop-message : goal.decreases-loop-message
decreases-loop-message g l = length l.rest
