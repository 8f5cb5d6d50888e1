use Rattle.std.proofs.Common.{◌≡◌}
use Rattle.client_calls.specs.Entries.{others_in}
use Rattle.client_calls.proofs.ExchangeLaws.{Gathers}
use Rattle.client_calls.proofs.whole.gather_to_end.Given as goal

-- what was received so far is in what was gathered
abbrev pub invariant-loop : goal.invariant-loop
invariant-loop g l = record {
  errors : g.P.Post.errors l.post ≡ g.P.Post.errors l.fn.post;
  share : g.P.Post.share l.post ≡ g.P.Post.share l.fn.post;
  others : others_in (g.P.Post.made l.post) ≡ others_in (g.P.Post.made l.fn.post);
  gathers : Gathers l.call (g.P.Post.made l.fn.post) (g.P.Post.made l.post) l.gathered.head l.gathered.messages.items;
}
