use Rattle.std.proofs.Common.{◌≡◌, ◌++◌, length}
use Rattle.std.specs.Vec.Iter.{into_iter_items}
use Rattle.grpc_link.proofs.link.append.Given as goal

abbrev pub invariant-loop-news : goal.invariant-loop-news
invariant-loop-news l = l.all ++ into_iter_items l.rest ≡ l.fn.all ++ l.fn.more

abbrev pub decreases-loop-news : goal.decreases-loop-news
decreases-loop-news l = length (into_iter_items l.rest)
