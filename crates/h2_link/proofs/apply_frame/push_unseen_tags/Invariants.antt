use Rattle.std.proofs.Common.{◌≡◌, ◌++◌, length}
use Rattle.std.specs.Prelude.{map}
use Rattle.h2_link.specs.Steps.{unseen}
use Rattle.h2_link.proofs.apply_frame.push_unseen_tags.Given as goal

abbrev pub decreases-loop-tag : goal.decreases-loop-tag
decreases-loop-tag l = length l.waiting

abbrev pub invariant-loop-tag : goal.invariant-loop-tag
invariant-loop-tag l = l.news ++ map (unseen l.seen) l.waiting ≡ l.fn.news ++ map (unseen l.seen) l.fn.waiting
