use Rattle.std.proofs.Common.{◌≡◌, ◌++◌, length, map}
use Rattle.std.specs.Vec.Iter.{into_iter_items}
use Rattle.session_actions.specs.Closing.{noted_gone}
use Rattle.slow_changes.proofs.entries.note_gone.Given as goal

-- the links so far, and those that are left
abbrev pub invariant-loop-link : goal.invariant-loop-link
invariant-loop-link l =
    l.noted.items ++ map (noted_gone l.seen) (into_iter_items l.rest) ≡ map (noted_gone l.seen) l.fn.links.items

abbrev pub decreases-loop-link : goal.decreases-loop-link
decreases-loop-link l = length (into_iter_items l.rest)
