use Rattle.std.proofs.Common.{◌≡◌, ◌++◌, length, map}
use Rattle.std.specs.Vec.Iter.{into_iter_items}
use Rattle.session_actions.specs.Subchannels.{noted_state}
use Rattle.slow_changes.proofs.policies.note_all.Given as goal

-- the policies so far, and those that are left
abbrev pub invariant-loop-policy : goal.invariant-loop-policy
invariant-loop-policy l =
    l.noted.items ++ map (noted_state l.seen l.sub) (into_iter_items l.rest) ≡ map (noted_state l.seen l.sub) l.fn.policies.items

abbrev pub decreases-loop-policy : goal.decreases-loop-policy
decreases-loop-policy l = length (into_iter_items l.rest)
