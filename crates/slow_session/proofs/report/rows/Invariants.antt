use Rattle.std.proofs.Common.{◌≡◌, ◌++◌, length, map}
use Rattle.std.specs.Vec.Iter.{into_iter_items}
use Rattle.slow_session.proofs.report.rows.Given as goal

-- the rows so far, and those of the attempts that are left
abbrev pub invariant-loop-attempt : goal.invariant-loop-attempt
invariant-loop-attempt l = l.rows.items ++ map (λ a. a.row) (into_iter_items l.rest) ≡ map (λ a. a.row) l.fn.attempts.items

abbrev pub decreases-loop-attempt : goal.decreases-loop-attempt
decreases-loop-attempt l = length (into_iter_items l.rest)
