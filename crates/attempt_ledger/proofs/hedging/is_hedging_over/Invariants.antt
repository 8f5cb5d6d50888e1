use Rattle.std.proofs.Common.{ℕ, List}
use Rattle.attempt_ledger.specs.declared.row.Row.{Row}
use Rattle.attempt_ledger.specs.Hedging.{hedging_ended}
use Rattle.attempt_ledger.proofs.RowLaws.{NoneSoFar}
use Rattle.attempt_ledger.proofs.hedging.is_hedging_over.Given as goal

-- no row before here passes
abbrev pub invariant-loop-place : goal.invariant-loop-place
invariant-loop-place l = NoneSoFar (λ (place : ℕ) (row : Row) (after : List Row). hedging_ended l.policy l.moment row after) l.rows l.place
