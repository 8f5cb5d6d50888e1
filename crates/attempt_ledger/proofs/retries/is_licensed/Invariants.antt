use Rattle.std.proofs.Common.{ℕ, List}
use Rattle.attempt_ledger.specs.declared.row.Row.{Row}
use Rattle.attempt_ledger.specs.Retries.{is_licensed_by}
use Rattle.attempt_ledger.proofs.RowLaws.{NoneSoFar}
use Rattle.attempt_ledger.proofs.retries.is_licensed.Given as goal

-- no row before here passes
abbrev pub invariant-loop-place : goal.invariant-loop-place
invariant-loop-place l = NoneSoFar (λ (place : ℕ) (row : Row) (after : List Row). is_licensed_by l.chosen l.rows l.retry row after) l.rows l.place
