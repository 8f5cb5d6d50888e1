use Rattle.attempt_ledger.specs.TransparentRows.{is_taken_by}
use Rattle.attempt_ledger.proofs.RowLaws.{NoneSoFar}
use Rattle.attempt_ledger.proofs.transparent.is_retry_taken.Given as goal

-- no row before here passes
abbrev pub invariant-loop-other_place : goal.invariant-loop-other_place
invariant-loop-other_place l = NoneSoFar (is_taken_by l.end l.place) l.rows l.other_place
