use Rattle.attempt_ledger.specs.TransparentRows.{follows}
use Rattle.attempt_ledger.proofs.RowLaws.{NoneSoFar}
use Rattle.attempt_ledger.proofs.transparent.follows_some.Given as goal

-- no row before here passes
abbrev pub invariant-loop-place : goal.invariant-loop-place
invariant-loop-place l = NoneSoFar (follows l.rows l.follower) l.before l.place
