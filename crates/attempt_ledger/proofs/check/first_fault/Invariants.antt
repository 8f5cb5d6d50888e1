use Rattle.attempt_ledger.proofs.FaultLaws.{ArePassed}
use Rattle.attempt_ledger.proofs.check.first_fault.Given as goal

-- the rows before here break no law, and so many of them are attempts
abbrev pub invariant-loop-place : goal.invariant-loop-place
invariant-loop-place l = ArePassed l.chosen l.rows l.count l.place
