use Rattle.std.proofs.Common.{◌≡◌, max, drop}
use Rattle.attempt_ledger.specs.Retries.{last_delayed}
use Rattle.attempt_ledger.proofs.retries.last_delayed.Given as goal

-- the greatest so far
abbrev pub invariant-loop-place : goal.invariant-loop-place
invariant-loop-place l = max l.last (last_delayed l.number (drop l.place l.rows)) ≡ last_delayed l.number l.rows
