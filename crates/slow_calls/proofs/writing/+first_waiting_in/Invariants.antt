use Rattle.std.proofs.Common.{length}
use Rattle.slow_calls.proofs.writing.+first_waiting_in.Given as goal

-- one less after the first
abbrev pub decreases-first_waiting_in : goal.decreases-first_waiting_in
decreases-first_waiting_in l = length l.attempts.now
