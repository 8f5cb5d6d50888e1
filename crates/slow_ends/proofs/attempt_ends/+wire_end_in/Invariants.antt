use Rattle.std.proofs.Common.{length}
use Rattle.slow_ends.proofs.attempt_ends.+wire_end_in.Given as goal

-- one less after the first
abbrev pub decreases-wire_end_in : goal.decreases-wire_end_in
decreases-wire_end_in l = length l.attempts.now
