use Rattle.std.proofs.Common.{length}
use Rattle.slow_ends.proofs.resets.+first_reset_in.Given as goal

-- one less after the first
abbrev pub decreases-first_reset_in : goal.decreases-first_reset_in
decreases-first_reset_in l = length l.attempts.now
