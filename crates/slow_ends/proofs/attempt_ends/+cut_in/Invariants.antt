use Rattle.std.proofs.Common.{length}
use Rattle.slow_ends.proofs.attempt_ends.+cut_in.Given as goal

-- one less after the first
abbrev pub decreases-cut_in : goal.decreases-cut_in
decreases-cut_in l = length l.attempts.now
