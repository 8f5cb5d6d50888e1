use Rattle.std.proofs.Common.{length}
use Rattle.slow_ends.proofs.commitments.+furthest_in.Given as goal

-- one less after the first
abbrev pub decreases-furthest_in : goal.decreases-furthest_in
decreases-furthest_in l = length l.attempts.now
