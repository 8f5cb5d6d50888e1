use Rattle.std.proofs.Common.{length}
use Rattle.slow_ends.proofs.commitments.+headed_in.Given as goal

-- one less after the first
abbrev pub decreases-headed_in : goal.decreases-headed_in
decreases-headed_in l = length l.attempts.now
