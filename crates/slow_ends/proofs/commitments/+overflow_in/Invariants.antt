use Rattle.std.proofs.Common.{length}
use Rattle.slow_ends.proofs.commitments.+overflow_in.Given as goal

-- one less after the first
abbrev pub decreases-overflow_in : goal.decreases-overflow_in
decreases-overflow_in l = length l.calls.now
