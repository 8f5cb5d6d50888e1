use Rattle.std.proofs.Common.{length}
use Rattle.slow_attempts.proofs.attempts.+commitment_in.Given as goal

-- one less after the first
abbrev pub decreases-commitment_in : goal.decreases-commitment_in
decreases-commitment_in l = length l.attempts.now
