use Rattle.std.proofs.Common.{length}
use Rattle.slow_calls.proofs.wire.+going_on_in.Given as goal

-- one less after the first
abbrev pub decreases-going_on_in : goal.decreases-going_on_in
decreases-going_on_in l = length l.attempts.now
