use Rattle.std.proofs.Common.{length}
use Rattle.slow_attempts.proofs.due.+last_delayed_in.Given as goal

-- one less after the first
abbrev pub decreases-last_delayed_in : goal.decreases-last_delayed_in
decreases-last_delayed_in l = length l.attempts.now
