use Rattle.std.proofs.Common.{length}
use Rattle.slow_attempts.proofs.final_ends.+last_counted_in.Given as goal

-- one less after the first
abbrev pub decreases-last_counted_in : goal.decreases-last_counted_in
decreases-last_counted_in l = length l.marks.now
