use Rattle.std.proofs.Common.{length}
use Rattle.slow_calls.proofs.writing.+first_data_in.Given as goal

-- one less after the first
abbrev pub decreases-first_data_in : goal.decreases-first_data_in
decreases-first_data_in l = length l.attempts.now
