use Rattle.std.proofs.Common.{length}
use Rattle.slow_calls.proofs.writing.+streaming_in.Given as goal

-- one less after the first
abbrev pub decreases-streaming_in : goal.decreases-streaming_in
decreases-streaming_in l = length l.attempts.now
