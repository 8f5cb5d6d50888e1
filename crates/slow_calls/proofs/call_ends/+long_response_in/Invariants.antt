use Rattle.std.proofs.Common.{length}
use Rattle.slow_calls.proofs.call_ends.+long_response_in.Given as goal

-- one less after the first
abbrev pub decreases-long_response_in : goal.decreases-long_response_in
decreases-long_response_in l = length l.calls.now
