use Rattle.std.proofs.Common.{length}
use Rattle.slow_calls.proofs.call_ends.+past_deadline_in.Given as goal

-- one less after the first
abbrev pub decreases-past_deadline_in : goal.decreases-past_deadline_in
decreases-past_deadline_in l = length l.calls.now
