use Rattle.std.proofs.Common.{length}
use Rattle.slow_calls.proofs.deliveries.+with_messages.Given as goal

-- one less after the first
abbrev pub decreases-with_messages : goal.decreases-with_messages
decreases-with_messages l = length l.messages.now
