use Rattle.std.proofs.Common.{length}
use Rattle.slow_ends.proofs.streams.+framed_size.Given as goal

-- one less after the first
abbrev pub decreases-framed_size : goal.decreases-framed_size
decreases-framed_size l = length l.messages.now
