use Rattle.std.proofs.Common.{length}
use Rattle.slow_net.proofs.queue.+foremost_of.Given as goal

-- one attempt less
abbrev pub decreases-foremost_of : goal.decreases-foremost_of
decreases-foremost_of l = length l.attempts.now
