use Rattle.std.proofs.Common.{length}
use Rattle.slow_link.proofs.links.+last_end.Given as goal

-- one less after the first
abbrev pub decreases-last_end : goal.decreases-last_end
decreases-last_end l = length l.traffic.now
