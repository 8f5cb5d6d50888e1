use Rattle.std.proofs.Common.{length}
use Rattle.slow_link.proofs.links.+first_read.Given as goal

-- one less after the first
abbrev pub decreases-first_read : goal.decreases-first_read
decreases-first_read l = length l.traffic.now
