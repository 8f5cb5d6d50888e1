use Rattle.std.proofs.Common.{length}
use Rattle.slow_link.proofs.links.+first_written.Given as goal

-- one less after the first
abbrev pub decreases-first_written : goal.decreases-first_written
decreases-first_written l = length l.traffic.now
