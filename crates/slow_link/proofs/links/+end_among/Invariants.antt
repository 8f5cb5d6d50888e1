use Rattle.std.proofs.Common.{length}
use Rattle.slow_link.proofs.links.+end_among.Given as goal

-- one less after the first
abbrev pub decreases-end_among : goal.decreases-end_among
decreases-end_among l = length l.traffic.now
