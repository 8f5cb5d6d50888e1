use Rattle.std.proofs.Common.{length}
use Rattle.slow_link.proofs.links.+goaway_among.Given as goal

-- one less after the first
abbrev pub decreases-goaway_among : goal.decreases-goaway_among
decreases-goaway_among l = length l.traffic.now
