use Rattle.std.proofs.Common.{length}
use Rattle.slow_link.proofs.writing.+add_named.Given as goal

-- one less after the first
abbrev pub decreases-add_named : goal.decreases-add_named
decreases-add_named l = length l.traffic.now
