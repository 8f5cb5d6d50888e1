use Rattle.std.proofs.Common.{length}
use Rattle.slow_link.proofs.windows.+used_with.Given as goal

-- one less after the first
abbrev pub decreases-used_with : goal.decreases-used_with
decreases-used_with l = length l.traffic.now
