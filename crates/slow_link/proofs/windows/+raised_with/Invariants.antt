use Rattle.std.proofs.Common.{length}
use Rattle.slow_link.proofs.windows.+raised_with.Given as goal

-- one less after the first
abbrev pub decreases-raised_with : goal.decreases-raised_with
decreases-raised_with l = length l.traffic.now
