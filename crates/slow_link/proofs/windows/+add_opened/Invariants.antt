use Rattle.std.proofs.Common.{length}
use Rattle.slow_link.proofs.windows.+add_opened.Given as goal

-- one less after the first
abbrev pub decreases-add_opened : goal.decreases-add_opened
decreases-add_opened l = length l.traffic.now
