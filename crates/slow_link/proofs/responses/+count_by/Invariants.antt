use Rattle.std.proofs.Common.{length}
use Rattle.slow_link.proofs.responses.+count_by.Given as goal

-- one less after the first
abbrev pub decreases-count_by : goal.decreases-count_by
decreases-count_by l = length l.traffic.now
