use Rattle.std.proofs.Common.{length}
use Rattle.slow_link.proofs.writing.+controls_with.Given as goal

-- one less after the first
abbrev pub decreases-controls_with : goal.decreases-controls_with
decreases-controls_with l = length l.traffic.now
