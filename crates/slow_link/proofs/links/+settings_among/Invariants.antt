use Rattle.std.proofs.Common.{length}
use Rattle.slow_link.proofs.links.+settings_among.Given as goal

-- one less after the first
abbrev pub decreases-settings_among : goal.decreases-settings_among
decreases-settings_among l = length l.traffic.now
