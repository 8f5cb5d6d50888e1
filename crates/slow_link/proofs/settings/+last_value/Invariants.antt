use Rattle.std.proofs.Common.{length}
use Rattle.slow_link.proofs.settings.+last_value.Given as goal

-- one less after the first
abbrev pub decreases-last_value : goal.decreases-last_value
decreases-last_value l = length l.settings.now
