use Rattle.std.proofs.Common.{length}
use Rattle.slow_link.proofs.settings.+add_read_settings.Given as goal

-- one less after the first
abbrev pub decreases-add_read_settings : goal.decreases-add_read_settings
decreases-add_read_settings l = length l.traffic.now
