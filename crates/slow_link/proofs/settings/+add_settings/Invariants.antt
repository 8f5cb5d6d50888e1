use Rattle.std.proofs.Common.{length}
use Rattle.slow_link.proofs.settings.+add_settings.Given as goal

-- one less after the first
abbrev pub decreases-add_settings : goal.decreases-add_settings
decreases-add_settings l = length l.payload.now
