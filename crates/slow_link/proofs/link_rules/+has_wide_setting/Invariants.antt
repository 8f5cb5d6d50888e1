use Rattle.std.proofs.Common.{length}
use Rattle.slow_link.proofs.link_rules.+has_wide_setting.Given as goal

-- one less after the first
abbrev pub decreases-has_wide_setting : goal.decreases-has_wide_setting
decreases-has_wide_setting l = length l.settings.now
