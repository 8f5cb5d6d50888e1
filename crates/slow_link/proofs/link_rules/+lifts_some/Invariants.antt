use Rattle.std.proofs.Common.{length}
use Rattle.slow_link.proofs.link_rules.+lifts_some.Given as goal

-- one less after the first
abbrev pub decreases-lifts_some : goal.decreases-lifts_some
decreases-lifts_some l = length l.attempts.now
