use Rattle.std.proofs.Common.{length}
use Rattle.slow_session.proofs.following.+first_config.Given as goal

-- one call less
abbrev pub decreases-first_config : goal.decreases-first_config
decreases-first_config l = length l.calls.now
