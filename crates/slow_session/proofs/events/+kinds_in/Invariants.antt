use Rattle.std.proofs.Common.{length}
use Rattle.slow_session.proofs.events.+kinds_in.Given as goal

-- one policy less
abbrev pub decreases-kinds_in : goal.decreases-kinds_in
decreases-kinds_in l = length l.policies.now
