use Rattle.std.proofs.Common.{length}
use Rattle.relay_mode.proofs.relay_side.+gravest_of.Given as goal

abbrev pub decreases-gravest_of : goal.decreases-gravest_of
decreases-gravest_of g l = length l.jobs.now
