use Rattle.std.proofs.Common.{length}
use Rattle.live_run.proofs.sides.+outcome_of_calls.Given as goal

abbrev pub decreases-outcome_of_calls : goal.decreases-outcome_of_calls
decreases-outcome_of_calls g l = length l.calls.now
