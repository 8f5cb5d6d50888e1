use Rattle.std.proofs.Common.{length}
use Rattle.live_run.proofs.sides.+outcome_of_links.Given as goal

abbrev pub decreases-outcome_of_links : goal.decreases-outcome_of_links
decreases-outcome_of_links g l = length l.links.now
