use Rattle.attempt_cases.proofs.NetSteps.Alike.{links_see_no_difference, links_without_difference_agree}
use Rattle.attempt_cases.proofs.net_steps.links_see_no_difference.Goals as goal

pub returns-clause-links : goal.returns-clause-links
returns-clause-links c = links_see_no_difference

pub returns-clause-no_difference : goal.returns-clause-no_difference
returns-clause-no_difference c = links_without_difference_agree c.links_stay.ensures.all
