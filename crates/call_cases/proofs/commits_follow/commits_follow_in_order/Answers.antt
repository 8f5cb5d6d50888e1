use Rattle.call_cases.proofs.CommitsFollow.Follow.{commits_follow, others_are_cut_off}
use Rattle.call_cases.proofs.commits_follow.commits_follow_in_order.Goals as goal

pub returns-clause-cuts : goal.returns-clause-cuts
returns-clause-cuts c = others_are_cut_off

pub returns-clause-follow : goal.returns-clause-follow
returns-clause-follow c = commits_follow
