use Rattle.call_cases.proofs.EndsFollow.Follow.{cuts_are_out, ends_follow}
use Rattle.call_cases.proofs.ends_follow.calls_end_in_order.Goals as goal

pub returns-clause-cuts : goal.returns-clause-cuts
returns-clause-cuts c = cuts_are_out

pub returns-clause-follow : goal.returns-clause-follow
returns-clause-follow c = ends_follow
