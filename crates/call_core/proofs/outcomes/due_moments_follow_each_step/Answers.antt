use Rattle.call_core.proofs.Dues.{due_configured, due_followed, due_placed, due_placed_other, newest_after_due, none_after_due, none_committed, none_ended}
use Rattle.call_core.proofs.outcomes.due_moments_follow_each_step.Goals as goal

pub returns-clause-configured : goal.returns-clause-configured
returns-clause-configured c = due_configured

pub returns-clause-made : goal.returns-clause-made
returns-clause-made c = none_after_due

pub returns-clause-newest : goal.returns-clause-newest
returns-clause-newest c = newest_after_due

pub returns-clause-placed : goal.returns-clause-placed
returns-clause-placed c = due_placed

pub returns-clause-other : goal.returns-clause-other
returns-clause-other c = due_placed_other

pub returns-clause-followed : goal.returns-clause-followed
returns-clause-followed c = due_followed

pub returns-clause-committed : goal.returns-clause-committed
returns-clause-committed c = none_committed

pub returns-clause-ended : goal.returns-clause-ended
returns-clause-ended c = none_ended
