use Rattle.call_core.proofs.Following.{counted_end, retried_end}
use Rattle.call_core.proofs.outcomes.unseen_attempts_are_retried.Goals as goal

pub returns-clause-retried : goal.returns-clause-retried
returns-clause-retried c = retried_end

pub returns-clause-counted : goal.returns-clause-counted
returns-clause-counted c = counted_end
