use Rattle.call_actions.proofs.Hedged.{hedges_go_on}
use Rattle.call_actions.proofs.Retried.{retries_are_set}
use Rattle.call_actions.proofs.laws.calls_go_on_after_ends.Goals as goal

pub returns-clause-retry : goal.returns-clause-retry
returns-clause-retry c = retries_are_set

pub returns-clause-hedge : goal.returns-clause-hedge
returns-clause-hedge c = hedges_go_on
