use Rattle.call_core.proofs.Outstanding.{held_committed, held_ended_call}
use Rattle.call_core.proofs.outcomes.other_rows_are_over.Goals as goal

pub returns-clause-committed : goal.returns-clause-committed
returns-clause-committed c = held_committed

pub returns-clause-ended : goal.returns-clause-ended
returns-clause-ended c = held_ended_call
