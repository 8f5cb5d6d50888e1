use Rattle.call_actions.proofs.CallsInTurn.Makes.{making_keeps}
use Rattle.call_actions.proofs.CallsInTurn.Retries.{retrying_keeps}
use Rattle.call_actions.proofs.CallsInTurn.Rows.{committing_keeps, ending_keeps, placing_keeps}
use Rattle.call_actions.proofs.calls_in_turn.attempts_keep_turn.Goals as goal

pub returns-clause-made : goal.returns-clause-made
returns-clause-made c = making_keeps

pub returns-clause-placed : goal.returns-clause-placed
returns-clause-placed c = placing_keeps

pub returns-clause-committed : goal.returns-clause-committed
returns-clause-committed c = committing_keeps

pub returns-clause-ended : goal.returns-clause-ended
returns-clause-ended c = ending_keeps

pub returns-clause-retried : goal.returns-clause-retried
returns-clause-retried c = retrying_keeps
