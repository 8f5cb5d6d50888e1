use Rattle.call_actions.proofs.CallsInTurn.Starts.{calls_start, others_are_steady}
use Rattle.call_actions.proofs.calls_in_turn.calls_start_in_order.Goals as goal

pub returns-clause-start : goal.returns-clause-start
returns-clause-start c = calls_start

pub returns-clause-others : goal.returns-clause-others
returns-clause-others c = others_are_steady
