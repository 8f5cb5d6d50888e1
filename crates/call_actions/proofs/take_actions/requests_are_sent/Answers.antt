use Rattle.call_actions.proofs.TakeActions.Begins.{calls_begin_alike}
use Rattle.call_actions.proofs.TakeActions.Posted.{cancels_are_answered, finishes_are_done}
use Rattle.call_actions.proofs.TakeActions.Sends.{sends_are_answered}
use Rattle.call_actions.proofs.take_actions.requests_are_sent.Goals as goal

pub returns-clause-finished : goal.returns-clause-finished
returns-clause-finished c = finishes_are_done

pub returns-clause-cancelled : goal.returns-clause-cancelled
returns-clause-cancelled c = cancels_are_answered

pub returns-clause-sent : goal.returns-clause-sent
returns-clause-sent c = sends_are_answered

pub returns-clause-begun : goal.returns-clause-begun
returns-clause-begun c = calls_begin_alike
