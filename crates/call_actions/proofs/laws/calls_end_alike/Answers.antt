use Rattle.call_actions.proofs.Closing.{calls_close, quiet_calls_end}
use Rattle.call_actions.proofs.laws.calls_end_alike.Goals as goal

pub returns-clause-closed : goal.returns-clause-closed
returns-clause-closed c = calls_close

pub returns-clause-quiet : goal.returns-clause-quiet
returns-clause-quiet c = quiet_calls_end
