use Rattle.call_cases.proofs.OtherCalls.Slots.{all_calls_stay, calls_stay}
use Rattle.call_cases.proofs.other_calls.calls_stay.Goals as goal

pub returns-clause-each : goal.returns-clause-each
returns-clause-each c = calls_stay

pub returns-clause-all : goal.returns-clause-all
returns-clause-all c = all_calls_stay
