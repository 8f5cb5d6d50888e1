use Rattle.event_cases.proofs.StreamedCalls.Calls as calls
use Rattle.event_cases.proofs.streamed_calls.streams_leave_calls.Goals as goal

pub returns-clause-served : goal.returns-clause-served
returns-clause-served c = calls.calls_are_served

pub returns-clause-order : goal.returns-clause-order
returns-clause-order c = calls.orders_stay

pub returns-clause-turn : goal.returns-clause-turn
returns-clause-turn c = calls.turns_stay

pub returns-clause-due : goal.returns-clause-due
returns-clause-due c = calls.dues_stay
