use Rattle.session_order.proofs.SessionLaws.Deadlines.{deadlines_end_calls, events_follow_deadlines}
use Rattle.session_order.proofs.session_laws.deadlines_come_first.Goals as goal

pub returns-clause-event : goal.returns-clause-event
returns-clause-event c = events_follow_deadlines

pub returns-clause-calls : goal.returns-clause-calls
returns-clause-calls c = deadlines_end_calls
