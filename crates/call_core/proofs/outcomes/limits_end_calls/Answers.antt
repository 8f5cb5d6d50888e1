use Rattle.call_core.proofs.Limits.{deadline_ends, deadline_none, deadline_waits, late_ends, send_ends}
use Rattle.call_core.proofs.outcomes.limits_end_calls.Goals as goal

pub returns-clause-deadline : goal.returns-clause-deadline
returns-clause-deadline c = deadline_ends

pub returns-clause-before : goal.returns-clause-before
returns-clause-before c = deadline_waits

pub returns-clause-never : goal.returns-clause-never
returns-clause-never c = deadline_none

pub returns-clause-sent : goal.returns-clause-sent
returns-clause-sent c = send_ends

pub returns-clause-late : goal.returns-clause-late
returns-clause-late c = late_ends
