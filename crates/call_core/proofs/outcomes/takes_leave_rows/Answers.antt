use Rattle.call_core.proofs.Leaving.{fed_leaves, finished_leaves, left_going, taken_leaves}
use Rattle.call_core.proofs.outcomes.takes_leave_rows.Goals as goal

pub returns-clause-fed : goal.returns-clause-fed
returns-clause-fed c = fed_leaves

pub returns-clause-finished : goal.returns-clause-finished
returns-clause-finished c = finished_leaves

pub returns-clause-taken : goal.returns-clause-taken
returns-clause-taken c = taken_leaves

pub returns-clause-going : goal.returns-clause-going
returns-clause-going c = left_going
