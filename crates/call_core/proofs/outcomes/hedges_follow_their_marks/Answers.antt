use Rattle.call_core.proofs.Marks.{due_as_marked, due_is_made, made_is_due, marked_begun, marked_closed, marked_configured, marked_due, marked_elsewhere, marked_failed, marked_received, marked_placed, marked_sent, marked_timed}
use Rattle.call_core.proofs.outcomes.hedges_follow_their_marks.Goals as goal

pub returns-clause-due : goal.returns-clause-due
returns-clause-due c = due_as_marked

pub returns-clause-missing : goal.returns-clause-missing
returns-clause-missing c = due_is_made

pub returns-clause-right : goal.returns-clause-right
returns-clause-right c = made_is_due

pub returns-clause-begun : goal.returns-clause-begun
returns-clause-begun c = marked_begun

pub returns-clause-elsewhere : goal.returns-clause-elsewhere
returns-clause-elsewhere c = marked_elsewhere

pub returns-clause-configured : goal.returns-clause-configured
returns-clause-configured c = marked_configured

pub returns-clause-sent : goal.returns-clause-sent
returns-clause-sent c = marked_sent

pub returns-clause-closed : goal.returns-clause-closed
returns-clause-closed c = marked_closed

pub returns-clause-timed_out : goal.returns-clause-timed_out
returns-clause-timed_out c = marked_timed

pub returns-clause-placed : goal.returns-clause-placed
returns-clause-placed c = marked_placed

pub returns-clause-failed : goal.returns-clause-failed
returns-clause-failed c = marked_failed

pub returns-clause-handled : goal.returns-clause-handled
returns-clause-handled c = marked_received

pub returns-clause-made : goal.returns-clause-made
returns-clause-made c = marked_due
