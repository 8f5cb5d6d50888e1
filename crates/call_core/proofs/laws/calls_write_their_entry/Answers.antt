use Rattle.call_core.specs.Parts.{pick_end}
use Rattle.call_core.proofs.Moved.{moved_closed_by, moved_configured, moved_due, moved_ended_at, moved_news, moved_placed, moved_sent, moved_timed_out}
use Rattle.call_core.proofs.laws.calls_write_their_entry.Goals as goal

pub returns-clause-configured : goal.returns-clause-configured
returns-clause-configured c = λ chosen moment s. (moved_configured chosen moment s).later

pub returns-clause-sent : goal.returns-clause-sent
returns-clause-sent c = λ message moment s. (moved_sent message moment s).later

pub returns-clause-closed : goal.returns-clause-closed
returns-clause-closed c = λ why moment s. (moved_closed_by why moment s).later

pub returns-clause-timed_out : goal.returns-clause-timed_out
returns-clause-timed_out c = λ moment s. (moved_timed_out moment s).later

pub returns-clause-placed : goal.returns-clause-placed
returns-clause-placed c = λ row at s e. (moved_placed row at s e).later

pub returns-clause-failed : goal.returns-clause-failed
returns-clause-failed c = λ row moment word s. (moved_ended_at row pick_end moment word s).later

pub returns-clause-handled : goal.returns-clause-handled
returns-clause-handled c = λ row reported moment word s. (moved_news row reported moment word s).later

pub returns-clause-made : goal.returns-clause-made
returns-clause-made c = λ moment s. (moved_due moment s).later
