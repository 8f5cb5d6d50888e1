use Rattle.call_core.specs.Parts.{pick_end}
use Rattle.call_core.proofs.Keeping.{kept_closed_by, kept_configured, kept_due, kept_ended_at, kept_new, kept_news, kept_placed, kept_sent, kept_timed_out}
use Rattle.call_core.proofs.laws.calls_are_kept.Goals as goal

pub returns-clause-begun : goal.returns-clause-begun
returns-clause-begun c = kept_new

pub returns-clause-configured : goal.returns-clause-configured
returns-clause-configured c = kept_configured

pub returns-clause-sent : goal.returns-clause-sent
returns-clause-sent c = kept_sent

pub returns-clause-closed : goal.returns-clause-closed
returns-clause-closed c = kept_closed_by

pub returns-clause-timed_out : goal.returns-clause-timed_out
returns-clause-timed_out c = kept_timed_out

pub returns-clause-placed : goal.returns-clause-placed
returns-clause-placed c = kept_placed

pub returns-clause-handled : goal.returns-clause-handled
returns-clause-handled c = kept_news

pub returns-clause-made : goal.returns-clause-made
returns-clause-made c = kept_due

pub returns-clause-failed : goal.returns-clause-failed
returns-clause-failed c = λ row moment word s kept. kept_ended_at row pick_end moment word s kept
