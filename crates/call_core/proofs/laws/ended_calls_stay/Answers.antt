use Rattle.call_core.specs.Parts.{pick_end}
use Rattle.call_core.proofs.Final.{final_closed, final_configured, final_due, final_ended_at, final_news, final_placed, final_sent, final_timed_out}
use Rattle.call_core.proofs.laws.ended_calls_stay.Goals as goal

pub returns-clause-configured : goal.returns-clause-configured
returns-clause-configured c = final_configured

pub returns-clause-sent : goal.returns-clause-sent
returns-clause-sent c = final_sent

pub returns-clause-closed : goal.returns-clause-closed
returns-clause-closed c = final_closed

pub returns-clause-timed_out : goal.returns-clause-timed_out
returns-clause-timed_out c = final_timed_out

pub returns-clause-placed : goal.returns-clause-placed
returns-clause-placed c = final_placed

pub returns-clause-handled : goal.returns-clause-handled
returns-clause-handled c = final_news

pub returns-clause-made : goal.returns-clause-made
returns-clause-made c = final_due

pub returns-clause-failed : goal.returns-clause-failed
returns-clause-failed c = λ row moment word s kept e. final_ended_at row pick_end moment word s kept e
