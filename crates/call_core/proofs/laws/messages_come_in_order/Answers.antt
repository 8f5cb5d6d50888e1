use Rattle.call_core.proofs.Delivery.{received_after, same_closed, same_configured, same_due, same_ended_at, same_placed, same_sent, same_timed_out, same_too_large}
use Rattle.call_core.proofs.laws.messages_come_in_order.Goals as goal

pub returns-clause-message : goal.returns-clause-message
returns-clause-message c = received_after

pub returns-clause-configured : goal.returns-clause-configured
returns-clause-configured c = same_configured

pub returns-clause-sent : goal.returns-clause-sent
returns-clause-sent c = same_sent

pub returns-clause-closed : goal.returns-clause-closed
returns-clause-closed c = same_closed

pub returns-clause-timed_out : goal.returns-clause-timed_out
returns-clause-timed_out c = same_timed_out

pub returns-clause-placed : goal.returns-clause-placed
returns-clause-placed c = same_placed

pub returns-clause-ended : goal.returns-clause-ended
returns-clause-ended c = same_ended_at

pub returns-clause-too_large : goal.returns-clause-too_large
returns-clause-too_large c = same_too_large

pub returns-clause-made : goal.returns-clause-made
returns-clause-made c = same_due
