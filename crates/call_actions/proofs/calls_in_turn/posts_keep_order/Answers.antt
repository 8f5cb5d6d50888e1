use Rattle.call_actions.proofs.CallsInTurn.Posts.{ends_keep, finishes_keep, messages_keep, takes_keep, withheld_keep}
use Rattle.call_actions.proofs.calls_in_turn.posts_keep_order.Goals as goal

pub returns-clause-messages : goal.returns-clause-messages
returns-clause-messages c = messages_keep

pub returns-clause-finishes : goal.returns-clause-finishes
returns-clause-finishes c = finishes_keep

pub returns-clause-takes : goal.returns-clause-takes
returns-clause-takes c = takes_keep

pub returns-clause-withheld : goal.returns-clause-withheld
returns-clause-withheld c = withheld_keep

pub returns-clause-ends : goal.returns-clause-ends
returns-clause-ends c = ends_keep
