use Rattle.call_actions.proofs.TakeActions.Takes.{takes_are_items}
use Rattle.call_actions.proofs.take_actions.responses_are_taken.Goals as goal

pub returns : goal.returns
returns c = takes_are_items
