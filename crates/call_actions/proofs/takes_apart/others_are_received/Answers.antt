use Rattle.call_actions.proofs.TakesApart.Received.{others_are_received}
use Rattle.call_actions.proofs.takes_apart.others_are_received.Goals as goal

pub returns : goal.returns
returns c = others_are_received
