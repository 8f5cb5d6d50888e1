use Rattle.call_actions.proofs.LastEnds.Going.{due_hedges_go_on}
use Rattle.call_actions.proofs.last_ends.due_hedges_go_on.Goals as goal

pub returns : goal.returns
returns c = due_hedges_go_on
