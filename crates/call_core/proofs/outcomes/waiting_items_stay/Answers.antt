use Rattle.call_core.proofs.Ending.{waits_elsewhere}
use Rattle.call_core.proofs.outcomes.waiting_items_stay.Goals as goal

pub returns : goal.returns
returns c = waits_elsewhere
