use Rattle.session_takes.proofs.Taken.{items_stay}
use Rattle.session_takes.proofs.laws.items_stay.Goals as goal

pub returns : goal.returns
returns c = items_stay
