use Rattle.ledger_stamps.proofs.LaterLaws.{later_same, later_then}
use Rattle.ledger_stamps.proofs.laws.writes_of_an_entry_compose.Goals as goal

pub returns-clause-same : goal.returns-clause-same
returns-clause-same c = later_same

pub returns-clause-then : goal.returns-clause-then
returns-clause-then c = later_then
