use Rattle.ledger_stamps.proofs.LaterLaws.{row_added, row_committed, row_ended, row_placed, row_streamed}
use Rattle.ledger_stamps.proofs.laws.rows_are_written_once.Goals as goal

pub returns-clause-added : goal.returns-clause-added
returns-clause-added c = row_added

pub returns-clause-placed : goal.returns-clause-placed
returns-clause-placed c = row_placed

pub returns-clause-streamed : goal.returns-clause-streamed
returns-clause-streamed c = row_streamed

pub returns-clause-ended : goal.returns-clause-ended
returns-clause-ended c = row_ended

pub returns-clause-committed : goal.returns-clause-committed
returns-clause-committed c = row_committed
