use Rattle.link_actions.proofs.ReaderActions.Openings.{openings_add_up}
use Rattle.link_actions.proofs.ReaderActions.Placed.{placings_give_readers}
use Rattle.link_actions.proofs.ReaderActions.Written.{writes_keep_readers}
use Rattle.link_actions.proofs.reader_actions.readers_come_and_open.Goals as goal

pub returns-clause-placed : goal.returns-clause-placed
returns-clause-placed c = placings_give_readers

pub returns-clause-written : goal.returns-clause-written
returns-clause-written c = writes_keep_readers

pub returns-clause-drained : goal.returns-clause-drained
returns-clause-drained c = openings_add_up
