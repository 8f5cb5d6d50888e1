use Rattle.link_actions.proofs.ReaderActions.Goaways as goaways
use Rattle.link_actions.proofs.reader_actions.goaways_leave_readers.Goals as goal

pub returns : goal.returns
returns c = goaways.goaways_leave_readers
