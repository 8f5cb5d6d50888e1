use Rattle.link_actions.proofs.ResponseActions.Ended as ended
use Rattle.link_actions.proofs.ResponseActions.Taken as taken
use Rattle.link_actions.proofs.response_actions.ends_keep_readers.Goals as goal

pub returns-clause-ends : goal.returns-clause-ends
returns-clause-ends c = ended.ends_keep_readers

pub returns-clause-cuts : goal.returns-clause-cuts
returns-clause-cuts c = taken.cuts_take_readers

pub returns-clause-left : goal.returns-clause-left
returns-clause-left c = taken.readers_are_left
