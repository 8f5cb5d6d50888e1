use Rattle.link_actions.proofs.StreamActions.DataRead.{data_is_read}
use Rattle.link_actions.proofs.StreamActions.HeadersRead.{blocks_are_read, parts_are_read}
use Rattle.link_actions.proofs.StreamActions.PlainRead.{others_are_read, resets_are_read, updates_are_read}
use Rattle.link_actions.proofs.StreamActions.StreamEnds.{cuts_keep}
use Rattle.link_actions.proofs.stream_actions.streams_are_actions.Goals as goal

pub returns-clause-cut : goal.returns-clause-cut
returns-clause-cut c = cuts_keep

pub returns-clause-content : goal.returns-clause-content
returns-clause-content c = data_is_read

pub returns-clause-reset : goal.returns-clause-reset
returns-clause-reset c = resets_are_read

pub returns-clause-update : goal.returns-clause-update
returns-clause-update c = updates_are_read

pub returns-clause-other : goal.returns-clause-other
returns-clause-other c = others_are_read

pub returns-clause-block : goal.returns-clause-block
returns-clause-block c = blocks_are_read

pub returns-clause-part : goal.returns-clause-part
returns-clause-part c = parts_are_read
