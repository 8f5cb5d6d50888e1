use Rattle.link_actions.proofs.ResponseActions.Blocks.{blocks_are_reported}
use Rattle.link_actions.proofs.ResponseActions.OwnFrames.{data_is_reported, others_are_reported, parts_are_reported, resets_are_reported}
use Rattle.link_actions.proofs.ResponseActions.Updates.{updates_are_reported}
use Rattle.link_actions.proofs.response_actions.responses_are_reported.Goals as goal

pub returns-clause-content : goal.returns-clause-content
returns-clause-content c = data_is_reported

pub returns-clause-block : goal.returns-clause-block
returns-clause-block c = blocks_are_reported

pub returns-clause-part : goal.returns-clause-part
returns-clause-part c = parts_are_reported

pub returns-clause-reset : goal.returns-clause-reset
returns-clause-reset c = resets_are_reported

pub returns-clause-update : goal.returns-clause-update
returns-clause-update c = updates_are_reported

pub returns-clause-other : goal.returns-clause-other
returns-clause-other c = others_are_reported
