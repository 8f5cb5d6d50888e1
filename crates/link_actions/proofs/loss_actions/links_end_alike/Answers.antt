use Rattle.link_actions.proofs.LossActions.Over.{breaks_are_reported, breaks_are_same, losses_are_over, nothing_is_read, timeouts_are_over}
use Rattle.link_actions.proofs.loss_actions.links_end_alike.Goals as goal

pub returns-clause-breaks : goal.returns-clause-breaks
returns-clause-breaks c = breaks_are_same

pub returns-clause-reports : goal.returns-clause-reports
returns-clause-reports c = breaks_are_reported

pub returns-clause-lost : goal.returns-clause-lost
returns-clause-lost c = losses_are_over

pub returns-clause-timeout : goal.returns-clause-timeout
returns-clause-timeout c = timeouts_are_over

pub returns-clause-unread : goal.returns-clause-unread
returns-clause-unread c = nothing_is_read
