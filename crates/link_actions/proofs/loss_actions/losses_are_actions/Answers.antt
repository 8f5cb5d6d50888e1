use Rattle.link_actions.proofs.LossActions.Losses.{ends_are_losses, losses_are_reported, losses_go_in_order, none_is_reset}
use Rattle.link_actions.proofs.loss_actions.losses_are_actions.Goals as goal

pub returns-clause-ends : goal.returns-clause-ends
returns-clause-ends c = ends_are_losses

pub returns-clause-reports : goal.returns-clause-reports
returns-clause-reports c = losses_are_reported

pub returns-clause-order : goal.returns-clause-order
returns-clause-order c = losses_go_in_order

pub returns-clause-resets : goal.returns-clause-resets
returns-clause-resets c = none_is_reset
