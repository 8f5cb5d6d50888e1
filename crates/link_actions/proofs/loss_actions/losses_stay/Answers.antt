use Rattle.link_actions.proofs.LossActions.Stays.{ends_leave_over, over_stays}
use Rattle.link_actions.proofs.loss_actions.losses_stay.Goals as goal

pub returns-clause-stays : goal.returns-clause-stays
returns-clause-stays c = over_stays

pub returns-clause-ends : goal.returns-clause-ends
returns-clause-ends c = ends_leave_over
