use Rattle.link_actions.proofs.LossOrder.Quiet as quiet
use Rattle.link_actions.proofs.loss_order.losses_stay_in_order.Goals as goal

pub returns : goal.returns
returns c = quiet.ends_keep_quiet
