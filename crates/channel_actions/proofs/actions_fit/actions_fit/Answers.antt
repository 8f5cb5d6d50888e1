use Rattle.channel_actions.proofs.ActionsFit.Lines.{next_actions_fit}
use Rattle.channel_actions.proofs.actions_fit.actions_fit.Goals as goal

pub returns : goal.returns
returns c = next_actions_fit
