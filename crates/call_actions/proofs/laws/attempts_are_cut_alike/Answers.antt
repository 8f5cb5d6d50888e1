use Rattle.call_actions.proofs.Cutting.{attempts_are_cut}
use Rattle.call_actions.proofs.laws.attempts_are_cut_alike.Goals as goal

pub returns : goal.returns
returns c = attempts_are_cut
