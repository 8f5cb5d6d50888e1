use Rattle.relay_answer.proofs.Kept.{kept}
use Rattle.relay_answer.proofs.laws.sends_what_was_given.Goals as goal

pub returns : goal.returns
returns c = kept
