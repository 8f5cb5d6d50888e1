use Rattle.end_cases.proofs.OwedResets.Whole.{resets_are_made}
use Rattle.end_cases.proofs.owed_resets.owed_resets_are_made.Goals as goal

pub returns : goal.returns
returns c = resets_are_made
