use Rattle.end_cases.proofs.EndCases.Held.{ends_stay_held}
use Rattle.end_cases.proofs.attempt_ends.ends_stay_held.Goals as goal

pub returns : goal.returns
returns c = ends_stay_held
