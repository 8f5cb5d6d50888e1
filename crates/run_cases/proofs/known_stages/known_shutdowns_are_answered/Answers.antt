use Rattle.run_cases.proofs.KnownStages.Shutdowns.{known_shutdowns_are_answered}
use Rattle.run_cases.proofs.known_stages.known_shutdowns_are_answered.Goals as goal

pub returns : goal.returns
returns c = known_shutdowns_are_answered c.first_shutdowns_are_answered.ensures
