use Rattle.run_cases.proofs.KnownStages.Picks.{picks_are_there}
use Rattle.run_cases.proofs.known_stages.picks_are_there.Goals as goal

pub returns : goal.returns
returns c = picks_are_there
