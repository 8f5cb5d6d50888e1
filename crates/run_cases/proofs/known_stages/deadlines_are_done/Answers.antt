use Rattle.run_cases.proofs.KnownStages.Deadlines.{deadlines_are_done}
use Rattle.run_cases.proofs.known_stages.deadlines_are_done.Goals as goal

pub returns : goal.returns
returns c = deadlines_are_done c.deadlines_are_met.ensures
