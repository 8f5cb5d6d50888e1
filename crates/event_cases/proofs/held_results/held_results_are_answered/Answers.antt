use Rattle.event_cases.proofs.HeldResults.Answered.{held_results}
use Rattle.event_cases.proofs.held_results.held_results_are_answered.Goals as goal

pub returns : goal.returns
returns c = held_results c.chains_are_next.ensures c.laws_of_generations.ensures.kept
