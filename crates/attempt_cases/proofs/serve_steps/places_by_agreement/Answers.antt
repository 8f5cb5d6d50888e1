use Rattle.attempt_cases.proofs.ServeSteps.Placing.{places_by_agreement}
use Rattle.attempt_cases.proofs.serve_steps.places_by_agreement.Goals as goal

pub returns : goal.returns
returns c = places_by_agreement c.quiescence_is_exact.ensures.quiescent c.attempts_stir.ensures c.answers_are_next.ensures
