use Rattle.attempt_cases.proofs.ServeSteps.Standing.{asks_stand}
use Rattle.attempt_cases.proofs.serve_steps.asks_stand.Goals as goal

pub returns : goal.returns
returns c = asks_stand c.quiescence_is_exact.ensures.quiescent c.queues_stir.ensures
