use Rattle.attempt_cases.proofs.ServeSteps.Answering.{answers_are_next}
use Rattle.attempt_cases.proofs.serve_steps.answers_are_next.Goals as goal

pub returns : goal.returns
returns c = answers_are_next c.quiescence_is_exact.ensures.first
