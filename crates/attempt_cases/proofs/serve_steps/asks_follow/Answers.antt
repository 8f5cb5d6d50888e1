use Rattle.attempt_cases.proofs.ServeSteps.Asking.{asks_follow}
use Rattle.attempt_cases.proofs.serve_steps.asks_follow.Goals as goal

pub returns : goal.returns
returns c = asks_follow c.policy_steps_are_actions.ensures.state
