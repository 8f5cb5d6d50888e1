use Rattle.attempt_cases.proofs.PassActions.Stops.{passes_stop}
use Rattle.attempt_cases.proofs.pass_actions.passes_stop.Goals as goal

pub returns : goal.returns
returns c = passes_stop c.policy_steps_are_actions.ensures.state
