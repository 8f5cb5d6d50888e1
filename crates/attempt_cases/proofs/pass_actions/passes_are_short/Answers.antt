use Rattle.attempt_cases.proofs.PassActions.Stops.{passes_end}
use Rattle.attempt_cases.proofs.pass_actions.passes_are_short.Goals as goal

pub returns : goal.returns
returns c = passes_end
