use Rattle.attempt_cases.proofs.PassActions.Passed.{passes_are_serves}
use Rattle.attempt_cases.proofs.pass_actions.passes_are_serves.Goals as goal

pub returns : goal.returns
returns c = passes_are_serves
