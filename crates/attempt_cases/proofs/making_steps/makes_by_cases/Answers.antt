use Rattle.attempt_cases.proofs.MakingSteps.Withholding.{makes_by_cases}
use Rattle.attempt_cases.proofs.making_steps.makes_by_cases.Goals as goal

pub returns : goal.returns
returns c = makes_by_cases c.one_is_made.ensures c.one_is_withheld.ensures
