use Rattle.call_cases.proofs.SettlingActions.Composed.{rounds_are_steps, settlings_are_steps}
use Rattle.call_cases.proofs.settling_actions.settlings_are_steps.Goals as goal

pub returns-clause-rounds : goal.returns-clause-rounds
returns-clause-rounds c = rounds_are_steps

pub returns-clause-settling : goal.returns-clause-settling
returns-clause-settling c = settlings_are_steps
