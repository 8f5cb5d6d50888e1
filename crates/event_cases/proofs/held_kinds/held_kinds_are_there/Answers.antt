use Rattle.event_cases.proofs.HeldKinds.Along.{configs_are_throttled, held_kinds_are_there}
use Rattle.event_cases.proofs.held_kinds.held_kinds_are_there.Goals as goal

pub returns-clause-kinds : goal.returns-clause-kinds
returns-clause-kinds c = held_kinds_are_there

pub returns-clause-runs : goal.returns-clause-runs
returns-clause-runs c = configs_are_throttled
