use Rattle.event_cases.proofs.HeldKinds.Plans.{held_plans_are_short}
use Rattle.event_cases.proofs.held_kinds.held_plans_are_short.Goals as goal

pub returns : goal.returns
returns c = held_plans_are_short
