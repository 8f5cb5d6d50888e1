use Rattle.event_cases.proofs.HeldCalls.Drains.{known_drains_are_answered}
use Rattle.event_cases.proofs.held_calls.known_drains_are_answered.Goals as goal

pub returns : goal.returns
returns c = known_drains_are_answered
