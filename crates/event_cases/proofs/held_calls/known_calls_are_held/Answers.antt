use Rattle.event_cases.proofs.HeldCalls.Held.{known_calls_are_held}
use Rattle.event_cases.proofs.held_calls.known_calls_are_held.Goals as goal

pub returns : goal.returns
returns c = known_calls_are_held
