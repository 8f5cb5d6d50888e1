use Rattle.attempt_cases.proofs.DrainEvents.Drains as drains
use Rattle.attempt_cases.proofs.drain_events.drains_are_answered.Goals as goal

pub returns : goal.returns
returns c = drains.drains_are_answered
