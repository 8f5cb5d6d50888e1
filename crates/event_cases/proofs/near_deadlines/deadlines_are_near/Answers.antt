use Rattle.event_cases.proofs.NearDeadlines.Near.{deadlines_are_near, known_deadlines}
use Rattle.event_cases.proofs.near_deadlines.deadlines_are_near.Goals as goal

pub returns-clause-posted : goal.returns-clause-posted
returns-clause-posted c = deadlines_are_near

pub returns-clause-known : goal.returns-clause-known
returns-clause-known c = known_deadlines
