use Rattle.call_cases.proofs.OverdueCalls.Loop.{deadlines_are_met}
use Rattle.call_cases.proofs.ended_calls.deadlines_are_met.Goals as goal

pub returns : goal.returns
returns c = deadlines_are_met
