use Rattle.event_cases.proofs.DrainedCalls.Calls as calls
use Rattle.event_cases.proofs.drained_calls.drains_keep_calls.Goals as goal

pub returns : goal.returns
returns c = calls.held_calls_agree
