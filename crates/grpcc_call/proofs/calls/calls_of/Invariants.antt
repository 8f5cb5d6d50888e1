use Rattle.std.proofs.Common.{◌≤◌, ◌-◌, length}
use Rattle.grpcc_call.proofs.calls.calls_of.Given as goal

-- no more than the workers
abbrev pub invariant-loop-rt : goal.invariant-loop-rt
invariant-loop-rt g l = length l.works.items ≤ l.workers

abbrev pub decreases-loop-rt : goal.decreases-loop-rt
decreases-loop-rt g l = l.workers - length l.works.items
