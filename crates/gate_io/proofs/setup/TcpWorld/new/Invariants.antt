use Rattle.std.proofs.Common.{◌≤◌, ◌-◌, length}
use Rattle.gate_io.proofs.setup.TcpWorld.new.Given as goal

abbrev pub invariant-loop-alloc : goal.invariant-loop-alloc
invariant-loop-alloc g l = length l.dialers.items ≤ 4

abbrev pub decreases-loop-alloc : goal.decreases-loop-alloc
decreases-loop-alloc g l = 4 - length l.dialers.items
