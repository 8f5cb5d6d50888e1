use Rattle.std.proofs.Common.{◌≡◌, ◌+◌}
use Rattle.base_tests.proofs.turn_lock_tests.hire.Given as goal

abbrev pub invariant-loop-i : goal.invariant-loop-i
invariant-loop-i g l = (l.seat.lock ≡ l.fn.seat.lock) × (l.seat.parts + l.i ≡ 4294967296)
