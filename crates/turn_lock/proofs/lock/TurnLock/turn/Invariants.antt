use Rattle.std.proofs.Common.{◌≡◌}
use Rattle.turn_lock.specs.History.{StartsWith}
use Rattle.turn_lock.proofs.lock.TurnLock.turn.Given as goal

abbrev pub invariant-loop : goal.invariant-loop
invariant-loop g l = (l.seat ≡ record l.fn.seat { found = l.seat.found }) × (l.job ≡ l.fn.job) × StartsWith l.seat.found l.fn.seat.found
