use Rattle.std.proofs.Common.{ap, ◌∙◌}
use Rattle.turn_lock.proofs.lock.TurnLock.turn.Goals as goal

pub try_turn-requires : goal.try_turn-requires
try_turn-requires g c = record { lock = ap (λ s. s.lock) c.loop.invariant.0 ∙ c.requires.lock }
