use Rattle.std.proofs.Common.{sym, ap, ◌∙◌, arith}
use Rattle.turn_lock.proofs.Steps.{looks}
use Rattle.turn_lock.proofs.lock.TurnLock.front.Goals as goal

pub load-word-requires : goal.load-word-requires
load-word-requires g c = (
  ap (λ l. l.table) (ap (λ s. s.lock) c.seat.view_is ∙ (c.requires.lock ∙ sym c.self.view_is)),
  omega (arith, c.self.invariant.0),
  looks g.S.Chronicle.entries g.S.Chronicle.mark_of g.S.Chronicle.origin _ _ _ _ c.seat.invariant.1,
)
