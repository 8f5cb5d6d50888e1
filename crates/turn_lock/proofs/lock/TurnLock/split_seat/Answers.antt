use Rattle.std.proofs.Common.{sym, ap, ◌∙◌, arith}
use Rattle.turn_lock.proofs.Steps.{splits}
use Rattle.turn_lock.proofs.lock.TurnLock.split_seat.Goals as goal

pub split_seat-inner-requires : goal.split_seat-inner-requires
split_seat-inner-requires g c = (
  ap (λ l. l.table) (ap (λ s. s.lock) c.seat.view_is ∙ (c.requires.lock ∙ sym c.self.view_is)),
  omega (arith, c.self.invariant.0),
  splits g.S.Chronicle.entries g.S.Chronicle.mark_of g.S.Chronicle.origin _ _ _ c.seat.invariant.1 (let e = ap (λ s. s.parts) c.seat.view_is in let two = c.requires.parts in omega (arith, e, two)),
)
