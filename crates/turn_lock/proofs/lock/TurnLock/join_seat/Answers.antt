use Rattle.std.proofs.Common.{sym, ap, ◌∙◌, arith}
use Rattle.turn_lock.proofs.Steps.{joins, looks}
use Rattle.turn_lock.proofs.lock.TurnLock.join_seat.Goals as goal

pub join_seat-requires : goal.join_seat-requires
join_seat-requires g c = (
  ap (λ l. l.table) (ap (λ s. s.lock) c.seat.view_is ∙ (c.requires.lock.0 ∙ sym c.self.view_is)),
  ap (λ l. l.table) (ap (λ s. s.lock) c.other.view_is ∙ (c.requires.lock.1 ∙ sym c.self.view_is)),
  c.other.invariant.0,
  omega (arith, c.self.invariant.0),
  joins g.S.Chronicle.entries g.S.Chronicle.mark_of g.S.Chronicle.origin _ _ _ _ _ c.seat.invariant.1 c.other.invariant.1 c.seat.invariant.5,
)

pub load-requires : goal.load-requires
load-requires g c = (
  c.join_seat.ensures.0 ∙ (ap (λ l. l.table) (ap (λ s. s.lock) c.seat.view_is ∙ (c.requires.lock.0 ∙ sym c.self.view_is))),
  omega (arith, c.self.invariant.0),
  looks g.S.Chronicle.entries g.S.Chronicle.mark_of g.S.Chronicle.origin _ _ _ _ (ap (λ m. m.0.turn) c.join_seat.ensures.2 ∙ c.seat.invariant.1),
)
