use Rattle.std.proofs.Common.{Some, sym, ap, ◌∙◌, arith}
use Rattle.turn_lock.proofs.Steps.{claims}
use Rattle.turn_lock.proofs.Winning.{won_from, in_hand}
use Rattle.turn_lock.proofs.lock.TurnLock.close.Goals as goal

pub compare_exchange-holder-requires : goal.compare_exchange-holder-requires
compare_exchange-holder-requires g c = (
  ap (λ l. l.table) (ap (λ s. s.lock) c.seat.view_is ∙ (c.requires.lock ∙ sym c.self.view_is)),
  omega (arith, c.self.invariant.0),
  claims g.S.Chronicle.entries g.S.Chronicle.mark_of g.S.Chronicle.origin _ _ _ _ _ c.seat.invariant.1 c.seat.invariant.3 c.seat.invariant.4 c.seat.invariant.5,
)

pub exchange-requires : goal.exchange-requires
exchange-requires g c = let w = won_from g.S.Chronicle.entries g.S.Chronicle.origin _ _ _ c.compare_exchange-holder.ensures.2 c.if-holder-ne-NOBODY.false in (
  c.compare_exchange-holder.ensures.0 ∙ (ap (λ l. l.table) (ap (λ s. s.lock) c.seat.view_is ∙ (c.requires.lock ∙ sym c.self.view_is))),
  (Some w.0, in_hand _ _ _ (ap (λ m. m.1) w.4)),
)
