use Rattle.std.proofs.Common.{sym, ap, ◌∙◌, arith}
use Rattle.turn_lock.proofs.Steps.{claims}
use Rattle.turn_lock.proofs.Winning.{won_from, takes_turn}
use Rattle.turn_lock.proofs.lock.TurnLock.try_turn.Goals as goal

pub compare_exchange-holder-requires : goal.compare_exchange-holder-requires
compare_exchange-holder-requires g c = (
  ap (λ l. l.table) (ap (λ s. s.lock) c.seat.view_is ∙ (c.requires.lock ∙ sym c.self.view_is)),
  omega (arith, c.self.invariant.0),
  claims g.S.Chronicle.entries g.S.Chronicle.mark_of g.S.Chronicle.origin _ _ _ _ _ c.seat.invariant.1 c.seat.invariant.3 c.seat.invariant.4 c.seat.invariant.5,
)

pub returns-clause-done : goal.returns-clause-done
returns-clause-done g c =
    let w = won_from g.S.Chronicle.entries g.S.Chronicle.origin c.seat.inside.inner.me c.compare_exchange-holder.new.seat.me c.compare_exchange-holder.result c.compare_exchange-holder.ensures.2 c.if-holder-ne-NOBODY.false in
    takes_turn g.S.Chronicle.entries g.S.Chronicle.origin g.J.Job.runs c.args.job.now c.run_turn.result c.run_turn.new.job c.seat.inside.inner.table_id c.run_turn.new.inner.table_id c.seat.inside.inner.me c.compare_exchange-holder.new.seat.me c.run_turn.new.inner.me _
    c.seat.view_is (c.run_turn.ensures.table ∙ c.compare_exchange-holder.ensures.0) w c.run_turn.ensures.turn
