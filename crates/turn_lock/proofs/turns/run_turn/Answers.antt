use Rattle.std.proofs.Common.{Some, sym, ap, ◌∙◌, arith}
use Rattle.turn_lock.proofs.Steps.{publishes, releases}
use Rattle.turn_lock.proofs.Winning.{in_hand, published_from, ready}
use Rattle.turn_lock.proofs.turns.run_turn.Goals as goal

pub exchange-requires : goal.exchange-requires
exchange-requires g c = (c.requires.table.0, (Some c.requires.state.0, in_hand _ _ _ c.requires.state.1))

pub store-requires : goal.store-requires
store-requires g c =
    let y = ready g.S.Chronicle.entries g.S.Chronicle.origin c.args.inner.now.me c.exchange.new.seat.me c.exchange-2.new.seat.me c.requires.state.0 c.unwrap-state.result c.run-answer.new.state c.exchange.result
    c.requires.state.1 c.requires.state.2 c.requires.state.3 c.exchange.ensures.2 c.unwrap-state.ensures c.exchange.ensures.3 c.exchange-2.ensures.3 c.run-answer.ensures.appends c.run-answer.ensures.kept in
    let parts = ap (λ m. m.0.parts) y.hand in
    let some_part = c.requires.won.1 in (
      c.exchange-2.ensures.0 ∙ (c.exchange.ensures.0 ∙ c.requires.table.0),
      omega (arith, c.requires.table.1),
      publishes g.S.Chronicle.entries g.S.Chronicle.mark_of g.S.Chronicle.origin _ _ _ _ c.run-answer.new.state c.front_of-front.result (ap (λ m. m.0.turn) y.hand ∙ c.requires.won.0) (omega (arith, parts, some_part)) (ap (λ m. m.1) y.hand) y.later c.front_of-front.ensures.front c.front_of-front.ensures.small,
    )

pub store-requires-2 : goal.store-requires-2
store-requires-2 g c =
    let y = ready g.S.Chronicle.entries g.S.Chronicle.origin c.args.inner.now.me c.exchange.new.seat.me c.exchange-2.new.seat.me c.requires.state.0 c.unwrap-state.result c.run-answer.new.state c.exchange.result
    c.requires.state.1 c.requires.state.2 c.requires.state.3 c.exchange.ensures.2 c.unwrap-state.ensures c.exchange.ensures.3 c.exchange-2.ensures.3 c.run-answer.ensures.appends c.run-answer.ensures.kept in
    let p = c.store.ensures.2 in
    let root = published_from g.S.Chronicle.entries g.S.Chronicle.origin _ _ _ _ _ y p in
    let parts = root.1 in
    let some_part = c.requires.won.1 in (
      c.store.ensures.0 ∙ (c.exchange-2.ensures.0 ∙ (c.exchange.ensures.0 ∙ c.requires.table.0)),
      omega (arith, c.requires.table.1),
      releases g.S.Chronicle.entries g.S.Chronicle.mark_of g.S.Chronicle.origin _ _ _ _ p.0 (ap (λ m. m.0.turn) p.2 ∙ (ap (λ m. m.0.turn) y.hand ∙ c.requires.won.0)) (ap (λ m. m.1) p.2 ∙ p.1) (sym (ap (λ m. m.0.seen) p.2)) root.0 (omega (arith, parts, some_part)) c.requires.table.2,
    )
