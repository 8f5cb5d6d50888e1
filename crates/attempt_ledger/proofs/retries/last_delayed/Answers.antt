use Rattle.std.proofs.Common.{◌≡◌, ◌∙◌, cond, max, drop, ap, arith}
use Rattle.std.proofs.lemmas.List.{drop_all}
use Rattle.attempt_ledger.specs.Retries.{last_delayed}
use Rattle.attempt_ledger.proofs.RowLaws.{delayed-below, delayed-more}
use Rattle.attempt_ledger.proofs.retries.last_delayed.Goals.{then-asks_delay_before, else-asks_delay_before}
use Rattle.attempt_ledger.proofs.retries.last_delayed.Goals as goal

pub loop-place-preserved : goal.loop-place-preserved
loop-place-preserved c =
    let more : c.if-asks_delay_before.last ≡ cond c.asks_delay_before.result (max c.index-rows-place.result.number c.loop-place.last) c.loop-place.last =
    elim c.if-asks_delay_before.branch [
      | then-asks_delay_before w ↦ (let yes = w.if-asks_delay_before.true in rw yes (w.last-is ∙ w.max-last.ensures))
      | else-asks_delay_before w ↦ (let no = w.if-asks_delay_before.false in rw no w.last-is)
    ] in
    delayed-more c.args.number c.loop-place.last c.if-asks_delay_before.last c.loop-place.place c.args.rows.now c.index-rows-place.result c.asks_delay_before.result c.loop-place-test.true c.index-rows-place.is c.loop-place.invariant c.asks_delay_before.ensures more

pub returns : goal.returns
returns c =
    let end : last_delayed c.args.number (drop c.loop-place.place c.args.rows.now) ≡ 0 = ap (last_delayed c.args.number) (drop_all c.loop-place.place c.args.rows.now c.loop-place-test.false) in
    let so_far : max c.loop-place.last (last_delayed c.args.number (drop c.loop-place.place c.args.rows.now)) ≡ last_delayed c.args.number c.args.rows.now = c.loop-place.invariant in
    let value : c.loop-place.last ≡ last_delayed c.args.number c.args.rows.now = omega arith in
    record { value = value; below = omega (arith, delayed-below c.args.number c.args.rows.now) }
