use Rattle.std.proofs.Common.{ℕ, List, arith}
use Rattle.attempt_ledger.specs.declared.row.Row.{Row}
use Rattle.attempt_ledger.specs.Retries.{is_licensed_by}
use Rattle.attempt_ledger.proofs.RowLaws.{found, none-at-all, one-more}
use Rattle.attempt_ledger.proofs.retries.is_licensed.Goals as goal

pub returns-then-is_licensed_by : goal.returns-then-is_licensed_by
returns-then-is_licensed_by c =
    found (λ (place : ℕ) (row : Row) (after : List Row). is_licensed_by c.args.chosen.now c.args.rows.now c.args.retry.now row after) c.args.rows.now c.loop-place.place c.index-rows-place.result c.is_licensed_by.result c.loop-place-test.true c.index-rows-place.is c.loop-place.invariant c.is_licensed_by.ensures c.if-is_licensed_by.true

pub loop-place-preserved : goal.loop-place-preserved
loop-place-preserved c =
    one-more (λ (place : ℕ) (row : Row) (after : List Row). is_licensed_by c.args.chosen.now c.args.rows.now c.args.retry.now row after) c.args.rows.now c.loop-place.place c.index-rows-place.result c.is_licensed_by.result c.loop-place-test.true c.index-rows-place.is c.loop-place.invariant c.is_licensed_by.ensures c.if-is_licensed_by.false

pub returns : goal.returns
returns c = none-at-all (λ (place : ℕ) (row : Row) (after : List Row). is_licensed_by c.args.chosen.now c.args.rows.now c.args.retry.now row after) c.args.rows.now c.loop-place.place (omega (arith, c.loop-place-test.false)) c.loop-place.invariant
