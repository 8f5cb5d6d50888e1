use Rattle.std.proofs.Common.{ℕ, List, arith}
use Rattle.attempt_ledger.specs.declared.row.Row.{Row}
use Rattle.attempt_ledger.specs.Retries.{is_counted_of}
use Rattle.attempt_ledger.proofs.RowLaws.{found, none-at-all, one-more}
use Rattle.attempt_ledger.proofs.retries.some_counted_of.Goals as goal

pub returns-then-is_counted_of : goal.returns-then-is_counted_of
returns-then-is_counted_of c =
    found (λ (place : ℕ) (row : Row) (after : List Row). is_counted_of c.args.number row after) c.args.rows.now c.loop-place.place c.index-rows-place.result c.is_counted_of.result c.loop-place-test.true c.index-rows-place.is c.loop-place.invariant c.is_counted_of.ensures c.if-is_counted_of.true

pub loop-place-preserved : goal.loop-place-preserved
loop-place-preserved c =
    one-more (λ (place : ℕ) (row : Row) (after : List Row). is_counted_of c.args.number row after) c.args.rows.now c.loop-place.place c.index-rows-place.result c.is_counted_of.result c.loop-place-test.true c.index-rows-place.is c.loop-place.invariant c.is_counted_of.ensures c.if-is_counted_of.false

pub returns : goal.returns
returns c = none-at-all (λ (place : ℕ) (row : Row) (after : List Row). is_counted_of c.args.number row after) c.args.rows.now c.loop-place.place (omega (arith, c.loop-place-test.false)) c.loop-place.invariant
