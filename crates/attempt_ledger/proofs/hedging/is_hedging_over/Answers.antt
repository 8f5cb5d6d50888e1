use Rattle.std.proofs.Common.{ℕ, List, arith}
use Rattle.attempt_ledger.specs.declared.row.Row.{Row}
use Rattle.attempt_ledger.specs.Hedging.{hedging_ended}
use Rattle.attempt_ledger.proofs.RowLaws.{found, none-at-all, one-more}
use Rattle.attempt_ledger.proofs.hedging.is_hedging_over.Goals as goal

pub returns-then-hedging_ended : goal.returns-then-hedging_ended
returns-then-hedging_ended c =
    found (λ (place : ℕ) (row : Row) (after : List Row). hedging_ended c.args.policy.now c.args.moment row after) c.args.rows.now c.loop-place.place c.index-rows-place.result c.hedging_ended.result c.loop-place-test.true c.index-rows-place.is c.loop-place.invariant c.hedging_ended.ensures c.if-hedging_ended.true

pub loop-place-preserved : goal.loop-place-preserved
loop-place-preserved c =
    one-more (λ (place : ℕ) (row : Row) (after : List Row). hedging_ended c.args.policy.now c.args.moment row after) c.args.rows.now c.loop-place.place c.index-rows-place.result c.hedging_ended.result c.loop-place-test.true c.index-rows-place.is c.loop-place.invariant c.hedging_ended.ensures c.if-hedging_ended.false

pub returns : goal.returns
returns c = none-at-all (λ (place : ℕ) (row : Row) (after : List Row). hedging_ended c.args.policy.now c.args.moment row after) c.args.rows.now c.loop-place.place (omega (arith, c.loop-place-test.false)) c.loop-place.invariant
