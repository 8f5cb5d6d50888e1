use Rattle.std.proofs.Common.{arith}
use Rattle.attempt_ledger.specs.TransparentRows.{is_taken_by}
use Rattle.attempt_ledger.proofs.RowLaws.{found, none-at-all, one-more}
use Rattle.attempt_ledger.proofs.transparent.is_retry_taken.Goals as goal

pub returns-then-is_taken_by : goal.returns-then-is_taken_by
returns-then-is_taken_by c =
    found (is_taken_by c.args.end.now c.args.place) c.args.rows.now c.loop-other_place.other_place c.index-rows-other_place.result c.is_taken_by.result c.loop-other_place-test.true c.index-rows-other_place.is c.loop-other_place.invariant c.is_taken_by.ensures c.if-is_taken_by.true

pub loop-other_place-preserved : goal.loop-other_place-preserved
loop-other_place-preserved c =
    one-more (is_taken_by c.args.end.now c.args.place) c.args.rows.now c.loop-other_place.other_place c.index-rows-other_place.result c.is_taken_by.result c.loop-other_place-test.true c.index-rows-other_place.is c.loop-other_place.invariant c.is_taken_by.ensures c.if-is_taken_by.false

pub returns : goal.returns
returns c = none-at-all (is_taken_by c.args.end.now c.args.place) c.args.rows.now c.loop-other_place.other_place (omega (arith, c.loop-other_place-test.false)) c.loop-other_place.invariant
