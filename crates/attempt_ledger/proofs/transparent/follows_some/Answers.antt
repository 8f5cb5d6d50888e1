use Rattle.std.proofs.Common.{arith}
use Rattle.attempt_ledger.specs.TransparentRows.{follows}
use Rattle.attempt_ledger.proofs.RowLaws.{found, none-at-all, one-more}
use Rattle.attempt_ledger.proofs.transparent.follows_some.Goals as goal

pub returns-then-follows : goal.returns-then-follows
returns-then-follows c =
    found (follows c.args.rows.now c.args.follower.now) c.args.before.now c.loop-place.place c.index-before-place.result c.follows.result c.loop-place-test.true c.index-before-place.is c.loop-place.invariant c.follows.ensures c.if-follows.true

pub loop-place-preserved : goal.loop-place-preserved
loop-place-preserved c =
    one-more (follows c.args.rows.now c.args.follower.now) c.args.before.now c.loop-place.place c.index-before-place.result c.follows.result c.loop-place-test.true c.index-before-place.is c.loop-place.invariant c.follows.ensures c.if-follows.false

pub returns : goal.returns
returns c = none-at-all (follows c.args.rows.now c.args.follower.now) c.args.before.now c.loop-place.place (omega (arith, c.loop-place-test.false)) c.loop-place.invariant
