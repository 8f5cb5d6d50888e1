use Rattle.std.proofs.Common.{arith, sym}
use Rattle.script_input.proofs.RecordLaws.{none_here, sign_passed}
use Rattle.script_input.proofs.record.before_sign.Goals as goal

pub loop-place-preserved : goal.loop-place-preserved
loop-place-preserved c =
    sign_passed c.args.text.now c.loop-place.place 0 (omega (arith, c.loop-place-test.true, c.loop-place.auto.place-end)) (none_here c.args.text.now c.loop-place.place (sym c.if-begins.ensures)) c.loop-place.invariant
