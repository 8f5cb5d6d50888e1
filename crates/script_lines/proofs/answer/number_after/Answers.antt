use Rattle.std.proofs.Common.{◌+◌, arith}
use Rattle.script_lines.proofs.FieldLaws.{other_number}
use Rattle.script_lines.proofs.answer.number_after.Goals as goal

pub returns-then-number-before-clause-bad : goal.returns-then-number-before-clause-bad
returns-then-number-before-clause-bad c =
    other_number c.in-Some.number (c.args.before + 1) c.args.text.now c.bad-then-number-before.result (omega (arith, c.in-Some.ensures.some.0)) (omega (arith, c.ranges.before.fits)) c.if-number-before.true c.in-Some.ensures.some.1 c.bad-then-number-before.ensures
