use Rattle.std.proofs.Common.{◌≤◌, ◌∙◌, arith, length, take}
use Rattle.std.proofs.lemmas.Grind.{common_steps}
use Rattle.script_input.proofs.InputLaws.{Takes-append, bad_piece, exit_of, none_at_end, script_at_end}
use Rattle.script_input.proofs.read.read_form.Goals as goal

pub loop-count-smaller : goal.loop-count-smaller
loop-count-smaller g c =
    let got = c.in_ok-take_piece-in-Got.ensures.ok c.loop-count.invariant.0 c.loop-count.invariant.2 in
    let long : 1 ≤ length (take c.in-Got.count c.read.new.buf) = grind (arith, common_steps, c.in-Got.ensures.bytes.0, c.in-Got.ensures.bytes.1, c.read.auto.buf) in
    omega (arith, got.room, long)

pub loop-count-preserved : goal.loop-count-preserved
loop-count-preserved g c =
    let got = c.in_ok-take_piece-in-Got.ensures.ok c.loop-count.invariant.0 c.loop-count.invariant.2 in (
      _,
      Takes-append _ _ _ _ _ c.loop-count.invariant.1 c.in-Got.ensures.bytes.2,
      got.read,
      omega (arith, c.loop-count.invariant.3, c.in-Got.ensures.count),
      got.form ∙ c.loop-count.invariant.4,
      c.in_ok-take_piece-in-Got.ensures.ready,
    )

pub returns-in_err-take_piece-in-Got-clause-bad : goal.returns-in_err-take_piece-in-Got-clause-bad
returns-in_err-take_piece-in-Got-clause-bad g c =
    exit_of c.from_residual.result _ c.in_err-take_piece-in-Got.field-0.0 c.from_residual.ensures.1
    (bad_piece c.args.form _ _ _ _ _ c.loop-count.collected c.loop-count.invariant.0 _ _ c.loop-count.invariant.4 c.loop-count.invariant.1 c.in-Got.ensures.bytes.2 c.loop-count.invariant.2 c.in_err-take_piece-in-Got.ensures.bad)

pub returns-in-End-clause-bad : goal.returns-in-End-clause-bad
returns-in-End-clause-bad g c =
    none_at_end c.args.form _ _ _ _ _ c.loop-count.collected c.loop-count.invariant.0 c.finish.result c.loop-count.invariant.4 c.loop-count.invariant.1 c.loop-count.invariant.2 c.in-End.ensures.bytes.0 c.in-End.ensures.bytes.1 c.finish.ensures.bad

pub returns-in-End-clause-ok : goal.returns-in-End-clause-ok
returns-in-End-clause-ok g c =
    script_at_end c.args.form _ _ _ c.loop-count.collected c.loop-count.invariant.0 c.finish.result c.loop-count.invariant.4 c.loop-count.invariant.1 c.loop-count.invariant.2 c.in-End.ensures.bytes.0 c.in-End.ensures.bytes.1 c.finish.ensures.ok
