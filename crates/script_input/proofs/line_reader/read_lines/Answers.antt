use Rattle.std.proofs.Common.{◌≤◌, arith, length, take}
use Rattle.std.proofs.lemmas.Grind.{common_steps}
use Rattle.script_input.proofs.FeedLaws.{bad_end, stops_in}
use Rattle.script_input.proofs.InputLaws.{Takes-append, exit_of}
use Rattle.script_input.proofs.line_reader.read_lines.Goals as goal

pub loop-count-smaller : goal.loop-count-smaller
loop-count-smaller g c =
    let got = c.in_ok-take_piece-in-Got.ensures.ok c.loop-count.invariant.0 c.loop-count.invariant.2 in
    let long : 1 ≤ length (take c.in-Got.count c.read.new.buf) = grind (arith, common_steps, c.in-Got.ensures.bytes.0, c.in-Got.ensures.bytes.1, c.read.auto.buf) in
    omega (arith, got.room, long)

pub loop-count-preserved : goal.loop-count-preserved
loop-count-preserved g c =
    let got = c.in_ok-take_piece-in-Got.ensures.ok c.loop-count.invariant.0 c.loop-count.invariant.2 in (
      _,
      Takes-append _ _ _ _ _ c.loop-count.invariant.1 c.in-Got.ensures.bytes.2,
      got.read,
      omega (arith, c.loop-count.invariant.3, c.in-Got.ensures.count),
    )

pub returns-in_err-take_piece-in-Got-clause-bad : goal.returns-in_err-take_piece-in-Got-clause-bad
returns-in_err-take_piece-in-Got-clause-bad g c =
    exit_of c.from_residual.result _ c.in_err-take_piece-in-Got.field-0.0 c.from_residual.ensures.1
    (stops_in g.T.Lines.has_taken g.T.Lines.refuses _ _ _ _ _ c.loop-count.feed c.loop-count.lines c.loop-count.invariant.0 _ _ c.loop-count.invariant.1 c.in-Got.ensures.bytes.2 c.loop-count.invariant.2 c.in_err-take_piece-in-Got.ensures.bad)

pub returns-in-End-clause-bad : goal.returns-in-End-clause-bad
returns-in-End-clause-bad g c =
    bad_end g.T.Lines.has_taken g.T.Lines.refuses _ _ _ _ _ c.loop-count.feed c.loop-count.lines c.loop-count.invariant.0 c.finish.result c.loop-count.invariant.1 c.loop-count.invariant.2 c.in-End.ensures.bytes.0 c.in-End.ensures.bytes.1 c.finish.ensures.bad
