use Rattle.std.proofs.Common.{◌++◌, ◌∷◌, [], ◌∙◌, ap, arith}
use Rattle.script_text.specs.Report.{row_text}
use Rattle.script_text.proofs.Passing.{on_err, passed_one, failed_before, failed_at}
use Rattle.script_text.proofs.report.write_rows.Goals as goal

pub returns-in_err-append_row-clause-err : goal.returns-in_err-append_row-clause-err
returns-in_err-append_row-clause-err g c =
    on_err c.from_residual.result
    (failed_before row_text c.args.rows.now c.loop-row.row-index (g.K.Sink.taken c.args.sink.now) (g.K.Sink.taken c.loop-row.sink) c.args.out.now.items c.loop-row.out.items c.loop-row.invariant.passed)

pub returns-in_err-write_chunk-clause-err : goal.returns-in_err-write_chunk-clause-err
returns-in_err-write_chunk-clause-err g c =
    let line = c.in_ok-append_row.ensures ∙ ap (λ r. c.loop-row.out.items ++ row_text r ++ 10 ∷ []) c.row-item.is in
    on_err c.from_residual-in_err-write_chunk.result
    (failed_at row_text c.args.rows.now c.loop-row.row-index c.row-item.result (g.K.Sink.taken c.args.sink.now) (g.K.Sink.taken c.loop-row.sink) (g.K.Sink.taken c.write_chunk.new.sink) c.args.out.now.items c.loop-row.out.items c.append_row.new.out.items c.loop-row-test.true c.loop-row.invariant.passed line c.in_err-write_chunk.ensures.err)

pub loop-row-preserved : goal.loop-row-preserved
loop-row-preserved g c =
    let line = c.in_ok-append_row.ensures ∙ ap (λ r. c.loop-row.out.items ++ row_text r ++ 10 ∷ []) c.row-item.is in
    record {
      passed = passed_one row_text c.args.rows.now c.loop-row.row-index c.row-item.result (g.K.Sink.taken c.args.sink.now) (g.K.Sink.taken c.loop-row.sink) (g.K.Sink.taken c.write_chunk.new.sink) c.args.out.now.items c.loop-row.out.items c.append_row.new.out.items c.write_chunk.new.out.items c.loop-row-test.true c.loop-row.invariant.passed line c.in_ok-write_chunk.ensures.ok;
      count = omega (arith, c.loop-row.invariant.count, c.in_ok-write_chunk.ensures.count);
    }
