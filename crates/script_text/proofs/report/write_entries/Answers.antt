use Rattle.std.proofs.Common.{◌++◌, ◌∷◌, [], ◌∙◌, ap, arith}
use Rattle.script_text.specs.Report.{entry_text}
use Rattle.script_text.proofs.Passing.{on_err, passed_one, failed_before, failed_at}
use Rattle.script_text.proofs.report.write_entries.Goals as goal

pub returns-in_err-append_entry-clause-err : goal.returns-in_err-append_entry-clause-err
returns-in_err-append_entry-clause-err g c =
    on_err c.from_residual.result
    (failed_before entry_text c.args.entries.now c.loop-entry.entry-index (g.K.Sink.taken c.args.sink.now) (g.K.Sink.taken c.loop-entry.sink) c.args.out.now.items c.loop-entry.out.items c.loop-entry.invariant.passed)

pub returns-in_err-write_chunk-clause-err : goal.returns-in_err-write_chunk-clause-err
returns-in_err-write_chunk-clause-err g c =
    let line = c.in_ok-append_entry.ensures ∙ ap (λ r. c.loop-entry.out.items ++ entry_text r ++ 10 ∷ []) c.entry-item.is in
    on_err c.from_residual-in_err-write_chunk.result
    (failed_at entry_text c.args.entries.now c.loop-entry.entry-index c.entry-item.result (g.K.Sink.taken c.args.sink.now) (g.K.Sink.taken c.loop-entry.sink) (g.K.Sink.taken c.write_chunk.new.sink) c.args.out.now.items c.loop-entry.out.items c.append_entry.new.out.items c.loop-entry-test.true c.loop-entry.invariant.passed line c.in_err-write_chunk.ensures.err)

pub loop-entry-preserved : goal.loop-entry-preserved
loop-entry-preserved g c =
    let line = c.in_ok-append_entry.ensures ∙ ap (λ r. c.loop-entry.out.items ++ entry_text r ++ 10 ∷ []) c.entry-item.is in
    record {
      passed = passed_one entry_text c.args.entries.now c.loop-entry.entry-index c.entry-item.result (g.K.Sink.taken c.args.sink.now) (g.K.Sink.taken c.loop-entry.sink) (g.K.Sink.taken c.write_chunk.new.sink) c.args.out.now.items c.loop-entry.out.items c.append_entry.new.out.items c.write_chunk.new.out.items c.loop-entry-test.true c.loop-entry.invariant.passed line c.in_ok-write_chunk.ensures.ok;
      count = omega (arith, c.loop-entry.invariant.count, c.in_ok-write_chunk.ensures.count);
    }
