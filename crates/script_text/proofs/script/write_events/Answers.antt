use Rattle.std.proofs.Common.{◌++◌, ◌∷◌, [], ◌∙◌, ap, arith}
use Rattle.script_text.specs.Spelling.{stamped_text}
use Rattle.script_text.proofs.Passing.{on_err, passed_one, failed_before, failed_at}
use Rattle.script_text.proofs.script.write_events.Goals as goal

pub returns-in_err-append_stamped-clause-err : goal.returns-in_err-append_stamped-clause-err
returns-in_err-append_stamped-clause-err g c =
    on_err c.from_residual.result
    (failed_before stamped_text c.args.events.now c.loop-stamped.stamped-index (g.K.Sink.taken c.args.sink.now) (g.K.Sink.taken c.loop-stamped.sink) c.args.out.now.items c.loop-stamped.out.items c.loop-stamped.invariant.passed)

pub returns-in_err-write_chunk-clause-err : goal.returns-in_err-write_chunk-clause-err
returns-in_err-write_chunk-clause-err g c =
    let line = c.in_ok-append_stamped.ensures ∙ ap (λ r. c.loop-stamped.out.items ++ stamped_text r ++ 10 ∷ []) c.stamped-item.is in
    on_err c.from_residual-in_err-write_chunk.result
    (failed_at stamped_text c.args.events.now c.loop-stamped.stamped-index c.stamped-item.result (g.K.Sink.taken c.args.sink.now) (g.K.Sink.taken c.loop-stamped.sink) (g.K.Sink.taken c.write_chunk.new.sink) c.args.out.now.items c.loop-stamped.out.items c.append_stamped.new.out.items c.loop-stamped-test.true c.loop-stamped.invariant.passed line c.in_err-write_chunk.ensures.err)

pub loop-stamped-preserved : goal.loop-stamped-preserved
loop-stamped-preserved g c =
    let line = c.in_ok-append_stamped.ensures ∙ ap (λ r. c.loop-stamped.out.items ++ stamped_text r ++ 10 ∷ []) c.stamped-item.is in
    record {
      passed = passed_one stamped_text c.args.events.now c.loop-stamped.stamped-index c.stamped-item.result (g.K.Sink.taken c.args.sink.now) (g.K.Sink.taken c.loop-stamped.sink) (g.K.Sink.taken c.write_chunk.new.sink) c.args.out.now.items c.loop-stamped.out.items c.append_stamped.new.out.items c.write_chunk.new.out.items c.loop-stamped-test.true c.loop-stamped.invariant.passed line c.in_ok-write_chunk.ensures.ok;
      count = omega (arith, c.loop-stamped.invariant.count, c.in_ok-write_chunk.ensures.count);
    }
