use Rattle.std.proofs.Common.{◌++◌, ◌∷◌, [], ◌∙◌, refl, append_assoc}
use Rattle.std.specs.Prelude.{map}
use Rattle.std.proofs.lemmas.Result.{on_ok_weaker, on_err_weaker}
use Rattle.script_text.specs.Report.{report_of, entry_text, row_text, end_text, lines_text}
use Rattle.script_text.proofs.Words.{report_is}
use Rattle.script_text.proofs.Passing.{on_err, failed_entries, failed_rows, failed_end, failed_out, wrote_all}
use Rattle.script_text.proofs.report.write_report.Goals as goal

pub returns-in_err-write_entries-clause-err : goal.returns-in_err-write_entries-clause-err
returns-in_err-write_entries-clause-err g c =
    let j = c.args.journal.now in
    let l = c.args.ledger.now in
    on_err c.from_residual-in_err-write_entries.result
    (failed_entries (g.K.Sink.taken c.args.sink.now) (g.K.Sink.taken c.write_entries.new.sink) c.append_channel.new.out.items
    (lines_text (map entry_text c.as_slice.result.now)) (lines_text (map row_text l.rows)) (end_text j l ++ 10 ∷ []) (report_of c.args.target.now j l)
    (report_is c.args.target.now j l c.new-out.result.items c.append_channel.new.out.items c.as_slice.result.now l.rows c.new-out.ensures.items c.in_ok-append_channel.ensures c.as_slice.ensures refl)
    c.in_err-write_entries.ensures.err)

pub returns-in_err-write_rows-clause-err : goal.returns-in_err-write_rows-clause-err
returns-in_err-write_rows-clause-err g c =
    let j = c.args.journal.now in
    let l = c.args.ledger.now in
    on_err c.from_residual-in_err-write_rows.result
    (failed_rows (g.K.Sink.taken c.args.sink.now) (g.K.Sink.taken c.write_entries.new.sink) (g.K.Sink.taken c.write_rows.new.sink) c.append_channel.new.out.items
    (lines_text (map entry_text c.as_slice.result.now)) (lines_text (map row_text c.as_slice-2.result.now)) (end_text j l ++ 10 ∷ []) (report_of c.args.target.now j l)
    c.write_entries.new.out.items
    (report_is c.args.target.now j l c.new-out.result.items c.append_channel.new.out.items c.as_slice.result.now c.as_slice-2.result.now c.new-out.ensures.items c.in_ok-append_channel.ensures c.as_slice.ensures c.as_slice-2.ensures)
    c.in_ok-write_entries.ensures.ok c.in_err-write_rows.ensures.err)

pub returns-in_err-append_end-clause-err : goal.returns-in_err-append_end-clause-err
returns-in_err-append_end-clause-err g c =
    let j = c.args.journal.now in
    let l = c.args.ledger.now in
    on_err c.from_residual-in_err-append_end.result
    (failed_end (g.K.Sink.taken c.args.sink.now) (g.K.Sink.taken c.write_entries.new.sink) (g.K.Sink.taken c.write_rows.new.sink) c.append_channel.new.out.items
    (lines_text (map entry_text c.as_slice.result.now)) (lines_text (map row_text c.as_slice-2.result.now)) (end_text j l ++ 10 ∷ []) (report_of c.args.target.now j l)
    c.write_entries.new.out.items c.write_rows.new.out.items
    (report_is c.args.target.now j l c.new-out.result.items c.append_channel.new.out.items c.as_slice.result.now c.as_slice-2.result.now c.new-out.ensures.items c.in_ok-append_channel.ensures c.as_slice.ensures c.as_slice-2.ensures)
    c.in_ok-write_entries.ensures.ok c.in_ok-write_rows.ensures.ok)

pub returns-clause-ok : goal.returns-clause-ok
returns-clause-ok g c =
    let j = c.args.journal.now in
    let l = c.args.ledger.now in
    let last = c.in_ok-append_end.ensures ∙ append_assoc c.write_rows.new.out.items (end_text j l) (10 ∷ []) in
    on_ok_weaker c.write_out.result
    (wrote_all (g.K.Sink.taken c.args.sink.now) (g.K.Sink.taken c.write_entries.new.sink) (g.K.Sink.taken c.write_rows.new.sink) (g.K.Sink.taken c.write_out.new.sink) c.append_channel.new.out.items
    (lines_text (map entry_text c.as_slice.result.now)) (lines_text (map row_text c.as_slice-2.result.now)) (end_text j l ++ 10 ∷ []) (report_of c.args.target.now j l)
    c.write_entries.new.out.items c.write_rows.new.out.items c.append_end.new.out.items
    (report_is c.args.target.now j l c.new-out.result.items c.append_channel.new.out.items c.as_slice.result.now c.as_slice-2.result.now c.new-out.ensures.items c.in_ok-append_channel.ensures c.as_slice.ensures c.as_slice-2.ensures)
    c.in_ok-write_entries.ensures.ok c.in_ok-write_rows.ensures.ok last)
    c.write_out.ensures.ok

pub returns-clause-err : goal.returns-clause-err
returns-clause-err g c =
    let j = c.args.journal.now in
    let l = c.args.ledger.now in
    let last = c.in_ok-append_end.ensures ∙ append_assoc c.write_rows.new.out.items (end_text j l) (10 ∷ []) in
    on_err_weaker c.write_out.result
    (failed_out (g.K.Sink.taken c.args.sink.now) (g.K.Sink.taken c.write_entries.new.sink) (g.K.Sink.taken c.write_rows.new.sink) (g.K.Sink.taken c.write_out.new.sink) c.append_channel.new.out.items
    (lines_text (map entry_text c.as_slice.result.now)) (lines_text (map row_text c.as_slice-2.result.now)) (end_text j l ++ 10 ∷ []) (report_of c.args.target.now j l)
    c.write_entries.new.out.items c.write_rows.new.out.items c.append_end.new.out.items
    (report_is c.args.target.now j l c.new-out.result.items c.append_channel.new.out.items c.as_slice.result.now c.as_slice-2.result.now c.new-out.ensures.items c.in_ok-append_channel.ensures c.as_slice.ensures c.as_slice-2.ensures)
    c.in_ok-write_entries.ensures.ok c.in_ok-write_rows.ensures.ok last)
    c.write_out.ensures.err
