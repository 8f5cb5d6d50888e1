use Rattle.std.proofs.Common.{◌≤◌, take}
use Rattle.std.specs.Prelude.{map}
use Rattle.script_text.specs.Output.{Passes}
use Rattle.script_text.specs.Report.{row_text, lines_text}
use Rattle.script_text.proofs.report.write_rows.Given as goal

abbrev pub invariant-loop-row : goal.invariant-loop-row
invariant-loop-row g l = record {
  passed : Passes (g.K.Sink.taken l.fn.sink) l.fn.out.items (g.K.Sink.taken l.sink) l.out.items (lines_text (map row_text (take l.row-index l.rows)));
  count : g.K.Sink.faults l.fn.sink ≤ g.K.Sink.faults l.sink;
}
