use Rattle.std.proofs.Common.{◌≤◌, take}
use Rattle.std.specs.Prelude.{map}
use Rattle.script_text.specs.Output.{Passes}
use Rattle.script_text.specs.Report.{entry_text, lines_text}
use Rattle.script_text.proofs.report.write_entries.Given as goal

abbrev pub invariant-loop-entry : goal.invariant-loop-entry
invariant-loop-entry g l = record {
  passed : Passes (g.K.Sink.taken l.fn.sink) l.fn.out.items (g.K.Sink.taken l.sink) l.out.items (lines_text (map entry_text (take l.entry-index l.entries)));
  count : g.K.Sink.faults l.fn.sink ≤ g.K.Sink.faults l.sink;
}
