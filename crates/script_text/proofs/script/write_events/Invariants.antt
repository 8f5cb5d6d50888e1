use Rattle.std.proofs.Common.{◌≤◌, take}
use Rattle.std.specs.Prelude.{map}
use Rattle.script_text.specs.Output.{Passes}
use Rattle.script_text.specs.Spelling.{lines_text, stamped_text}
use Rattle.script_text.proofs.script.write_events.Given as goal

abbrev pub invariant-loop-stamped : goal.invariant-loop-stamped
invariant-loop-stamped g l = record {
  passed : Passes (g.K.Sink.taken l.fn.sink) l.fn.out.items (g.K.Sink.taken l.sink) l.out.items (lines_text (map stamped_text (take l.stamped-index l.events)));
  count : g.K.Sink.faults l.fn.sink ≤ g.K.Sink.faults l.sink;
}
