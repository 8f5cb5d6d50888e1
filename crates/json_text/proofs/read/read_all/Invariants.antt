use Rattle.std.proofs.Common.{◌≡◌, drop}
use Rattle.json_text.specs.Reading.{run, at_start}
use Rattle.json_text.specs.Views.{state_of}
use Rattle.json_text.proofs.read.read_all.Given as goal

abbrev pub invariant-loop-at : goal.invariant-loop-at
invariant-loop-at l = run l.at (state_of l.reader) (drop l.at l.bytes) ≡ run 0 at_start l.bytes
