use Rattle.std.proofs.Common.{◌≡◌, None, drop}
use Rattle.call_core.specs.Parts.{furthest_from}
use Rattle.call_core.proofs.live.furthest_row.Given as goal

abbrev pub invariant-loop-row : goal.invariant-loop-row
invariant-loop-row l = furthest_from l.buffer None l.live ≡ furthest_from l.buffer l.best (drop l.row-index l.live)
