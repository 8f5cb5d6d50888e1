use Rattle.std.proofs.Common.{◌≡◌, drop}
use Rattle.std.specs.List.{find}
use Rattle.call_core.specs.Parts.{is_row}
use Rattle.call_core.proofs.live.find_live.Given as goal

abbrev pub invariant-loop-row : goal.invariant-loop-row
invariant-loop-row l = find (is_row l.place) l.live ≡ find (is_row l.place) (drop l.row-index l.live)
