use Rattle.std.proofs.Common.{◌≡◌, ◌==◌, drop}
use Rattle.std.specs.List.{find}
use Rattle.attempt_buffer.proofs.cursors.find_cursor.Given as goal

abbrev pub invariant-loop-cursor : goal.invariant-loop-cursor
invariant-loop-cursor l = find (λ c. c.row == l.row) l.cursors ≡ find (λ c. c.row == l.row) (drop l.cursor-index l.cursors)
