use Rattle.std.proofs.Common.{◌≡◌, ◌++◌, map, take, drop}
use Rattle.attempt_buffer.specs.Cursors.{at_spot}
use Rattle.attempt_buffer.proofs.cursors.move_cursor.Given as goal

abbrev pub invariant-loop-place : goal.invariant-loop-place
invariant-loop-place l = l.cursors ≡ map (at_spot l.row l.spot) (take l.place l.fn.cursors) ++ drop l.place l.fn.cursors
