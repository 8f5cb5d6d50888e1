use Rattle.std.proofs.Common.{◌≡◌, drop}
use Rattle.loop_server.specs.Steps.{cursor_from}
use Rattle.loop_server.proofs.answers.cursor_of.Given as goal

abbrev pub invariant-loop-at : goal.invariant-loop-at
invariant-loop-at l = cursor_from l.path l.at (drop l.at l.cursors) ≡ cursor_from l.path 0 l.cursors
