use Rattle.std.proofs.Common.{◌≡◌, drop}
use Rattle.loop_server.specs.Steps.{next_from}
use Rattle.loop_server.proofs.answers.next_from.Given as goal

abbrev pub invariant-loop-place : goal.invariant-loop-place
invariant-loop-place l = next_from l.path l.place (drop l.place l.lines) ≡ next_from l.path l.start (drop l.start l.lines)
