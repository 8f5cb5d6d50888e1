use Rattle.std.proofs.Common.{◌≡◌, ◌+◌, drop}
use Rattle.h2_link.specs.Queues.{first_place, comes_after, reset_place}
use Rattle.h2_link.proofs.control.Controls.reset_place.Given as goal

abbrev pub invariant-loop-place : goal.invariant-loop-place
invariant-loop-place l = l.place + first_place (comes_after l.stream) (drop l.place l.self.items) ≡ reset_place l.stream l.fn.self
