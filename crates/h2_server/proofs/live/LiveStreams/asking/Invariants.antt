use Rattle.std.proofs.Common.{◌≡◌, drop}
use Rattle.h2_server.specs.Steps.{found_from, is_asking}
use Rattle.h2_server.proofs.live.LiveStreams.asking.Given as goal

abbrev pub invariant-loop-place : goal.invariant-loop-place
invariant-loop-place l = found_from (is_asking l.number) l.place (drop l.place l.stream-items) ≡ found_from (is_asking l.number) 0 l.stream-items
