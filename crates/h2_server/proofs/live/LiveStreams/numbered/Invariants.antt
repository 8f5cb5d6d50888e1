use Rattle.std.proofs.Common.{◌≡◌, drop}
use Rattle.h2_server.specs.Steps.{found_from, is_numbered}
use Rattle.h2_server.proofs.live.LiveStreams.numbered.Given as goal

abbrev pub invariant-loop-place : goal.invariant-loop-place
invariant-loop-place l = found_from (is_numbered l.number) l.place (drop l.place l.stream-items) ≡ found_from (is_numbered l.number) 0 l.stream-items
