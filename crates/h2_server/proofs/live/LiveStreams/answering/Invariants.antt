use Rattle.std.proofs.Common.{◌≡◌, drop}
use Rattle.h2_server.specs.Steps.{found_from, is_answering}
use Rattle.h2_server.proofs.live.LiveStreams.answering.Given as goal

abbrev pub invariant-loop-place : goal.invariant-loop-place
invariant-loop-place l = found_from (is_answering l.number) l.place (drop l.place l.stream-items) ≡ found_from (is_answering l.number) 0 l.stream-items
