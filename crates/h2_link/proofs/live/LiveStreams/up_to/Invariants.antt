use Rattle.std.proofs.Common.{◌≡◌, ◌++◌, drop}
use Rattle.std.specs.Prelude.{filter}
use Rattle.h2_link.specs.Steps.{is_within}
use Rattle.h2_link.proofs.live.LiveStreams.up_to.Given as goal

abbrev pub invariant-loop-stream : goal.invariant-loop-stream
invariant-loop-stream l = l.found ++ filter (is_within l.last) (drop l.stream-index l.stream-items) ≡ filter (is_within l.last) l.stream-items
