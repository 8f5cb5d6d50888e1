use Rattle.std.proofs.Common.{◌≡◌, ◌++◌, drop}
use Rattle.std.specs.Prelude.{filter}
use Rattle.h2_link.specs.Steps.{is_above}
use Rattle.h2_link.proofs.live.LiveStreams.above.Given as goal

abbrev pub invariant-loop-stream : goal.invariant-loop-stream
invariant-loop-stream l = l.found ++ filter (is_above l.last) (drop l.stream-index l.stream-items) ≡ filter (is_above l.last) l.stream-items
