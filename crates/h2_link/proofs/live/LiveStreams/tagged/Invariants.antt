use Rattle.std.proofs.Common.{◌≡◌, drop}
use Rattle.h2_link.specs.Steps.{found_from, is_tagged}
use Rattle.h2_link.proofs.live.LiveStreams.tagged.Given as goal

abbrev pub invariant-loop-place : goal.invariant-loop-place
invariant-loop-place l = found_from (is_tagged l.tag) l.place (drop l.place l.stream-items) ≡ found_from (is_tagged l.tag) 0 l.stream-items
