use Rattle.std.proofs.Common.{◌≡◌, ◌++◌, drop}
use Rattle.std.specs.Prelude.{map}
use Rattle.h2_link.specs.Drains.{named}
use Rattle.h2_link.proofs.state.names_from.Given as goal

abbrev pub invariant-loop-stream : goal.invariant-loop-stream
invariant-loop-stream l = l.names ++ map named (drop l.stream-index l.opened) ≡ map named l.opened
