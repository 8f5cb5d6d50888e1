use Rattle.std.proofs.Common.{◌≡◌, ◌++◌, map, take, drop}
use Rattle.call_core.specs.Parts.{linked}
use Rattle.call_core.proofs.live.link_all.Given as goal

abbrev pub invariant-loop-index : goal.invariant-loop-index
invariant-loop-index l = l.live ≡ map (linked l.place l.link) (take l.index l.fn.live) ++ drop l.index l.fn.live
