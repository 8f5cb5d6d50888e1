use Rattle.std.proofs.Common.{◌≡◌, length}
use Rattle.std.specs.Vec.Iter.{into_iter_items}
use Rattle.channel_core.specs.Steps as steps
use Rattle.channel_core.proofs.state.State.seal.Given as goal

abbrev pub invariant-loop-link : goal.invariant-loop-link
invariant-loop-link g l = steps.links_sealed (into_iter_items l.rest) l.self ≡ steps.sealed l.fn.self

abbrev pub decreases-loop-link : goal.decreases-loop-link
decreases-loop-link g l = length (into_iter_items l.rest)
