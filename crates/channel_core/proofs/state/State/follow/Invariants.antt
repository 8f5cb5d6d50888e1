use Rattle.std.proofs.Common.{◌≡◌, length}
use Rattle.std.specs.Vec.Iter.{into_iter_items}
use Rattle.channel_core.specs.Steps as steps
use Rattle.channel_core.proofs.state.State.follow.Given as goal

abbrev pub invariant-loop-act : goal.invariant-loop-act
invariant-loop-act g l = steps.acts_done l.call (into_iter_items l.rest) l.self ≡ steps.acts_done l.fn.call l.fn.acts l.fn.self

abbrev pub decreases-loop-act : goal.decreases-loop-act
decreases-loop-act g l = length (into_iter_items l.rest)
