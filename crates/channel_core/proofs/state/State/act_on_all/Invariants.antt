use Rattle.std.proofs.Common.{◌≡◌, length}
use Rattle.std.specs.Vec.Iter.{into_iter_items}
use Rattle.channel_core.specs.CallEvents.{all_acted_by}
use Rattle.channel_core.proofs.state.State.act_on_all.Given as goal

abbrev pub invariant-loop-call : goal.invariant-loop-call
invariant-loop-call g l = all_acted_by l.event (into_iter_items l.rest) l.self ≡ all_acted_by l.event l.fn.calls l.fn.self

abbrev pub decreases-loop-call : goal.decreases-loop-call
decreases-loop-call g l = length (into_iter_items l.rest)
