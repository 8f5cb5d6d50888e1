use Rattle.std.proofs.Common.{◌≡◌, length, []}
use Rattle.std.specs.Vec.Iter.{into_iter_items}
use Rattle.channel_core.specs.Arrivals as arrivals
use Rattle.channel_core.specs.Steps as steps
use Rattle.channel_core.proofs.state.State.receive_all.Given as goal

abbrev pub invariant-loop-one : goal.invariant-loop-one
invariant-loop-one g l = record {
  state : arrivals.received_all l.link (into_iter_items l.rest) l.self ≡ arrivals.received_all l.fn.link l.fn.news l.fn.self;
  ends : steps.ends_kept (into_iter_items l.rest) l.ends.entries ≡ steps.ends_kept l.fn.news [];
}

abbrev pub decreases-loop-one : goal.decreases-loop-one
decreases-loop-one g l = length (into_iter_items l.rest)
