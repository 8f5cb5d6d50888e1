use Rattle.std.proofs.Common.{◌≡◌, length}
use Rattle.channel_core.specs.Arrivals as arrivals
use Rattle.channel_core.proofs.state.State.end_all_on.Given as goal

abbrev pub invariant-loop-row : goal.invariant-loop-row
invariant-loop-row g l = arrivals.all_ended_on l.link l.ends.entries l.self ≡ arrivals.all_ended_on l.fn.link l.fn.ends.entries l.fn.self

abbrev pub decreases-loop-row : goal.decreases-loop-row
decreases-loop-row g l = length l.ends.entries
