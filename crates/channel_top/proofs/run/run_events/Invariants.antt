use Rattle.std.proofs.Common.{length}
use Rattle.std.specs.Vec.Iter.{into_iter_items}
use Rattle.channel_top.proofs.RunLaws.{IsRunning}
use Rattle.channel_top.proofs.run.run_events.Given as goal

-- the channel was given the events up to those that are left
abbrev pub invariant-loop-stamped : goal.invariant-loop-stamped
invariant-loop-stamped g l = IsRunning l.fn.core l.fn.events.items l.core (into_iter_items l.rest)

abbrev pub decreases-loop-stamped : goal.decreases-loop-stamped
decreases-loop-stamped g l = length (into_iter_items l.rest)
