use Rattle.std.proofs.Common.{◌≡◌, ◌≤◌, ◌+◌, ◌++◌, length, map}
use Rattle.std.specs.Vec.Iter.{into_iter_items}
use Rattle.live_channel.specs.Handles.{Splits}
use Rattle.live_mode.specs.Handles.{busy}
use Rattle.live_mode.proofs.workers.call_jobs.Given as goal

-- a part was given for each group that was taken and has calls; and what is left
abbrev pub invariant-loop-lines : goal.invariant-loop-lines
invariant-loop-lines g l = record {
  lock : l.seat.lock ≡ l.fn.seat.lock;
  parts : l.fn.seat.parts + length (into_iter_items l.rest) ≤ l.seat.parts + 16;
  splits : Splits l.fn.seat (map (λ j. j.post.seat) l.jobs.items) l.seat;
  lines : map (λ j. j.lines.items) l.jobs.items ++ busy (map (λ g. g.items) (into_iter_items l.rest)) ≡ busy (map (λ g. g.items) l.fn.groups.items);
}

abbrev pub decreases-loop-lines : goal.decreases-loop-lines
decreases-loop-lines g l = length (into_iter_items l.rest)
