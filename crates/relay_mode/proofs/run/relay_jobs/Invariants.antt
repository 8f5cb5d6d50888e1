use Rattle.std.proofs.Common.{◌≡◌, ◌≤◌, ◌+◌, ◌-◌, length, map}
use Rattle.live_channel.specs.Handles.{Splits}
use Rattle.relay_mode.proofs.run.relay_jobs.Given as goal

-- a part was given for each
abbrev pub invariant-loop-seat : goal.invariant-loop-seat
invariant-loop-seat g l = record {
  lock : l.seat.lock ≡ l.fn.seat.lock;
  most : length l.jobs.items ≤ l.fn.count;
  parts : l.seat.parts + length l.jobs.items ≡ l.fn.seat.parts;
  splits : Splits l.fn.seat (map (λ j. j.post.seat) l.jobs.items) l.seat;
}

abbrev pub decreases-loop-seat : goal.decreases-loop-seat
decreases-loop-seat g l = l.fn.count - length l.jobs.items
