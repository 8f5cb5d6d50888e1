use Rattle.std.proofs.Common.{◌≡◌, ◌≤◌, ◌+◌, length, map}
use Rattle.live_channel.specs.Handles.{Splits}
use Rattle.channel_client.proofs.run.client_jobs.Given as goal

-- a part was given for each
abbrev pub invariant-loop-work : goal.invariant-loop-work
invariant-loop-work g l = record {
  lock : l.seat.lock ≡ l.fn.seat.lock;
  parts : l.fn.seat.parts + length l.works.items ≤ l.seat.parts + length l.fn.works.items;
  splits : Splits l.fn.seat (map (λ j. j.post.seat) l.jobs.items) l.seat;
}

abbrev pub decreases-loop-work : goal.decreases-loop-work
decreases-loop-work g l = length l.works.items
