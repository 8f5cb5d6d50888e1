use Rattle.std.proofs.Common.{length, map}
use Rattle.std.specs.List.{AllByRecursion}
use Rattle.grpc_base.specs.declared.event.Entry.{Entry}
use Rattle.turn_lock.specs.History.{SeatSeen}
use Rattle.live_channel.specs.Handles.{IsOne, TakesIn, owns_of}
use Rattle.relay_mode.proofs.relay_side.take_in_relays.Given as goal

-- who takes in those that are left has taken in all
abbrev pub invariant-loop-job : goal.invariant-loop-job
invariant-loop-job g l = record {
  ones : AllByRecursion (IsOne l.closer.seat.lock) (map (λ j. j.post.seat) l.jobs.items);
  takes : (z : SeatSeen Entry) → TakesIn l.closer.seat (owns_of (map (λ j. j.post.seat) l.jobs.items)) z → TakesIn l.fn.closer.seat (owns_of (map (λ j. j.post.seat) l.fn.jobs.items)) z;
}

abbrev pub decreases-loop-job : goal.decreases-loop-job
decreases-loop-job g l = length l.jobs.items
