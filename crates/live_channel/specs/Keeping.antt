-- Between the functions of the modes: what the workers beside the calls do to their handles. The promises of the modes don't name this.
use Rattle.std.specs.Prelude.{◌≡◌, ℕ, Option, List, length, map}
use Rattle.std.specs.List.{AllByRecursion, AllZip}
use Rattle.grpc_base.specs.declared.event.Entry.{Entry}
use Rattle.live_run.specs.Outcomes.{gravest}
use Rattle.live_run.specs.Sides.{outcome_in}
use Rattle.turn_lock.specs.History.{LockId, SeatSeen}
use Rattle.live_channel.specs.Handles.{IsFresh, IsKept, keepers_in, seats_in}
use Rattle.live_channel.specs.declared.linkers.Linkers.{Linkers}

-- those beside the calls did their work, each what it is there for, and the gravest of their ends was kept
pub record KeepsDone {H N L D : Type 0} (seat_of : H → SeatSeen Entry) (coming : N → Option (List (List ℕ))) (before after : Linkers H N L D) : Type 0 where
  pub kept : (lock : LockId) → AllByRecursion (IsFresh lock) (seats_in seat_of before.jobs.items) → AllZip (IsKept lock) (keepers_in coming before.jobs.items) (seats_in seat_of after.jobs.items)
  pub count : length after.jobs.items ≡ length before.jobs.items
  pub outcome : after.outcome ≡ gravest (map (λ j. outcome_in j) after.jobs.items)
