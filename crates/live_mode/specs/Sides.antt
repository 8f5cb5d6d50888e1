-- Between the functions of this crate: what the sides of a run do to the handles of their workers. The promises of the crate don't
-- name these.
use Rattle.std.specs.Prelude.{◌≡◌, ◌+◌, ℕ, Option, List, length, map}
use Rattle.std.specs.List.{AllByRecursion}
use Rattle.grpc_base.specs.declared.event.Entry.{Entry}
use Rattle.live_run.specs.declared.outcome.Outcome.{Outcome}
use Rattle.turn_lock.specs.History.{SeatSeen}
use Rattle.live_channel.specs.Handles.{Closes, IsFresh, Leaves, keepers_in}
use Rattle.live_channel.specs.Keeping.{KeepsDone}
use Rattle.live_mode.specs.Handles.{CallsAreMade}
use Rattle.live_mode.specs.declared.sides.Callers.{Callers}
use Rattle.live_channel.specs.declared.linkers.Linkers.{Linkers}
use Rattle.live_mode.specs.declared.sides.Side.{Side}
use Rattle.live_mode.specs.declared.sides.Side.TheVariants as side

-- those that make calls have fresh handles of the closer's lock
abbrev pub IsReady : {H N L D : Type 0} → (H → SeatSeen Entry) → Side H N L D → Type 0
IsReady seat_of (side.Calls calls) = AllByRecursion (IsFresh (seat_of calls.closer).lock) (map (λ j. seat_of j.post) calls.jobs.items)
IsReady seat_of (side.Links links) = Unit {0}

-- those that make calls did theirs, the closer took their handles in, and then the channel was shut down
pub record MakesDone {H : Type 0} (seat_of : H → SeatSeen Entry) (before after : Callers H) : Type 0 where
  pub lock : (seat_of after.closer).lock ≡ (seat_of before.closer).lock
  pub parts : (seat_of after.closer).parts ≡ (seat_of before.closer).parts + length before.jobs.items
  pub owns : List (List (ℕ × Entry))
  pub makes : CallsAreMade after.outcome (map (λ j. j.lines.items) before.jobs.items) owns
  pub closes : Closes after.outcome owns (seat_of before.closer).seen (seat_of before.closer).own (seat_of after.closer)

abbrev pub SideDone : {H N L D : Type 0} → (H → SeatSeen Entry) → (N → Option (List (List ℕ))) → Side H N L D → Side H N L D → Type 0
SideDone seat_of coming (side.Links before) (side.Links after) = KeepsDone seat_of coming before after
SideDone seat_of coming (side.Calls before) (side.Calls after) = MakesDone seat_of before after
SideDone seat_of coming before after = ⊥

-- both sides did, and the closer took in the handles of those beside the calls; their links had what these dialers held
pub record RunDone {H N L D : Type 0} (seat_of : H → SeatSeen Entry) (coming : N → Option (List (List ℕ))) (links : Linkers H N L D) (calls : Callers H) (seat : SeatSeen Entry) (o : Outcome) : Type 0 where
  pub lock : seat.lock ≡ (seat_of calls.closer).lock
  pub parts : seat.parts ≡ (seat_of calls.closer).parts + length calls.jobs.items + length links.jobs.items
  pub owns : List (List (ℕ × Entry))
  pub makes : CallsAreMade o (map (λ j. j.lines.items) calls.jobs.items) owns
  pub leaves : Leaves o (keepers_in coming links.jobs.items) owns (seat_of calls.closer).seen (seat_of calls.closer).own seat
