-- Between the functions of this crate: what the serving side of a relay did to the handles of its workers. The promises of the crate don't name
-- these.
use Rattle.std.specs.Prelude.{◌≡◌, ◌+◌, ℕ, Option, List, length}
use Rattle.std.specs.List.{AllByRecursion}
use Rattle.grpc_base.specs.declared.event.Entry.{Entry}
use Rattle.live_channel.specs.Handles.{Closes, IsLeft, IsOne}
use Rattle.live_channel.specs.Sharing.{IsOfCall}
use Rattle.live_run.specs.declared.outcome.Outcome.{Outcome}
use Rattle.turn_lock.specs.History.{LockId, SeatSeen}
use Rattle.relay_mode.specs.declared.relay_side.RelaySide.{RelaySide}

-- entries of applications
abbrev pub EntriesAreOfCalls : List (ℕ × Entry) → Type 0
EntriesAreOfCalls own = AllByRecursion (λ p. IsOfCall p.1.event) own

-- the handle of a worker that relayed a link
pub record IsRelayHandle (lock : LockId) (seat : SeatSeen Entry) : Type 0 where
  pub one : IsOne lock seat
  pub calls : EntriesAreOfCalls seat.own

-- the workers relayed their links, the closer took their handles in, and then the channel was shut down
pub record RelaySideDone {H : Type 0} (seat_of : H → SeatSeen Entry) (before after : RelaySide H) : Type 0 where
  pub lock : (seat_of after.closer).lock ≡ (seat_of before.closer).lock
  pub parts : (seat_of after.closer).parts ≡ (seat_of before.closer).parts + length before.jobs.items
  pub owns : List (List (ℕ × Entry))
  pub count : length owns ≡ length before.jobs.items
  pub calls : AllByRecursion EntriesAreOfCalls owns
  pub closes : Closes after.outcome owns (seat_of before.closer).seen (seat_of before.closer).own (seat_of after.closer)

-- the handle that a run leaves of so many links, beside workers of the first of these dialers, and where addresses came with this config
pub record LeavesLinks (lock : LockId) (held : List (Option (List (List ℕ)))) (config : Option (List ℕ)) (o : Outcome) (links : ℕ) (seat : SeatSeen Entry) : Type 0 where
  pub owns : List (List (ℕ × Entry))
  pub count : length owns ≡ links
  pub calls : AllByRecursion EntriesAreOfCalls owns
  pub left : IsLeft lock held config o owns seat
