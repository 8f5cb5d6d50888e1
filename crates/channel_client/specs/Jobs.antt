-- Between the functions of this crate: what the work of a program did to its handles. The promises of the crate name `ShowsOwn` and
-- `EntriesAreOfCalls` alone.
use Rattle.std.specs.Prelude.{◌≡◌, ℕ, ◌+◌, true, Option, List, [], ◌∷◌, ◌++◌, length}
use Rattle.std.specs.List.{AllByRecursion, AllZip}
use Rattle.grpc_base.specs.declared.event.Entry.{Entry}
use Rattle.client_calls.specs.Entries.{others_in}
use Rattle.live_channel.specs.Handles.{Closes, IsLeft, IsOne}
use Rattle.live_channel.specs.Sharing.{IsOfCall}
use Rattle.live_run.specs.declared.outcome.Outcome.{Outcome}
use Rattle.shared_channel.specs.Turns.{entries_of}
use Rattle.turn_lock.specs.History.{LockId, SeatSeen}
use Rattle.channel_client.specs.declared.clients.Clients.{Clients}
use Rattle.channel_client.specs.declared.job.ClientJob.{ClientJob}

-- entries of applications
abbrev pub EntriesAreOfCalls : List (ℕ × Entry) → Type 0
EntriesAreOfCalls own = AllByRecursion (λ p. IsOfCall p.1.event) own

-- what work says, when it is done, of the entries of its handle
abbrev pub ShowsOwn : {J : Type 0} → (J → List Entry → Type 0) → J → List (ℕ × Entry) → Type 0
ShowsOwn shows work own = shows work (entries_of own)

-- work was done over its handle, which made no other entries than those of calls, and has the share of the channel that it had
pub record JobDone {H J : Type 0} (made : H → List Entry) (share : H → List ℕ) (shows : J → List Entry → Type 0) (before after : ClientJob H J) : Type 0 where
  pub does : made before.post ≡ [] → shows after.work (made after.post)
  pub others : others_in (made after.post) ≡ others_in (made before.post)
  pub same_share : share after.post ≡ share before.post

-- work that was done, with its handle
pub record IsClient {H J : Type 0} (seat_of : H → SeatSeen Entry) (shows : J → List Entry → Type 0) (lock : LockId) (job : ClientJob H J) : Type 0 where
  pub one : IsOne lock (seat_of job.post)
  pub calls : EntriesAreOfCalls (seat_of job.post).own
  pub does : ShowsOwn shows job.work (seat_of job.post).own

-- a list from the last one on
abbrev pub from_last : {X : Type 0} → List X → List X
from_last [] = []
from_last (x ∷ xs) = from_last xs ++ x ∷ []

abbrev pub works_of : {H J : Type 0} → List (ClientJob H J) → List J
works_of [] = []
works_of (job ∷ jobs) = works_of jobs ++ job.work ∷ []

-- all work was done, the closer took the handles in, and then the channel was shut down
pub record ClientsDone {H J : Type 0} (seat_of : H → SeatSeen Entry) (shows : J → List Entry → Type 0) (before after : Clients H J) : Type 0 where
  pub lock : (seat_of after.closer).lock ≡ (seat_of before.closer).lock
  pub parts : (seat_of after.closer).parts ≡ (seat_of before.closer).parts + length before.jobs.items
  pub owns : List (List (ℕ × Entry))
  pub done : after.is_whole ≡ true → before.done.items ≡ [] → AllZip (ShowsOwn shows) after.done.items owns
  pub calls : AllByRecursion EntriesAreOfCalls owns
  pub closes : Closes after.outcome owns (seat_of before.closer).seen (seat_of before.closer).own (seat_of after.closer)

-- the handle that a run leaves beside workers of the first of these dialers, and where addresses came with this config; and the work that was done
pub record LeavesClients {J : Type 0} (shows : J → List Entry → Type 0) (lock : LockId) (held : List (Option (List (List ℕ)))) (config : Option (List ℕ)) (o : Outcome) (works : List J) (seat : SeatSeen Entry) : Type 0 where
  pub owns : List (List (ℕ × Entry))
  pub done : AllZip (ShowsOwn shows) works owns
  pub calls : AllByRecursion EntriesAreOfCalls owns
  pub left : IsLeft lock held config o owns seat
