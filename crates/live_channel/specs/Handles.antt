-- Between the functions of the modes: what the handles of a run are, and what the one knows that takes the others in. The promises of
-- the modes don't name these.
use Rattle.std.specs.Prelude.{◌≡◌, ◌≤◌, ℕ, ◌+◌, false, Option, Some, None, Result, Ok, Err, List, [], ◌∷◌, ◌++◌, length, map, take}
use Rattle.std.specs.List.{AllByRecursion, AllZip, fold}
use Rattle.std.specs.Option.{option_to_list}
use Rattle.grpc_base.specs.declared.event.Entry.{Entry}
use Rattle.grpc_base.specs.declared.event.Event.{Event}
use Rattle.grpc_base.specs.declared.event.Event.TheVariants as event
use Rattle.grpc_base.specs.declared.event.Reply.{Reply}
use Rattle.grpc_base.specs.declared.post.PostError.{PostError}
use Rattle.live_pump.specs.Prefixes.{IsPrefix, Unopened, reported_by}
use Rattle.live_pump.specs.Kinds.{IsOfLinks}
use Rattle.live_run.specs.Outcomes.{graver, outcome_of}
use Rattle.live_run.specs.Sides.{IsOfNames}
use Rattle.live_run.specs.declared.link_job.LinkJob.{LinkJob}
use Rattle.live_run.specs.declared.link_job.LinkJob.TheVariants as job
use Rattle.live_run.specs.declared.outcome.Outcome.{Outcome}
use Rattle.live_run.specs.declared.outcome.Outcome.TheVariants as outcome
use Rattle.shared_channel.specs.Histories.{is_shutdown}
use Rattle.shared_channel.specs.Turns.{entries_of}
use Rattle.turn_lock.specs.History.{Ascends, LockId, SeatSeen, Stands, StartsWith, places, times}
use Rattle.live_channel.specs.Sharing.{is_of_call, times_in}

-- the first handle of a new channel, which has every part
pub record IsFirstSeat (lock : LockId) (seat : SeatSeen Entry) : Type 0 where
  pub lock_is : seat.lock ≡ lock
  pub parts : seat.parts ≡ 4294967296
  pub seen : seat.seen ≡ []
  pub own : seat.own ≡ []

-- a handle of this lock, with one part
pub record IsOne (lock : LockId) (seat : SeatSeen Entry) : Type 0 where
  pub lock_is : seat.lock ≡ lock
  pub parts : seat.parts ≡ 1

-- the same, and it has no entries
pub record IsFresh (lock : LockId) (seat : SeatSeen Entry) : Type 0 where
  pub one : IsOne lock seat
  pub own : seat.own ≡ []

-- handles were split off: each is fresh, and took one part
pub record Splits (before : SeatSeen Entry) (seats : List (SeatSeen Entry)) (after : SeatSeen Entry) : Type 0 where
  pub lock : after.lock ≡ before.lock
  pub seen : after.seen ≡ before.seen
  pub own : after.own ≡ before.own
  pub parts : before.parts ≡ after.parts + length seats
  pub fresh : AllByRecursion (IsFresh before.lock) seats

-- an event neither of an application nor a Shutdown
pub record IsBeside (e : Event) : Type 0 where
  pub call : is_of_call e ≡ false
  pub shut : is_shutdown e ≡ false

abbrev pub EntriesAreBesideCalls : List (ℕ × Entry) → Type 0
EntriesAreBesideCalls own = AllByRecursion (λ p. IsBeside p.1.event) own

-- what a worker beside the calls is there for: it keeps links open of a dialer that held this for them, where the dialer says them, or it looks a name up and posts its
-- addresses with this config
pub data Keeper : Type 0 where
  OfLinks : Option (List (List ℕ)) → Keeper
  OfNames : Option (List ℕ) → Keeper

-- the entries of such a worker: what came on its links is as its dialer held it
abbrev pub KeepsAs : Keeper → List (ℕ × Entry) → Type 0
KeepsAs (OfLinks held) own =
    AllByRecursion (λ p. IsOfLinks p.1.event) own
    × ((coming : List (List ℕ)) → held ≡ Some coming → (link : ℕ) → IsPrefix (fold (reported_by link) (record { link_history = Unopened; coming = coming }) (entries_of own)).link_history)
KeepsAs (OfNames config) own = AllByRecursion (λ p. IsOfNames config p.1.event) own

-- the handle of such a worker
pub record IsKept (lock : LockId) (keeper : Keeper) (seat : SeatSeen Entry) : Type 0 where
  pub one : IsOne lock seat
  pub keeps : KeepsAs keeper seat.own

-- what the dialers held, of those that keep links open
abbrev pub helds_of : List Keeper → List (Option (List (List ℕ)))
helds_of [] = []
helds_of (OfLinks held ∷ keepers) = held ∷ helds_of keepers
helds_of (OfNames config ∷ keepers) = helds_of keepers

-- addresses of a name come with this config
abbrev pub IsWithConfig : Option (List ℕ) → Keeper → Type 0
IsWithConfig reported (OfLinks held) = Unit {0}
IsWithConfig reported (OfNames config) = config ≡ reported

-- of the first dialers each has a worker that keeps links open, and what these held is so; addresses come with this config, from the workers and from the first handle,
-- which posted nothing else
pub record DialersAreGiven (held : List (Option (List (List ℕ)))) (config : Option (List ℕ)) (keepers : List Keeper) (seat : SeatSeen Entry) : Type 0 where
  pub workers : ℕ
  pub links : helds_of keepers ≡ take workers held
  pub names : AllByRecursion (IsWithConfig config) keepers
  pub first : AllByRecursion (λ p. IsOfNames config p.1.event) seat.own

-- entries with their places, which stand in this history, in their order
pub record StandInOrder (history : List Entry) (own : List (ℕ × Entry)) : Type 0 where
  pub stands : Stands history own
  pub ascends : Ascends 0 own

-- the handle of a worker beside the calls
abbrev pub handle_in : {H N L D : Type 0} → LinkJob H N L D → H
handle_in (job.Net net) = net.post
handle_in (job.Name name) = name.post

abbrev pub seats_in : {H N L D : Type 0} → (H → SeatSeen Entry) → List (LinkJob H N L D) → List (SeatSeen Entry)
seats_in seat_of jobs = map (λ j. seat_of (handle_in j)) jobs

-- and what each is there for
abbrev pub keeper_in : {H N L D : Type 0} → (N → Option (List (List ℕ))) → LinkJob H N L D → Keeper
keeper_in coming (job.Net net) = OfLinks (coming net.dialer)
keeper_in coming (job.Name name) = OfNames name.config

abbrev pub keepers_in : {H N L D : Type 0} → (N → Option (List (List ℕ))) → List (LinkJob H N L D) → List Keeper
keepers_in coming jobs = map (λ j. keeper_in coming j) jobs

-- the entries of each handle
abbrev pub owns_of : List (SeatSeen Entry) → List (List (ℕ × Entry))
owns_of seats = map (λ s. s.own) seats

-- a handle took in others, one part and these entries of each
pub record TakesIn (before : SeatSeen Entry) (owns : List (List (ℕ × Entry))) (after : SeatSeen Entry) : Type 0 where
  pub lock : after.lock ≡ before.lock
  pub parts : after.parts ≡ before.parts + length owns
  pub sees : StartsWith after.seen before.seen
  pub each : AllByRecursion (StandInOrder after.seen) owns
  pub count : (x : ℕ) → times x after.own ≡ times x before.own + times_in x owns

-- how a post ended
abbrev pub outcome_of_post : Result Reply PostError → Outcome
outcome_of_post (Ok reply) = outcome.Whole
outcome_of_post (Err e) = outcome_of e

-- the Shutdown that was posted; where that failed there is none
abbrev pub IsClosing : Outcome → Option Entry → Type 0
IsClosing o (Some e) = e.event ≡ event.Shutdown
IsClosing o None = o ≡ outcome.Whole → ⊥

-- the Shutdown was posted after this prefix, or that failed
pub record Shuts (o : Outcome) (before after : SeatSeen Entry) : Type 0 where
  pub lock : after.lock ≡ before.lock
  pub parts : after.parts ≡ before.parts
  pub prefix : List Entry
  pub closing : Option Entry
  pub is_closing : IsClosing o closing
  pub sees : StartsWith prefix before.seen
  pub seen : after.seen ≡ prefix ++ option_to_list closing
  pub own : after.own ≡ before.own ++ places (length prefix) (option_to_list closing)

-- The handle of a channel that was given its addresses or has a worker for its name, and from which one was split off for each worker
-- beside the calls. None of its entries is of an application or a Shutdown
pub record IsStarted (lock : LockId) (seats : List (SeatSeen Entry)) (seat : SeatSeen Entry) : Type 0 where
  pub lock_is : seat.lock ≡ lock
  pub parts : seat.parts + length seats ≡ 4294967296
  pub few : length seats ≤ 5
  pub fresh : AllByRecursion (IsFresh lock) seats
  pub stands : Stands seat.seen seat.own
  pub beside : EntriesAreBesideCalls seat.own

-- A handle that had seen and made so much took in handles with these entries, and then posted the Shutdown
pub record Closes (o : Outcome) (owns : List (List (ℕ × Entry))) (seen : List Entry) (own : List (ℕ × Entry)) (after : SeatSeen Entry) : Type 0 where
  pub prefix : List Entry
  pub closing : Option Entry
  pub each : AllByRecursion (StandInOrder prefix) owns
  pub is_closing : IsClosing o closing
  pub sees : StartsWith prefix seen
  pub shows : after.seen ≡ prefix ++ option_to_list closing
  pub count : (x : ℕ) → times x after.own ≡ times x own + times_in x owns + times x (places (length prefix) (option_to_list closing))

-- and then it took in those of the workers beside the calls
pub record Leaves (o : Outcome) (keepers : List Keeper) (owns : List (List (ℕ × Entry))) (seen : List Entry) (own : List (ℕ × Entry)) (after : SeatSeen Entry) : Type 0 where
  pub made : Outcome
  pub kept : Outcome
  pub outcome : o ≡ graver made kept
  pub shut : SeatSeen Entry
  pub closes : Closes made owns seen own shut
  pub others : List (List (ℕ × Entry))
  pub keeps : AllZip KeepsAs keepers others
  pub takes : TakesIn shut others after

-- the handle that a run leaves has every part. Before it took the others in, none of its entries was of an application or a Shutdown. Beside the calls were workers of
-- the first of these dialers, and addresses came with this config
pub record IsLeft (lock : LockId) (held : List (Option (List (List ℕ)))) (config : Option (List ℕ)) (o : Outcome) (owns : List (List (ℕ × Entry))) (seat : SeatSeen Entry) : Type 0 where
  pub lock_is : seat.lock ≡ lock
  pub parts : seat.parts ≡ 4294967296
  pub keepers : List Keeper
  pub start : SeatSeen Entry
  pub given : DialersAreGiven held config keepers start
  pub stands : Stands start.seen start.own
  pub beside : EntriesAreBesideCalls start.own
  pub leaves : Leaves o keepers owns start.seen start.own seat
