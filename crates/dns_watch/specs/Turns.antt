-- What one turn of a name's job does: a look at the channel, maybe a lookup, and what the channel is given of it.
use Rattle.std.specs.Prelude.{◌≡◌, ◌⊎◌, ℕ, ◌+◌, Bool, true, false, Option, Some, Result, Ok, Err, List}
use Rattle.grpc_base.specs.Counts.{one_more}
use Rattle.grpc_base.specs.Posts.{CountsErrors, Posts}
use Rattle.grpc_base.specs.Refusals.{refusal_number}
use Rattle.grpc_base.specs.declared.event.Conn.{Conn}
use Rattle.grpc_base.specs.declared.event.Conn.TheVariants as conn
use Rattle.grpc_base.specs.declared.event.Entry.{Entry}
use Rattle.grpc_base.specs.declared.event.Event.{Event}
use Rattle.grpc_base.specs.declared.event.Event.TheVariants as event
use Rattle.grpc_base.specs.declared.event.Reply.{Reply}
use Rattle.grpc_base.specs.declared.event.Reply.TheVariants as reply
use Rattle.grpc_base.specs.declared.host.DnsName.{DnsName}
use Rattle.grpc_base.specs.declared.post.PostError.{PostError}
use Rattle.grpc_base.specs.declared.post.PostError.TheVariants as failed
use Rattle.grpc_base.specs.declared.post.View.{View}
use Rattle.dns_watch.specs.Lookups.{Answers, CountsFaults, is_found}
use Rattle.dns_watch.specs.Schedule.{WatchSeen, answered, is_turn}
use Rattle.dns_watch.specs.declared.job.DnsOnce.{DnsOnce}
use Rattle.dns_watch.specs.declared.job.DnsOnce.TheVariants as once
use Rattle.dns_watch.specs.declared.lookup.Looked.{Looked}
use Rattle.dns_watch.specs.declared.lookup.Looked.TheVariants as looked

-- what a handle at the channel has done: the entries that it made, how many of its posts failed, and the last error
pub record HandleSeen : Type 0 where
  pub made : List Entry
  pub errors : ℕ
  pub last : Option PostError

-- where a name's lookups stand: its schedule, how many lookups were made, how many failed, the last answer, and the
-- random words that are to come
pub record SearchSeen : Type 0 where
  pub watch : WatchSeen
  pub lookups : ℕ
  pub faults : ℕ
  pub last : Option Looked
  pub words : ℕ → ℕ

-- all that the job works with
pub record JobSeen : Type 0 where
  pub handle : HandleSeen
  pub search : SearchSeen

-- nothing was posted
pub record PostsNothing (before after : HandleSeen) : Type 0 where
  pub made : after.made ≡ before.made
  pub errors : after.errors ≡ before.errors
  pub last : after.last ≡ before.last

-- nothing was posted, and no name was looked up
pub record DoesNothing (before after : JobSeen) : Type 0 where
  pub handle : PostsNothing before.handle after.handle
  pub search : after.search ≡ before.search

-- the name was looked up once, with this answer, and the schedule was given it with the next random word
pub record LooksUp (may_find : DnsName → List ℕ → Type 0) (moment : ℕ) (answer : Looked) (before after : SearchSeen) : Type 0 where
  pub answers : Answers may_find before.watch.name answer
  pub lookups : after.lookups ≡ one_more before.lookups
  pub faults : CountsFaults before.faults after.faults answer
  pub last : after.last ≡ Some answer
  pub watch : after.watch ≡ answered before.watch (record { moment = moment; word = before.words 0; found = is_found answer })
  pub words : (k : ℕ) → after.words k ≡ before.words (k + 1)

-- the event for the channel that an answer is
abbrev pub event_of : Looked → Option (List ℕ) → Event
event_of (looked.Found addresses) config = event.Resolved addresses config
event_of looked.Failed config = event.ResolveFailed

-- the job's answer, by what came of its post
abbrev pub once_of : Result Reply PostError → DnsOnce
once_of (Ok (reply.Refused r)) = once.Refused (refusal_number r)
once_of (Ok r) = once.Posted
once_of (Err e) = once.Failed e

-- this event was posted, and this came of it
pub record PostsOne (e : Event) (before after : HandleSeen) (came : Result Reply PostError) : Type 0 where
  pub made : Posts before.made after.made e came
  pub errors : CountsErrors before.errors after.errors before.last after.last came

-- this event alone was posted, unless memory was wanting for it, and the job's answer is by what came of it
abbrev pub ReportsThat : Event → HandleSeen → HandleSeen → DnsOnce → Type 0
ReportsThat e before after result =
    ((came : Result Reply PostError) × PostsOne e before after came × (result ≡ once_of came))
    ⊎ (PostsNothing before after × (result ≡ once.Failed (failed.NoMemory false)))

-- where it is the name's turn, it is looked up and the channel gets the very answer; else nothing is done
abbrev pub TurnsIf : Bool → (DnsName → List ℕ → Type 0) → Option (List ℕ) → ℕ → JobSeen → JobSeen → DnsOnce → Type 0
TurnsIf true may_find config moment before after result =
    (answer : Looked) × LooksUp may_find moment answer before.search after.search × ReportsThat (event_of answer config) before.handle after.handle result
TurnsIf false may_find config moment before after result = DoesNothing before after × (result ≡ once.Nothing)

abbrev pub is_shut : Conn → Bool
is_shut conn.Shutdown = true
is_shut _ = false

-- where the channel is shut down, nothing is done; else it goes by the schedule, at a moment that the clock may give
abbrev pub TurnsUnless : Bool → (ℕ → Type 0) → (DnsName → List ℕ → Type 0) → Option (List ℕ) → Bool → JobSeen → JobSeen → DnsOnce → Type 0
TurnsUnless true may_give may_find config wanted before after result = DoesNothing before after × (result ≡ once.Shut)
TurnsUnless false may_give may_find config wanted before after result =
    (moment : ℕ) × may_give moment × TurnsIf (is_turn before.search.watch.newest moment wanted) may_find config moment before after result

-- one turn of the job, by what its look at the channel showed
abbrev pub Turns : View → (ℕ → Type 0) → (DnsName → List ℕ → Type 0) → Option (List ℕ) → JobSeen → JobSeen → DnsOnce → Type 0
Turns view may_give may_find config before after result = TurnsUnless (is_shut view.state) may_give may_find config view.wants_resolution before after result
