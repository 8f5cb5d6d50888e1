-- What is posted to a channel: the replies that an event may get, the entry that it makes, and the size of a session.
use Rattle.std.specs.Prelude.{◌≡◌, ◌≤◌, ◌<◌, ℕ, Bool, true, false, ◌+◌, ◌*◌, ◌⊎◌, Option, Some, Result, Ok, Err, List, [], ◌∷◌, ◌++◌, length, min, Contains}
use Rattle.std.specs.List.{sum_by}
use Rattle.std.specs.Option.{option_map_or}
use Rattle.grpc_base.specs.declared.event.Entry.{Entry}
use Rattle.grpc_base.specs.declared.event.Event.{Event}
use Rattle.grpc_base.specs.declared.event.Event.TheVariants as event
use Rattle.grpc_base.specs.declared.event.Refusal.{Refusal}
use Rattle.grpc_base.specs.declared.event.Refusal.TheVariants as refusal
use Rattle.grpc_base.specs.declared.event.Reply.{Reply}
use Rattle.grpc_base.specs.declared.event.Reply.TheVariants as reply
use Rattle.grpc_base.specs.declared.fields.Field.{Field}
use Rattle.grpc_base.specs.declared.post.PostError.{PostError}
use Rattle.grpc_base.specs.declared.post.PostError.TheVariants as failed
use Rattle.grpc_base.specs.Counts.{one_more}
use Rattle.grpc_base.specs.Limits.{message_limit}

-- the refusals that an event may get
abbrev pub refusals_of : Event → List Refusal
refusals_of (event.Begin request) = refusal.Shut ∷ []
refusals_of (event.Send call message) = refusal.Shut ∷ refusal.NoSuchCall ∷ refusal.CallEnded ∷ refusal.AfterFinish ∷ []
refusals_of (event.Finish call) = refusal.Shut ∷ refusal.NoSuchCall ∷ refusal.CallEnded ∷ refusal.AfterFinish ∷ []
refusals_of (event.Take call) = refusal.NoSuchCall ∷ refusal.CallEnded ∷ []
refusals_of (event.Cancel call) = refusal.Shut ∷ refusal.NoSuchCall ∷ refusal.CallEnded ∷ []
refusals_of (event.Resolved addresses config) = refusal.Shut ∷ []
refusals_of event.ResolveFailed = refusal.Shut ∷ []
refusals_of event.TakeDial = refusal.Shut ∷ []
refusals_of (event.LinkUp sub) = refusal.Shut ∷ refusal.NoSuchSub ∷ refusal.NotDialing ∷ []
refusals_of (event.DialFailed sub) = refusal.Shut ∷ refusal.NoSuchSub ∷ refusal.NotDialing ∷ []
refusals_of (event.Arrived link piece) = refusal.Shut ∷ refusal.NoSuchLink ∷ refusal.LinkGone ∷ []
refusals_of (event.LinkLost link) = refusal.Shut ∷ refusal.NoSuchLink ∷ refusal.LinkGone ∷ []
refusals_of (event.Drain link room) = refusal.Shut ∷ refusal.NoSuchLink ∷ refusal.LinkGone ∷ refusal.RoomTooSmall ∷ []
refusals_of (event.Ping link word) = refusal.Shut ∷ refusal.NoSuchLink ∷ refusal.LinkGone ∷ []
refusals_of event.Tick = []
refusals_of event.Shutdown = []

-- what an event is answered where it is not refused
abbrev pub Answers : Event → Reply → Type 0
Answers (event.Begin request) (reply.Call call) = Unit {0}
Answers (event.Send call message) reply.Done = Unit {0}
Answers (event.Send call message) (reply.Full held) = Unit {0}
Answers (event.Finish call) reply.Done = Unit {0}
Answers (event.Take call) (reply.Head meta) = Unit {0}
Answers (event.Take call) (reply.Message octets) = length octets ≤ message_limit
Answers (event.Take call) (reply.End code text meta cause) = Unit {0}
Answers (event.Take call) reply.NotYet = Unit {0}
Answers (event.Cancel call) reply.Done = Unit {0}
Answers (event.Resolved addresses config) reply.Done = Unit {0}
Answers (event.Resolved addresses config) (reply.BadConfig fault) = Unit {0}
Answers event.ResolveFailed reply.Done = Unit {0}
Answers event.TakeDial (reply.Dial sub address until) = Unit {0}
Answers event.TakeDial reply.NotYet = Unit {0}
Answers (event.LinkUp sub) (reply.Link link) = Unit {0}
Answers (event.DialFailed sub) reply.Done = Unit {0}
Answers (event.Arrived link piece) reply.Done = Unit {0}
Answers (event.LinkLost link) reply.Done = Unit {0}
Answers (event.Drain link room) (reply.Octets octets) = Unit {0}
Answers (event.Ping link word) reply.Done = Unit {0}
Answers event.Tick reply.Done = Unit {0}
Answers event.Shutdown reply.Done = Unit {0}
Answers _ _ = ⊥

-- an event may get this reply
abbrev pub MayReply : Event → Reply → Type 0
MayReply e (reply.Refused r) = Contains (refusals_of e) r
MayReply e r = Answers e r

-- the bytes of a list of fields, names and values
abbrev pub fields_bytes : List Field → ℕ
fields_bytes fields = sum_by (λ f. length f.name + length f.value) fields

-- the most bytes that an event adds to a session: 64, and those of its path, metadata, message, piece or config,
-- 6 for each address, and for a drain the smaller of its room and 1,048,576
abbrev pub event_bytes : Event → ℕ
event_bytes (event.Begin request) = 64 + length request.path + fields_bytes request.meta
event_bytes (event.Send call message) = 64 + length message
event_bytes (event.Resolved addresses config) = 64 + 6 * length addresses + option_map_or (λ text. length text) config 0
event_bytes (event.Arrived link piece) = 64 + length piece
event_bytes (event.Drain link room) = 64 + min room 1048576
event_bytes _ = 64

-- a session of so many entries and bytes has no room for an event
abbrev pub HasNoRoom : ℕ → ℕ → Event → Type 0
HasNoRoom entries octets e = (1048576 ≤ entries) ⊎ (268435456 < octets + event_bytes e)

-- one entry more, of this event and this reply
abbrev pub AddsEntry : List Entry → List Entry → Event → Reply → Type 0
AddsEntry before after event reply = (e : Entry) × (after ≡ before ++ e ∷ []) × (e.event ≡ event) × (e.reply ≡ reply)

-- an error makes no entry, and a full session has no room for the event
abbrev pub IsErrorOf : Event → PostError → Type 0
IsErrorOf e (failed.NoMemory spent) = Unit {0}
IsErrorOf e (failed.SessionFull entries octets) = HasNoRoom entries octets e

-- what a post of this event does to the entries that were made
abbrev pub Posts : List Entry → List Entry → Event → Result Reply PostError → Type 0
Posts before after event (Ok reply) = AddsEntry before after event reply × MayReply event reply
Posts before after event (Err error) = (after ≡ before) × IsErrorOf event error

-- what a post does to the count of its errors and to the last one
abbrev pub CountsErrors : ℕ → ℕ → Option PostError → Option PostError → Result Reply PostError → Type 0
CountsErrors before after last_before last_after (Ok reply) = (after ≡ before) × (last_after ≡ last_before)
CountsErrors before after last_before last_after (Err error) = (after ≡ one_more before) × (last_after ≡ Some error)

-- nothing further has come for the call
abbrev pub is_not_yet : Reply → Bool
is_not_yet reply.NotYet = true
is_not_yet _ = false

-- the call holds so much that the message is not taken
abbrev pub is_full : Reply → Bool
is_full (reply.Full held) = true
is_full _ = false
