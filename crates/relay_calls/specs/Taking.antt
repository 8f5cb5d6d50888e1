-- What is taken of the calls, and how they are given up.
use Rattle.std.specs.Prelude.{◌≡◌, ◌<◌, ℕ, zero, suc, Bool, true, false, Option, Some, None, Result, Ok, Err, length, slice_get, slice_set}
use Rattle.grpc_base.specs.Counts.{one_more}
use Rattle.grpc_base.specs.declared.event.Event.TheVariants as event
use Rattle.grpc_base.specs.declared.event.Reply.{Reply}
use Rattle.grpc_base.specs.declared.event.Reply.TheVariants as reply
use Rattle.grpc_base.specs.declared.post.Look.TheVariants as look
use Rattle.grpc_base.specs.declared.post.PostError.{PostError}
use Rattle.live_pump.specs.Pumps.{HandleSeen, PostsOne}
use Rattle.relay_calls.specs.Calls.{Calls}
use Rattle.relay_calls.specs.Posting.{Eyes, LooksAt}
use Rattle.relay_calls.specs.declared.call.RelayCall.{RelayCall}

-- the head, a message or the end of a call; another reply gives nothing
abbrev pub item_of : Reply → Option Reply
item_of (reply.Head meta) = Some (reply.Head meta)
item_of (reply.Message octets) = Some (reply.Message octets)
item_of (reply.End code text meta cause) = Some (reply.End code text meta cause)
item_of r = None

-- the call of which the end was taken gives nothing more
abbrev pub taken : RelayCall → Reply → RelayCall
taken k (reply.End code text meta cause) = record k { is_open = false }
taken k r = k

-- what a Take came to: the item that it gave, or none
abbrev pub Gives : RelayCall → Result Reply PostError → RelayCall → Result (Option Reply) PostError → Type 0
Gives k (Ok r) after result = (after ≡ taken k r) × (result ≡ Ok (item_of r))
Gives k (Err error) after result = (after ≡ k) × (result ≡ Err error)

-- one Take is posted after a look that shows that there is something to take; else nothing
abbrev pub TakesIf : {P : Type 0} → Eyes P → Bool → RelayCall → P → RelayCall → P → Result (Option Reply) PostError → Type 0
TakesIf eyes true k before after_call after result =
    (came : Result Reply PostError) × PostsOne (event.Take k.call) (eyes.handle before) (eyes.handle after) came × Gives k came after_call result
TakesIf eyes false k before after_call after result =
    (eyes.handle after ≡ eyes.handle before) × (after_call ≡ k) × (result ≡ Ok None)

abbrev pub TakesOpen : {P : Type 0} → Eyes P → Bool → RelayCall → P → RelayCall → P → Result (Option Reply) PostError → Type 0
TakesOpen {P} eyes true k before after_call after result =
    (come : Bool) × (looked : P) × LooksAt eyes (look.CanTake k.call come) before looked × TakesIf eyes come k looked after_call after result
TakesOpen eyes false k before after_call after result = (after ≡ before) × (after_call ≡ k) × (result ≡ Ok None)

-- what is taken of one call: nothing where it is not open
abbrev pub TakesOne : {P : Type 0} → Eyes P → RelayCall → P → RelayCall → P → Result (Option Reply) PostError → Type 0
TakesOne eyes k before after_call after result = TakesOpen eyes k.is_open k before after_call after result

-- what is taken of the call at a place
abbrev pub TakesAt : {P : Type 0} → Eyes P → ℕ → Calls → P → Calls → P → Result (Option Reply) PostError → Type 0
TakesAt eyes place c before after_calls after result =
    (k : RelayCall) × (k' : RelayCall) × (slice_get c.calls place ≡ Some k) × (after_calls ≡ record c { calls = slice_set c.calls place k' })
    × TakesOne eyes k before k' after result

-- a call that is open is given up: one Cancel is posted, and a refusal is passed over
abbrev pub GaveUp : RelayCall → Result Reply PostError → RelayCall → Result Unit PostError → Type 0
GaveUp k (Ok r) after result = (after ≡ record k { asking = false; is_open = false }) × (result ≡ Ok tt)
GaveUp k (Err error) after result = (after ≡ k) × (result ≡ Err error)

abbrev pub GivesUpOpen : {P : Type 0} → Eyes P → Bool → RelayCall → P → RelayCall → P → Result Unit PostError → Type 0
GivesUpOpen eyes true k before after_call after result =
    (came : Result Reply PostError) × PostsOne (event.Cancel k.call) (eyes.handle before) (eyes.handle after) came × GaveUp k came after_call result
GivesUpOpen eyes false k before after_call after result = (after ≡ before) × (after_call ≡ k) × (result ≡ Ok tt)

abbrev pub GivesUp : {P : Type 0} → Eyes P → RelayCall → P → RelayCall → P → Result Unit PostError → Type 0
GivesUp eyes k before after_call after result = GivesUpOpen eyes k.is_open k before after_call after result

abbrev pub GivesUpAt : {P : Type 0} → Eyes P → ℕ → Calls → P → Calls → P → Result Unit PostError → Type 0
GivesUpAt eyes place c before after_calls after result =
    (k : RelayCall) × (k' : RelayCall) × (slice_get c.calls place ≡ Some k) × (after_calls ≡ record c { calls = slice_set c.calls place k' })
    × GivesUp eyes k before k' after result

-- the calls at the places below this one, in order
abbrev pub GivesUpTo : {P : Type 0} → Eyes P → ℕ → Calls → P → Calls → P → Type 0
GivesUpTo eyes zero c before after_calls after = (after_calls ≡ c) × (after ≡ before)
GivesUpTo {P} eyes (suc place) c before after_calls after =
    (next : Calls) × (post : P) × GivesUpTo eyes place c before next post × GivesUpAt eyes place next post after_calls after (Ok tt)

-- each call that is open is given up, in order, up to the first post that fails
abbrev pub GivesUpAll : {P : Type 0} → Eyes P → Calls → P → Calls → P → Result Unit PostError → Type 0
GivesUpAll eyes c before after_calls after (Ok done) = GivesUpTo eyes (length c.calls) c before after_calls after
GivesUpAll {P} eyes c before after_calls after (Err error) =
    (place : ℕ) × (place < length c.calls) × (next : Calls) × (post : P) × GivesUpTo eyes place c before next post × GivesUpAt eyes place next post after_calls after (Err error)

-- an error is answered only where the last post failed with it; and without one no post failed
abbrev pub ReportsError : {T : Type 0} → HandleSeen → HandleSeen → Result T PostError → Type 0
ReportsError before after (Ok done) = after.errors ≡ before.errors
ReportsError before after (Err error) = (after.errors ≡ one_more before.errors) × (after.last ≡ Some error)
