-- What becomes of an ask: it is posted, it waits, or its stream has no call.
use Rattle.std.specs.Prelude.{◌≡◌, ◌⊎◌, ℕ, Bool, true, false, MatchOption, min, Option, Some, Result, Ok, Err, List, [], ◌∷◌, ◌++◌, length}
use Rattle.grpc_base.specs.Counts.{one_more}
use Rattle.grpc_base.specs.Refusals.{refusal_number}
use Rattle.grpc_base.specs.declared.event.Entry.{Entry}
use Rattle.grpc_base.specs.declared.event.Event.{Event}
use Rattle.grpc_base.specs.declared.event.Event.TheVariants as event
use Rattle.grpc_base.specs.declared.event.Reply.{Reply}
use Rattle.grpc_base.specs.declared.event.Reply.TheVariants as reply
use Rattle.grpc_base.specs.declared.post.Look.{Look}
use Rattle.grpc_base.specs.declared.post.Look.TheVariants as look
use Rattle.grpc_base.specs.declared.post.PostError.{PostError}
use Rattle.live_pump.specs.Pumps.{HandleSeen, PostsOne}
use Rattle.relay_asks.specs.Asking.{stream_of}
use Rattle.relay_asks.specs.declared.ask.RelayAsk.{RelayAsk}
use Rattle.relay_asks.specs.declared.ask.RelayAsk.TheVariants as ask
use Rattle.relay_calls.specs.Calls.{Calls, begun, closed, dropped, held, number_of, silenced, waits}
use Rattle.relay_calls.specs.declared.fault.CallsFault.{CallsFault}
use Rattle.relay_calls.specs.declared.fault.CallsFault.TheVariants as fault

-- what contracts see of a handle at the channel
pub record Eyes (P : Type 0) : Type 0 where
  pub handle : P → HandleSeen
  pub looks : P → ℕ
  pub look : P → Option Look

abbrev pub eyes_of : {P : Type 0} → (P → List Entry) → (P → ℕ) → (P → Option PostError) → (P → ℕ) → (P → Option Look) → Eyes P
eyes_of made errors last_error looks last_look = record {
  handle = λ p. record { made = made p; errors = errors p; last = last_error p };
  looks = looks;
  look = last_look;
}

-- the channel was looked at: nothing was posted
pub record LooksAt {P : Type 0} (eyes : Eyes P) (shown : Look) (before after : P) : Type 0 where
  pub handle : eyes.handle after ≡ eyes.handle before
  pub looks : eyes.looks after ≡ one_more (eyes.looks before)
  pub look : eyes.look after ≡ Some shown

-- the calls become these, unless memory is wanting; a Begin that is refused says that the channel is shut down
abbrev pub Becomes : Calls → Result Calls CallsFault → Calls → Result Unit CallsFault → Type 0
Becomes c (Ok next) after (Ok done) = after ≡ next
Becomes c (Ok next) after (Err f) = f ≡ fault.NoMemory
Becomes c (Err f) after result = (after ≡ c) × (result ≡ Err f)

-- what the reply to an ask makes of the calls: a message for which there is no room waits, and another refusal than that of a Begin is
-- passed over
abbrev pub replied : Calls → RelayAsk → Reply → Result Calls CallsFault
replied c (ask.Begin stream request) (reply.Call number) = Ok (begun c stream number)
replied c (ask.Begin stream request) (reply.Refused r) = Err (fault.Gone (refusal_number r))
replied c (ask.Send stream message) (reply.Full bytes) = Ok (held c (ask.Send stream message))
replied c (ask.Finish stream) r = Ok (silenced c stream)
replied c (ask.Cancel stream) r = Ok (closed c stream)
replied c a r = Ok c

abbrev pub came_of : Calls → RelayAsk → Result Reply PostError → Result Calls CallsFault
came_of c a (Ok r) = replied c a r
came_of c a (Err error) = Err (fault.Failed error)

-- an ask is posted as this event
abbrev pub PostsAs : {P : Type 0} → Eyes P → Event → Calls → RelayAsk → P → Calls → P → Result Unit CallsFault → Type 0
PostsAs eyes e c a before after_calls after result =
    (came : Result Reply PostError) × PostsOne e (eyes.handle before) (eyes.handle after) came × Becomes c (came_of c a came) after_calls result

-- nothing was posted, since memory was wanting
abbrev pub Wants : {P : Type 0} → Eyes P → P → P → Result Unit CallsFault → Type 0
Wants eyes before after result = (eyes.handle after ≡ eyes.handle before) × (result ≡ Err fault.NoMemory)

-- an ask waits, after those that wait
abbrev pub Waits : {P : Type 0} → Eyes P → Calls → RelayAsk → P → Calls → P → Result Unit CallsFault → Type 0
Waits eyes c a before after_calls after result = (eyes.handle after ≡ eyes.handle before) × Becomes c (Ok (held c a)) after_calls result

-- the length of a message, as a look at the channel takes it
abbrev pub length_of : List ℕ → ℕ
length_of message = min (length message) 4294967295

-- a message is posted only after a look that shows room for it; else it waits
abbrev pub SendsIf : {P : Type 0} → Eyes P → Bool → ℕ → List ℕ → Calls → RelayAsk → P → Calls → P → Result Unit CallsFault → Type 0
SendsIf eyes true call message c a before after_calls after result =
    PostsAs eyes (event.Send call message) c a before after_calls after result ⊎ Wants eyes before after result
SendsIf eyes false call message c a before after_calls after result = Waits eyes c a before after_calls after result

abbrev pub Sends : {P : Type 0} → Eyes P → ℕ → List ℕ → Calls → RelayAsk → P → Calls → P → Result Unit CallsFault → Type 0
Sends {P} eyes call message c a before after_calls after result =
    (room : Bool) × (looked : P) × LooksAt eyes (look.CanSend call (length_of message) room) before looked
    × SendsIf eyes room call message c a looked after_calls after result

-- nothing is done for a stream that has no call
pub record IsPassed {P : Type 0} (eyes : Eyes P) (c : Calls) (before : P) (after_calls : Calls) (after : P) (result : Result Unit CallsFault) : Type 0 where
  pub handle : eyes.handle after ≡ eyes.handle before
  pub same : after_calls ≡ c
  pub answer : result ≡ Ok tt

-- an ask whose stream does not wait, or a Cancel, which drops the asks of its stream that wait
abbrev pub PostsNow : {P : Type 0} → Eyes P → Calls → RelayAsk → P → Calls → P → Result Unit CallsFault → Type 0
PostsNow eyes c (ask.Begin stream request) before after_calls after result =
    PostsAs eyes (event.Begin request) c (ask.Begin stream request) before after_calls after result
PostsNow eyes c (ask.Send stream message) before after_calls after result =
    MatchOption (number_of c.calls stream) (IsPassed eyes c before after_calls after result)
    (λ call. Sends eyes call message c (ask.Send stream message) before after_calls after result)
PostsNow eyes c (ask.Finish stream) before after_calls after result =
    MatchOption (number_of c.calls stream) (IsPassed eyes c before after_calls after result)
    (λ call. PostsAs eyes (event.Finish call) c (ask.Finish stream) before after_calls after result)
PostsNow eyes c (ask.Cancel stream) before after_calls after result =
    MatchOption (number_of c.calls stream) (IsPassed eyes (dropped c stream) before after_calls after result)
    (λ call. PostsAs eyes (event.Cancel call) (dropped c stream) (ask.Cancel stream) before after_calls after result)

-- whether an ask waits since one of its stream does
abbrev pub is_held : Calls → RelayAsk → Bool
is_held c (ask.Cancel stream) = false
is_held c a = waits c (stream_of a)

abbrev pub PostsUnless : {P : Type 0} → Eyes P → Bool → Calls → RelayAsk → P → Calls → P → Result Unit CallsFault → Type 0
PostsUnless eyes true c a before after_calls after result = Waits eyes c a before after_calls after result
PostsUnless eyes false c a before after_calls after result = PostsNow eyes c a before after_calls after result

-- what becomes of one ask
abbrev pub PostsAsk : {P : Type 0} → Eyes P → Calls → RelayAsk → P → Calls → P → Result Unit CallsFault → Type 0
PostsAsk eyes c a before after_calls after result = PostsUnless eyes (is_held c a) c a before after_calls after result

-- one ask after the other, up to the first fault
abbrev pub PostsAll : {P : Type 0} → Eyes P → Calls → P → List RelayAsk → Calls → P → Result Unit CallsFault → Type 0
PostsAll eyes c before [] after_calls after result = (after_calls ≡ c) × (after ≡ before) × (result ≡ Ok tt)
PostsAll {P} eyes c before (a ∷ asks) after_calls after result =
    ((next : Calls) × (post : P) × PostsAsk eyes c a before next post (Ok tt) × PostsAll eyes next post asks after_calls after result)
    ⊎ ((f : CallsFault) × PostsAsk eyes c a before after_calls after (Err f) × (result ≡ Err f))

-- first the asks that wait, then these
abbrev pub PostsTurn : {P : Type 0} → Eyes P → Calls → P → List RelayAsk → Calls → P → Result Unit CallsFault → Type 0
PostsTurn eyes c before asks after_calls after result =
    PostsAll eyes (record c { waiting = [] }) before (c.waiting ++ asks) after_calls after result

-- Failed is answered only with the error of the last post, which failed; Gone only with the number of a channel that was shut down; and
-- without Failed no post failed
abbrev pub ReportsThat : HandleSeen → HandleSeen → Result Unit CallsFault → Type 0
ReportsThat before after (Ok done) = after.errors ≡ before.errors
ReportsThat before after (Err (fault.Failed error)) = (after.errors ≡ one_more before.errors) × (after.last ≡ Some error)
ReportsThat before after (Err (fault.Gone refusal)) = (after.errors ≡ before.errors) × (refusal ≡ 9)
ReportsThat before after (Err fault.NoMemory) = after.errors ≡ before.errors
