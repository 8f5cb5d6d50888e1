-- What one turn of a connection posts and gives, and what it answers.
use Rattle.std.specs.Prelude.{◌≡◌, ◌<◌, ◌⊎◌, ℕ, zero, suc, Bool, true, false, Option, Some, None, Result, Ok, Err, List, [], length, slice_get}
use Rattle.grpc_base.specs.Counts.{one_more}
use Rattle.grpc_base.specs.declared.event.Reply.{Reply}
use Rattle.grpc_base.specs.declared.post.PostError.{PostError}
use Rattle.relay_calls.specs.Calls.{Calls, settled}
use Rattle.live_pump.specs.Pumps.{HandleSeen}
use Rattle.relay_asks.specs.declared.ask.RelayAsk.{RelayAsk}
use Rattle.relay_calls.specs.Posting.{Eyes, PostsTurn}
use Rattle.relay_calls.specs.Taking.{GivesUpAll, TakesAt}
use Rattle.relay_calls.specs.declared.call.RelayCall.{RelayCall}
use Rattle.relay_calls.specs.declared.fault.CallsFault.{CallsFault}
use Rattle.relay_calls.specs.declared.fault.CallsFault.TheVariants as fault
use Rattle.relay_connection.specs.Arriving.{Arrives}
use Rattle.relay_connection.specs.Relay.{Relay, given, silent}
use Rattle.relay_front.specs.Cores.{Core}
use Rattle.relay_front.specs.declared.turned.RelayTurn.{RelayTurn}
use Rattle.relay_front.specs.declared.turned.RelayTurn.TheVariants as turn

abbrev pub is_going : RelayTurn → Bool
is_going turn.Going = true
is_going t = false

abbrev pub turn_of : CallsFault → RelayTurn
turn_of (fault.Gone refusal) = turn.Gone refusal
turn_of (fault.Failed error) = turn.Failed error
turn_of fault.NoMemory = turn.NoMemory

-- an item of a call's response is given to its stream
abbrev pub given_item : Core → ℕ → Option Reply → Core
given_item c stream (Some item) = record c { relay = given c.relay stream item }
given_item c stream None = c

-- what a Take of a call came to is given to its stream, unless memory is wanting
abbrev pub Given : Core → ℕ → Result (Option Reply) PostError → Core → Result Unit CallsFault → Type 0
Given c stream (Ok item) after (Ok done) = after ≡ given_item c stream item
Given c stream (Ok item) after (Err f) = f ≡ fault.NoMemory
Given c stream (Err error) after result = (after ≡ c) × (result ≡ Err (fault.Failed error))

-- the error of a Take is answered, and where there was none at most that memory was wanting
abbrev pub GivenAs : Result (Option Reply) PostError → Result Unit CallsFault → Type 0
GivenAs (Ok item) (Ok done) = Unit {0}
GivenAs (Ok item) (Err f) = f ≡ fault.NoMemory
GivenAs (Err error) result = result ≡ Err (fault.Failed error)

-- the call at a place: one Take is posted where it is open and something has come, and what came is given to its stream
abbrev pub GivesAt : {P : Type 0} → Eyes P → ℕ → Core → P → Core → P → Result Unit CallsFault → Type 0
GivesAt eyes place c before after_core after result =
    (k : RelayCall) × (next : Calls) × (came : Result (Option Reply) PostError) × (slice_get c.calls.calls place ≡ Some k)
    × TakesAt eyes place c.calls before next after came × Given (record c { calls = next }) k.stream came after_core result

-- the calls at the places below this one, in order
abbrev pub GivesTo : {P : Type 0} → Eyes P → ℕ → Core → P → Core → P → Type 0
GivesTo eyes zero c before after_core after = (after_core ≡ c) × (after ≡ before)
GivesTo {P} eyes (suc place) c before after_core after =
    (next : Core) × (post : P) × GivesTo eyes place c before next post × GivesAt eyes place next post after_core after (Ok tt)

-- each call once, in order, up to the first fault; then those that are over are forgotten
abbrev pub GivesAll : {P : Type 0} → Eyes P → Core → P → Core → P → Result Unit CallsFault → Type 0
GivesAll eyes c before after_core after (Ok done) =
    (next : Core) × GivesTo eyes (length c.calls.calls) c before next after × (after_core ≡ record next { calls = settled next.calls })
GivesAll {P} eyes c before after_core after (Err f) =
    (place : ℕ) × (place < length c.calls.calls) × (next : Core) × (post : P) × GivesTo eyes place c before next post
    × GivesAt eyes place next post after_core after (Err f)

-- the answer of a turn
abbrev pub answer_of : Result Unit CallsFault → RelayTurn
answer_of (Ok done) = turn.Going
answer_of (Err f) = turn_of f

-- once what was asked is posted, what came of the calls is given
abbrev pub GivesAfter : {P : Type 0} → Eyes P → Core → P → Result Unit CallsFault → Core → P → RelayTurn → Type 0
GivesAfter eyes c before (Ok done) after_core after t =
    (came : Result Unit CallsFault) × GivesAll eyes c before after_core after came × (t ≡ answer_of came)
GivesAfter eyes c before (Err f) after_core after t = (after_core ≡ c) × (after ≡ before) × (t ≡ turn_of f)

-- asks are posted after those that wait, and then what came of the calls is given
pub record ServesAsks {P : Type 0} (eyes : Eyes P) (c : Core) (before : P) (asks : List RelayAsk) (after_core : Core) (after : P) (t : RelayTurn) : Type 0 where
  pub calls : Calls
  pub post : P
  pub came : Result Unit CallsFault
  pub posts : PostsTurn eyes c.calls before asks calls post came
  pub gives : GivesAfter eyes (record c { calls = calls }) post came after_core after t

-- a piece is taken, and what it asks is served
pub record TakesPiece {P : Type 0} (eyes : Eyes P) (c : Core) (before : P) (piece : List ℕ) (after_core : Core) (after : P) (t : RelayTurn) : Type 0 where
  pub relay : Relay
  pub asks : List RelayAsk
  pub arrives : Arrives (silent c.relay) piece (record { relay = relay; asks = asks })
  pub serves : ServesAsks eyes (record c { relay = relay }) before asks after_core after t

-- memory was wanting for the piece, and nothing was posted
abbrev pub WantsMemory : {P : Type 0} → P → P → RelayTurn → Type 0
WantsMemory before after t = (after ≡ before) × (t ≡ turn.NoMemory)

-- a connection whose bytes broke the protocol takes no piece, and nothing is posted
abbrev pub TurnsUnless : {P : Type 0} → Eyes P → Option ℕ → Core → P → List ℕ → Core → P → RelayTurn → Type 0
TurnsUnless eyes (Some code) c before piece after_core after t = (after_core ≡ c) × (after ≡ before) × (t ≡ turn.Broken code)
TurnsUnless eyes None c before piece after_core after t =
    TakesPiece eyes c before piece after_core after t ⊎ WantsMemory before after t

-- one turn
abbrev pub TurnsTo : {P : Type 0} → Eyes P → Core → P → List ℕ → Core → P → RelayTurn → Type 0
TurnsTo eyes c before piece after_core after t = TurnsUnless eyes c.relay.link.wire.broken c before piece after_core after t

-- Failed is answered only with the error of the last post, which failed; Gone only with the number of a channel that was shut down; and
-- without Failed no post failed
abbrev pub ReportsTurn : HandleSeen → HandleSeen → RelayTurn → Type 0
ReportsTurn before after (turn.Failed error) = (after.errors ≡ one_more before.errors) × (after.last ≡ Some error)
ReportsTurn before after (turn.Gone refusal) = (after.errors ≡ before.errors) × (refusal ≡ 9)
ReportsTurn before after t = after.errors ≡ before.errors

-- how the calls are given up: each that is open gets one Cancel
abbrev pub closed_with : Result Unit PostError → RelayTurn
closed_with (Ok done) = turn.Going
closed_with (Err error) = turn.Failed error

pub record Closes {P : Type 0} (eyes : Eyes P) (c : Core) (before : P) (after_core : Core) (after : P) (t : RelayTurn) : Type 0 where
  pub came : Result Unit PostError
  pub gives_up : GivesUpAll eyes (record c.calls { waiting = [] }) before after_core.calls after came
  pub relay : after_core.relay ≡ c.relay
  pub answer : t ≡ closed_with came
