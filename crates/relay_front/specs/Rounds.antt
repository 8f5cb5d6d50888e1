-- The rounds of a link, and how its job ends.
use Rattle.std.specs.Prelude.{◌≡◌, ◌⊎◌, ℕ, Bool, true, false, Option, Some, None, List, [], ◌∷◌}
use Rattle.live_pump.specs.Pumps.{Gives, HandleSeen, InSeen, IsCutOff, IsOver, IsQuiet, IsWritten, OutSeen}
use Rattle.relay_calls.specs.Posting.{Eyes}
use Rattle.relay_connection.specs.Draining.{Drains}
use Rattle.relay_front.specs.Cores.{Core}
use Rattle.relay_front.specs.Turns.{Closes, ReportsTurn, TurnsTo, is_going}
use Rattle.relay_front.specs.declared.links.LinkEnd.{LinkEnd}
use Rattle.relay_front.specs.declared.links.LinkEnd.TheVariants as end
use Rattle.relay_front.specs.declared.turned.RelayTurn.{RelayTurn}
use Rattle.relay_front.specs.declared.turned.RelayTurn.TheVariants as turn

-- what contracts see of a handle at the channel, of what comes on a link and of what goes
pub record LinkEyes (P I O : Type 0) : Type 0 where
  pub post : Eyes P
  pub input : I → InSeen
  pub output : O → OutSeen

-- where a link's job stands between two rounds
pub record Stand (P I O : Type 0) : Type 0 where
  pub core : Core
  pub post : P
  pub input : I
  pub output : O

-- one read: it is quiet, or it gives these bytes, at most 16,384
abbrev pub Reads : InSeen → InSeen → List ℕ → Type 0
Reads before after piece = (IsQuiet before after × (piece ≡ [])) ⊎ Gives piece before after

-- what was drained is written whole, or a write fails
abbrev pub Writes : {O : Type 0} → (O → OutSeen) → List ℕ → O → O → Option LinkEnd → Type 0
Writes sees octets before after e =
    (IsWritten octets (sees before) (sees after) × (e ≡ None)) ⊎ (IsCutOff octets (sees before) (sees after) × (e ≡ Some end.Lost))

-- a drain with room for 65,536 bytes, all of which is written
pub record DrainsOut {O : Type 0} (sees : O → OutSeen) (c : Core) (out : O) (after_core : Core) (out_after : O) (e : Option LinkEnd) : Type 0 where
  pub octets : List ℕ
  pub drains : Drains 65536 c.relay (record { relay = after_core.relay; octets = octets })
  pub calls : after_core.calls ≡ c.calls
  pub writes : Writes sees octets out out_after e

-- a connection that is broken has nothing to write
pub record IsSilent {O : Type 0} (c : Core) (out : O) (after_core : Core) (out_after : O) (e : Option LinkEnd) : Type 0 where
  pub code : ℕ
  pub broken : c.relay.link.wire.broken ≡ Some code
  pub core : after_core ≡ c
  pub output : out_after ≡ out
  pub going : e ≡ None

abbrev pub GoesOut : {O : Type 0} → (O → OutSeen) → Core → O → Core → O → Option LinkEnd → Type 0
GoesOut sees c out after_core out_after e =
    DrainsOut sees c out after_core out_after e ⊎ IsSilent c out after_core out_after e ⊎ ((out_after ≡ out) × (e ≡ Some end.NoMemory))

-- the end of the rounds that this answer of a turn is
abbrev pub end_of : RelayTurn → LinkEnd
end_of (turn.Broken code) = end.Broken code
end_of t = end.Turned t

-- what follows a turn: a drain where it goes on; else the rounds end
abbrev pub GoesOn : {O : Type 0} → (O → OutSeen) → Bool → Core → RelayTurn → O → Core → O → Option LinkEnd → Type 0
GoesOn sees true turned answer out after_core out_after e = GoesOut sees turned out after_core out_after e
GoesOn sees false turned answer out after_core out_after e = (after_core ≡ turned) × (out_after ≡ out) × (e ≡ Some (end_of answer))

-- a turn with a piece, and what follows
pub record TurnsLink {P O : Type 0} (eyes : Eyes P) (sees : O → OutSeen) (piece : List ℕ) (core : Core) (post : P) (out : O) (after_core : Core) (post_after : P) (out_after : O) (e : Option LinkEnd) : Type 0 where
  pub turned : Core
  pub answer : RelayTurn
  pub turns : TurnsTo eyes core post piece turned post_after answer
  pub goes : GoesOn sees (is_going answer) turned answer out after_core out_after e

-- a round whose read gives no bytes any more: it gave the link's end, or failed
pub record IsLost {P I O : Type 0} (eyes : LinkEyes P I O) (before after : Stand P I O) (e : Option LinkEnd) : Type 0 where
  pub over : IsOver (eyes.input before.input) (eyes.input after.input)
  pub same : after ≡ record before { input = after.input }
  pub ends : e ≡ Some end.Lost

-- a round with all its parts: what one read gave is passed to the connection
pub record IsRound {P I O : Type 0} (eyes : LinkEyes P I O) (before after : Stand P I O) (e : Option LinkEnd) : Type 0 where
  pub piece : List ℕ
  pub reads : Reads (eyes.input before.input) (eyes.input after.input) piece
  pub turns : TurnsLink eyes.post eyes.output piece before.core before.post before.output after.core after.post after.output e

abbrev pub RoundOf : {P I O : Type 0} → LinkEyes P I O → Stand P I O → Stand P I O → Option LinkEnd → Type 0
RoundOf eyes before after e = IsRound eyes before after e ⊎ IsLost eyes before after e

-- without a turn that ended the rounds no post failed; else it is as the turn says
abbrev pub ReportsEnd : HandleSeen → HandleSeen → Option LinkEnd → Type 0
ReportsEnd before after (Some (end.Turned answer)) = ReportsTurn before after answer
ReportsEnd before after e = after.errors ≡ before.errors

-- what the answer of a link's job says of its posts; after Broken one of the Cancels may have failed
abbrev pub ReportsLink : HandleSeen → HandleSeen → RelayTurn → Type 0
ReportsLink before after (turn.Broken code) = Unit {0}
ReportsLink before after t = ReportsTurn before after t

-- rounds, one after another, none of which ends the job
abbrev pub RoundsOn : {P I O : Type 0} → LinkEyes P I O → Stand P I O → List (Stand P I O) → Stand P I O → Type 0
RoundsOn eyes start [] last = last ≡ start
RoundsOn eyes start (next ∷ later) last = RoundOf eyes start next None × RoundsOn eyes next later last

-- rounds, the last of which ends so
pub record RunsOn {P I O : Type 0} (eyes : LinkEyes P I O) (start after : Stand P I O) (e : LinkEnd) : Type 0 where
  pub rounds : List (Stand P I O)
  pub last : Stand P I O
  pub goes_on : RoundsOn eyes start rounds last
  pub ends : RoundOf eyes last after (Some e)

-- what is left to be done: where the link or the protocol ended the rounds, the calls that are open are given up, once
abbrev pub Finishes : {P : Type 0} → Eyes P → LinkEnd → Core → P → Core → P → RelayTurn → Type 0
Finishes eyes end.Lost c before after_core after t = Closes eyes c before after_core after t
Finishes eyes (end.Broken code) c before after_core after t =
    (closed : RelayTurn) × Closes eyes c before after_core after closed × (t ≡ turn.Broken code)
Finishes eyes (end.Turned answer) c before after_core after t = (after_core ≡ c) × (after ≡ before) × (t ≡ answer)
Finishes eyes end.NoMemory c before after_core after t = (after_core ≡ c) × (after ≡ before) × (t ≡ turn.NoMemory)

-- the whole job, but for the close of its output
pub record RunsTo {P I O : Type 0} (eyes : LinkEyes P I O) (start after : Stand P I O) (t : RelayTurn) : Type 0 where
  pub end : LinkEnd
  pub last : Stand P I O
  pub runs : RunsOn eyes start last end
  pub finishes : Finishes eyes.post end last.core last.post after.core after.post t
  pub input : after.input ≡ last.input
  pub output : eyes.output after.output ≡ eyes.output last.output

-- what contracts see of these
abbrev pub link_eyes_of : {P I O : Type 0} → Eyes P → (I → Option (List ℕ)) → (I → ℕ) → (I → ℕ) → (O → Option (List ℕ)) → (O → ℕ) → LinkEyes P I O
link_eyes_of post left in_faults quiet taken out_faults = record {
  post = post;
  input = λ i. record { left = left i; faults = in_faults i; quiet = quiet i };
  output = λ o. record { taken = taken o; faults = out_faults o };
}
