-- What a worker that keeps links open does over its whole run: rounds, one after another, each of a look, a dial, a
-- turn of each link and a tick. Each of these is what its own call promises.
use Rattle.std.specs.Prelude.{◌≡◌, ◌⊎◌, ℕ, Bool, true, false, Option, Some, None, Result, Ok, Err, List, [], ◌∷◌, ◌++◌, length, All}
use Rattle.grpc_base.specs.Counts.{one_more}
use Rattle.grpc_base.specs.declared.event.Conn.{Conn}
use Rattle.grpc_base.specs.declared.event.Conn.TheVariants as conn
use Rattle.grpc_base.specs.declared.event.Entry.{Entry}
use Rattle.grpc_base.specs.declared.event.Event.TheVariants as event
use Rattle.grpc_base.specs.declared.post.Look.{Look}
use Rattle.grpc_base.specs.declared.post.Look.TheVariants as look
use Rattle.grpc_base.specs.declared.post.PostError.{PostError}
use Rattle.grpc_base.specs.declared.post.PostError.TheVariants as failed
use Rattle.grpc_base.specs.declared.post.View.{View}
use Rattle.grpc_base.specs.declared.tender.Tend.{Tend}
use Rattle.grpc_base.specs.declared.tender.Tend.TheVariants as tend
use Rattle.grpc_base.specs.declared.tender.TendTurn.{TendTurn}
use Rattle.live_pump.specs.Dials.{DialerSeen, DialsIf, turn_of}
use Rattle.live_pump.specs.Pumps.{HandleSeen, InSeen, IsCutOff, IsOver, OutSeen, PumpsIn, PumpsOut}
use Rattle.live_pump.specs.Ticks.{TicksIfDue}
use Rattle.live_pump.specs.Workers.{TendsTo, is_going}
use Rattle.live_pump.specs.declared.dial.DialTurn.{DialTurn}
use Rattle.live_pump.specs.declared.dial.DialTurn.TheVariants as turn
use Rattle.live_pump.specs.declared.link_turn.OpenLink.{OpenLink}
use Rattle.live_pump.specs.declared.pumped.Pumped.{Pumped}
use Rattle.live_pump.specs.declared.pumped.Pumped.TheVariants as pumped

-- what a tender shows: how many turns there were, and the last one
pub record TenderSeen : Type 0 where
  pub turns : ℕ
  pub last : Option TendTurn

-- what a worker's channel, tender and links show of themselves
pub record Eyes (P T I O : Type 0) : Type 0 where
  pub handle : P → HandleSeen
  pub look : P → Option Look
  pub tender : T → TenderSeen
  pub input : I → InSeen
  pub output : O → OutSeen
  pub closed : O → Bool

-- the channel and the tender, between two parts of a round
pub record Site (P T : Type 0) : Type 0 where
  pub post : P
  pub tender : T

-- what the channel has for a link is written, as `pump_out` does it
abbrev pub Writes : {P T I O : Type 0} → Eyes P T I O → ℕ → P → O → P → O → Pumped → Type 0
Writes eyes link before out after out_after answer =
    (can : Bool) × (eyes.look after ≡ Some (look.CanDrain link can))
    × PumpsOut link can (eyes.output out) (eyes.output out_after) (eyes.handle before) (eyes.handle after) answer

-- a link is read once, as `pump_in` does it
abbrev pub Reads : {P T I O : Type 0} → Eyes P T I O → ℕ → P → I → P → I → Pumped → Type 0
Reads eyes link before input after input_after answer =
    PumpsIn link (eyes.input input) (eyes.input input_after) (eyes.handle before) (eyes.handle after) answer

-- the tender is asked once about a link, and a Ping or LinkLost posted exactly where it says so
abbrev pub Asks : {P T I O : Type 0} → Eyes P T I O → ℕ → P → T → P → T → Pumped → Type 0
Asks eyes link before tender after tender_after answer =
    (moment : ℕ) × (said : Tend)
    × (eyes.tender tender_after ≡ record { turns = one_more (eyes.tender tender).turns; last = Some (record { link = link; moment = moment; answer = said }) })
    × TendsTo link said (eyes.handle before) (eyes.handle after) answer

-- a link's turn ends with its writing
pub record EndsAtWrite {P T I O : Type 0} (eyes : Eyes P T I O) (before : Site P T) (link : OpenLink I O) (after : Site P T) (link_after : OpenLink I O) (answer : Pumped) : Type 0 where
  pub over : is_going answer ≡ false
  pub number : link_after.link ≡ link.link
  pub writes : Writes eyes link.link before.post link.output after.post link_after.output answer
  pub input : link_after.input ≡ link.input
  pub tender : after.tender ≡ before.tender

-- a link's turn ends with its reading
pub record EndsAtRead {P T I O : Type 0} (eyes : Eyes P T I O) (before : Site P T) (link : OpenLink I O) (after : Site P T) (link_after : OpenLink I O) (answer : Pumped) : Type 0 where
  pub over : is_going answer ≡ false
  pub number : link_after.link ≡ link.link
  pub wrote : P
  pub writes : Writes eyes link.link before.post link.output wrote link_after.output pumped.Going
  pub reads : Reads eyes link.link wrote link.input after.post link_after.input answer
  pub turns : eyes.tender after.tender ≡ eyes.tender before.tender

-- a link is written and read, and the tender is asked about it
pub record IsWhole {P T I O : Type 0} (eyes : Eyes P T I O) (before : Site P T) (link : OpenLink I O) (after : Site P T) (link_after : OpenLink I O) (answer : Pumped) : Type 0 where
  pub number : link_after.link ≡ link.link
  pub wrote : P
  pub read : P
  pub reported : T
  pub writes : Writes eyes link.link before.post link.output wrote link_after.output pumped.Going
  pub reads : Reads eyes link.link wrote link.input read link_after.input pumped.Going
  pub turns : eyes.tender reported ≡ eyes.tender before.tender
  pub asks : Asks eyes link.link read reported after.post after.tender answer

abbrev pub PumpsLink : {P T I O : Type 0} → Eyes P T I O → Site P T → OpenLink I O → Site P T → OpenLink I O → Pumped → Type 0
PumpsLink eyes before link after link_after answer =
    EndsAtWrite eyes before link after link_after answer ⊎ EndsAtRead eyes before link after link_after answer ⊎ IsWhole eyes before link after link_after answer

-- a link is closed, and nothing else of it changes
pub record Closes {I O : Type 0} (sees : O → OutSeen) (is_closed : O → Bool) (link link_after : OpenLink I O) : Type 0 where
  pub number : link_after.link ≡ link.link
  pub input : link_after.input ≡ link.input
  pub output : sees link_after.output ≡ sees link.output
  pub closed : is_closed link_after.output ≡ true

-- a link goes on, or is closed
abbrev pub ClosesUnless : {I O : Type 0} → (O → OutSeen) → (O → Bool) → Bool → OpenLink I O → OpenLink I O → Type 0
ClosesUnless sees is_closed true link link_after = link_after ≡ link
ClosesUnless sees is_closed false link link_after = Closes sees is_closed link link_after

-- one turn of a link: it is written, read, and the tender asked about it, as far as each goes on; unless it goes on, it is closed
abbrev pub TurnsLink : {P T I O : Type 0} → Eyes P T I O → Site P T → OpenLink I O → Site P T → OpenLink I O → Pumped → Type 0
TurnsLink {P} {T} {I} {O} eyes before link after link_after answer =
    (worked : OpenLink I O) × PumpsLink eyes before link after worked answer × ClosesUnless eyes.output eyes.closed (is_going answer) worked link_after

-- an answer after which a link is given up: it neither goes on nor ends the worker
abbrev pub is_given_up : Pumped → Bool
is_given_up pumped.Going = false
is_given_up (pumped.Failed error) = false
is_given_up _ = true

-- the error that an answer has
abbrev pub error_of : Pumped → Option PostError
error_of (pumped.Failed error) = Some error
error_of _ = None

-- a turn of each of these links, in order, after those that were kept: one that goes on is kept, one that is lost or
-- gone is given up, and an error ends the part
abbrev pub TurnsLinks : {P T I O : Type 0} → Eyes P T I O → List (OpenLink I O) → Site P T → List (OpenLink I O) → Site P T → List (OpenLink I O) → Option PostError → Type 0
TurnsLinks eyes kept before [] after left end = (after ≡ before) × (left ≡ kept) × (end ≡ None)
TurnsLinks {P} {T} {I} {O} eyes kept before (link ∷ links) after left end =
    (next : Site P T) × (turned : OpenLink I O) × (answer : Pumped) × TurnsLink eyes before link next turned answer
    × (((answer ≡ pumped.Going) × TurnsLinks eyes (kept ++ turned ∷ []) next links after left end)
    ⊎ ((is_given_up answer ≡ true) × TurnsLinks eyes kept next links after left end)
    ⊎ ((error : PostError) × (answer ≡ pumped.Failed error) × (after ≡ next) × (left ≡ kept ++ turned ∷ links) × (end ≡ Some error)))

-- what becomes of a turn of dialling: an open link is kept; where memory is wanting it is closed, or kept to be closed
-- at the end; an error ends the part
abbrev pub KeepsDialled : {I O : Type 0} → (O → OutSeen) → (O → Bool) → DialTurn I O → List (OpenLink I O) → List (OpenLink I O) → Option PostError → Type 0
KeepsDialled sees is_closed (turn.Opened link input output) links left None = left ≡ links ++ record { link = link; input = input; output = output } ∷ []
KeepsDialled {I} {O} sees is_closed (turn.Opened link input output) links left (Some error) =
    (error ≡ failed.NoMemory false)
    × ((left ≡ links ++ record { link = link; input = input; output = output } ∷ [])
    ⊎ ((left ≡ links) × (closed : OpenLink I O) × Closes sees is_closed (record { link = link; input = input; output = output }) closed))
KeepsDialled sees is_closed (turn.Failed error) links left end = (left ≡ links) × (end ≡ Some error)
KeepsDialled sees is_closed _ links left end = (left ≡ links) × (end ≡ None)

-- where a worker stands between two rounds: the channel, the tender, the dialer, and the links that it keeps open
pub record Stand (P T N I O : Type 0) : Type 0 where
  pub site : Site P T
  pub dialer : N
  pub links : List (OpenLink I O)

-- the same, once the channel was looked at
abbrev pub looked_at : {P T N I O : Type 0} → P → Stand P T N I O → Stand P T N I O
looked_at post stand = record stand { site = record { post = post; tender = stand.site.tender } }

-- a turn of dialling, as `dial_once` makes it, and the link that it opened kept
pub record DialsLink {P T N I O : Type 0} (eyes : Eyes P T I O) (sees : N → DialerSeen) (before after : Stand P T N I O) (end : Option PostError) : Type 0 where
  pub view : View
  pub came : DialTurn I O
  pub looks : eyes.look after.site.post ≡ Some (look.Glance view)
  pub dials : DialsIf view.dialable (sees before.dialer) (sees after.dialer) (eyes.handle before.site.post) (eyes.handle after.site.post) (turn_of (λ (i : I). (eyes.input i).left) came)
  pub keeps : KeepsDialled eyes.output eyes.closed came before.links after.links end
  pub turns : eyes.tender after.site.tender ≡ eyes.tender before.site.tender

abbrev pub is_shut : Conn → Bool
is_shut conn.Shutdown = true
is_shut _ = false

-- a look at the channel: nothing is posted
pub record Looks {P T I O : Type 0} (eyes : Eyes P T I O) (before after : P) (view : View) : Type 0 where
  pub shows : eyes.look after ≡ Some (look.Glance view)
  pub handle : eyes.handle after ≡ eyes.handle before

-- a round that finds the channel shut down
pub record FindsShut {P T N I O : Type 0} (eyes : Eyes P T I O) (before after : Stand P T N I O) (end : Option Pumped) : Type 0 where
  pub view : View
  pub looks : Looks eyes before.site.post after.site.post view
  pub shut : view.state ≡ conn.Shutdown
  pub tender : after.site.tender ≡ before.site.tender
  pub dialer : after.dialer ≡ before.dialer
  pub links : after.links ≡ before.links
  pub ends : end ≡ Some pumped.Shut

-- a round that ends with its dial
pub record EndsAtDial {P T N I O : Type 0} (eyes : Eyes P T I O) (sees : N → DialerSeen) (before after : Stand P T N I O) (end : Option Pumped) : Type 0 where
  pub view : View
  pub looked : P
  pub error : PostError
  pub looks : Looks eyes before.site.post looked view
  pub open_still : is_shut view.state ≡ false
  pub dials : DialsLink eyes sees (looked_at looked before) after (Some error)
  pub ends : end ≡ Some (pumped.Failed error)

-- a round that ends with the turn of a link
pub record EndsAtLinks {P T N I O : Type 0} (eyes : Eyes P T I O) (sees : N → DialerSeen) (before after : Stand P T N I O) (end : Option Pumped) : Type 0 where
  pub view : View
  pub looked : P
  pub dialled : Stand P T N I O
  pub error : PostError
  pub looks : Looks eyes before.site.post looked view
  pub open_still : is_shut view.state ≡ false
  pub dials : DialsLink eyes sees (looked_at looked before) dialled None
  pub turns : TurnsLinks eyes [] dialled.site dialled.links after.site after.links (Some error)
  pub dialer : after.dialer ≡ dialled.dialer
  pub ends : end ≡ Some (pumped.Failed error)

-- how a round ends after its tick
abbrev pub end_of : Result Bool PostError → Option Pumped
end_of (Ok ticked) = None
end_of (Err error) = Some (pumped.Failed error)

-- a tick, as `tick_if_due` posts it
abbrev pub Ticks : {P T I O : Type 0} → Eyes P T I O → (ℕ → Type 0) → P → P → Option Pumped → Type 0
Ticks eyes may_give before after end =
    (view : View) × (moment : ℕ) × (came : Result Bool PostError) × (eyes.look after ≡ Some (look.Glance view)) × may_give moment
    × TicksIfDue view.next moment (eyes.handle before) (eyes.handle after) came × (end ≡ end_of came)

-- a round with all its parts
pub record IsRound {P T N I O : Type 0} (eyes : Eyes P T I O) (sees : N → DialerSeen) (may_give : ℕ → Type 0) (before after : Stand P T N I O) (end : Option Pumped) : Type 0 where
  pub view : View
  pub looked : P
  pub dialled : Stand P T N I O
  pub turned : Site P T
  pub looks : Looks eyes before.site.post looked view
  pub open_still : is_shut view.state ≡ false
  pub dials : DialsLink eyes sees (looked_at looked before) dialled None
  pub turns : TurnsLinks eyes [] dialled.site dialled.links turned after.links None
  pub ticks : Ticks eyes may_give turned.post after.site.post end
  pub tender : after.site.tender ≡ turned.tender
  pub dialer : after.dialer ≡ dialled.dialer

-- one round: a look, a dial, a turn of each link and a tick, as far as it comes
abbrev pub RoundOf : {P T N I O : Type 0} → Eyes P T I O → (N → DialerSeen) → (ℕ → Type 0) → Stand P T N I O → Stand P T N I O → Option Pumped → Type 0
RoundOf eyes sees may_give before after end =
    FindsShut eyes before after end ⊎ EndsAtDial eyes sees before after end ⊎ EndsAtLinks eyes sees before after end ⊎ IsRound eyes sees may_give before after end

-- rounds, one after another, none of which ends the worker
abbrev pub RoundsOn : {P T N I O : Type 0} → Eyes P T I O → (N → DialerSeen) → (ℕ → Type 0) → Stand P T N I O → List (Stand P T N I O) → Stand P T N I O → Type 0
RoundsOn eyes sees may_give start [] last = last ≡ start
RoundsOn eyes sees may_give start (next ∷ later) last = RoundOf eyes sees may_give start next None × RoundsOn eyes sees may_give next later last

-- rounds, the last of which ends the worker so
pub record RunsOn {P T N I O : Type 0} (eyes : Eyes P T I O) (sees : N → DialerSeen) (may_give : ℕ → Type 0) (start after : Stand P T N I O) (end : Pumped) : Type 0 where
  pub rounds : List (Stand P T N I O)
  pub last : Stand P T N I O
  pub goes_on : RoundsOn eyes sees may_give start rounds last
  pub ends : RoundOf eyes sees may_give last after (Some end)

-- a whole run: its rounds, and then each link that is left is closed
pub record RunsTo {P T N I O : Type 0} (eyes : Eyes P T I O) (sees : N → DialerSeen) (may_give : ℕ → Type 0) (start : Stand P T N I O) (site : Site P T) (dialer : N) (end : Pumped) : Type 0 where
  pub left : List (OpenLink I O)
  pub closed : List (OpenLink I O)
  pub runs : RunsOn eyes sees may_give start (record { site = site; dialer = dialer; links = left }) end
  pub same_many : length closed ≡ length left
  pub all_closed : All (λ (k : OpenLink I O). eyes.closed k.output ≡ true) closed

-- why a link may be given up: a read of it ended or failed, a write failed, or the tender said that it is lost
abbrev pub IsLossOf : {P T I O : Type 0} → Eyes P T I O → ℕ → Type 0
IsLossOf {P} {T} {I} {O} eyes link =
    ((before : I) × (after : I) × IsOver (eyes.input before) (eyes.input after))
    ⊎ ((piece : List ℕ) × (before : O) × (after : O) × IsCutOff piece (eyes.output before) (eyes.output after))
    ⊎ ((before : T) × (after : T) × (moment : ℕ) × (eyes.tender after ≡ record { turns = one_more (eyes.tender before).turns; last = Some (record { link = link; moment = moment; answer = tend.Lost }) }))

-- an entry that says that a link is lost has such a cause
abbrev pub HasCause : {P T I O : Type 0} → Eyes P T I O → Entry → Type 0
HasCause eyes e = (link : ℕ) → e.event ≡ event.LinkLost link → IsLossOf eyes link

-- each entry that was made from here to there has its cause
pub record IsCaused {P T I O : Type 0} (eyes : Eyes P T I O) (before after : HandleSeen) : Type 0 where
  pub more : List Entry
  pub made : after.made ≡ before.made ++ more
  pub causes : All (HasCause eyes) more

-- what contracts see of these
abbrev pub eyes_of : {P T I O : Type 0} → (P → List Entry) → (P → ℕ) → (P → Option PostError) → (P → Option Look) → (T → ℕ) → (T → Option TendTurn)
    → (I → Option (List ℕ)) → (I → ℕ) → (I → ℕ) → (O → Option (List ℕ)) → (O → ℕ) → (O → Bool) → Eyes P T I O
eyes_of made errors last_error last_look turns last_turn left in_faults quiet taken out_faults closed = record {
  handle = λ p. record { made = made p; errors = errors p; last = last_error p };
  look = last_look;
  tender = λ t. record { turns = turns t; last = last_turn t };
  input = λ i. record { left = left i; faults = in_faults i; quiet = quiet i };
  output = λ o. record { taken = taken o; faults = out_faults o };
  closed = closed;
}
