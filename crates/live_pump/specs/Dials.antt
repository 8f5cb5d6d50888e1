-- What a turn of dialling posts, and what its answers say.
use Rattle.std.specs.Prelude.{◌≡◌, ◌⊎◌, ℕ, Bool, true, false, Option, Some, None, Result, Ok, Err, List}
use Rattle.grpc_base.specs.Counts.{one_more}
use Rattle.grpc_base.specs.Refusals.{refusal_number}
use Rattle.grpc_base.specs.declared.event.Event.TheVariants as event
use Rattle.grpc_base.specs.declared.event.Reply.{Reply}
use Rattle.grpc_base.specs.declared.event.Reply.TheVariants as reply
use Rattle.grpc_base.specs.declared.post.PostError.{PostError}
use Rattle.gate_io.specs.Links.{TakesLink}
use Rattle.live_pump.specs.declared.dial.Dial.{Dial}
use Rattle.live_pump.specs.declared.dial.DialTurn.{DialTurn}
use Rattle.live_pump.specs.declared.dial.DialTurn.TheVariants as turn
use Rattle.live_pump.specs.Pumps.{HandleSeen, PostsNothing, PostsOne}

-- what a dialer shows: the bytes of the links that it is still to open, where they are known, and how often a dial failed
pub record DialerSeen : Type 0 where
  pub coming : Option (List (List ℕ))
  pub faults : ℕ

-- no dial was made
pub record IsIdle (before after : DialerSeen) : Type 0 where
  pub coming : after.coming ≡ before.coming
  pub faults : after.faults ≡ before.faults

-- a dial opened a link with these bytes left
pub record IsOpened (left : Option (List ℕ)) (before after : DialerSeen) : Type 0 where
  pub coming : TakesLink before.coming after.coming left
  pub faults : after.faults ≡ before.faults

-- a dial failed
pub record IsDialFault (before after : DialerSeen) : Type 0 where
  pub coming : after.coming ≡ before.coming
  pub faults : after.faults ≡ one_more before.faults

-- what a turn of dialling answers; of an open link, its number and the bytes that it has left where they are known
pub data TurnSeen : Type 0 where
  Nothing : TurnSeen
  Opened : ℕ → Option (List ℕ) → TurnSeen
  Refused : ℕ → TurnSeen
  Gone : ℕ → TurnSeen
  Failed : PostError → TurnSeen

abbrev pub turn_of : {I O : Type 0} → (I → Option (List ℕ)) → DialTurn I O → TurnSeen
turn_of left turn.Nothing = Nothing
turn_of left (turn.Opened link input output) = Opened link (left input)
turn_of left (turn.Refused sub) = Refused sub
turn_of left (turn.Gone refusal) = Gone refusal
turn_of left (turn.Failed error) = Failed error

-- an answered post gave a link its number
abbrev pub is_link : Result Reply PostError → Bool
is_link (Ok (reply.Link link)) = true
is_link _ = false

-- the answer where there is no link
abbrev pub idle_answer : Result Reply PostError → TurnSeen
idle_answer (Ok (reply.Refused r)) = Gone (refusal_number r)
idle_answer (Ok _) = Nothing
idle_answer (Err e) = Failed e

-- the answer after LinkUp was posted for a dial that opened
abbrev pub up_answer : Option (List ℕ) → Result Reply PostError → TurnSeen
up_answer left (Ok (reply.Link link)) = Opened link left
up_answer left came = idle_answer came

-- the answer after DialFailed was posted for a dial that failed
abbrev pub down_answer : ℕ → Result Reply PostError → TurnSeen
down_answer sub (Ok (reply.Refused r)) = Gone (refusal_number r)
down_answer sub (Ok _) = Refused sub
down_answer sub (Err e) = Failed e

-- one dial: LinkUp is posted where it opened, and DialFailed where it failed
abbrev pub Dials : ℕ → DialerSeen → DialerSeen → HandleSeen → HandleSeen → TurnSeen → Type 0
Dials sub dialer_before dialer_after before after answer =
    ((left : Option (List ℕ)) × (came : Result Reply PostError) × IsOpened left dialer_before dialer_after
    × PostsOne (event.LinkUp sub) before after came × (answer ≡ up_answer left came))
    ⊎ ((came : Result Reply PostError) × IsDialFault dialer_before dialer_after
    × PostsOne (event.DialFailed sub) before after came × (answer ≡ down_answer sub came))

-- the subchannel that a TakeDial gave to dial
abbrev pub sub_of : Result Reply PostError → Option ℕ
sub_of (Ok (reply.Dial sub address until)) = Some sub
sub_of _ = None

-- the dial that a TakeDial gave: for which subchannel, to which address, and when to give up
abbrev pub given_dial : Result Reply PostError → Option Dial
given_dial (Ok (reply.Dial sub address until)) = Some (record { sub = sub; address = address; until = until })
given_dial _ = None

-- a dial that a TakeDial gave is made; where it gave none, nothing is done
abbrev pub AfterTakeDial : Option ℕ → Result Reply PostError → DialerSeen → DialerSeen → HandleSeen → HandleSeen → TurnSeen → Type 0
AfterTakeDial (Some sub) came dialer_before dialer_after before after answer = Dials sub dialer_before dialer_after before after answer
AfterTakeDial None came dialer_before dialer_after before after answer = IsIdle dialer_before dialer_after × PostsNothing before after × (answer ≡ idle_answer came)

-- where an address waits to be dialled, TakeDial is posted and the dial made; else nothing is done
abbrev pub DialsIf : Bool → DialerSeen → DialerSeen → HandleSeen → HandleSeen → TurnSeen → Type 0
DialsIf false dialer_before dialer_after before after answer = IsIdle dialer_before dialer_after × PostsNothing before after × (answer ≡ Nothing)
DialsIf true dialer_before dialer_after before after answer =
    (taken : HandleSeen) × (came : Result Reply PostError) × PostsOne event.TakeDial before taken came × AfterTakeDial (sub_of came) came dialer_before dialer_after taken after answer
