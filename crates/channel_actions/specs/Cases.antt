-- The cases of events and of settlings for which the stages are proved one by one.
-- Example: a Send of call 9, which is not there, is refused; a Tick is none of the refused ones.
use Rattle.std.specs.Prelude.{Bool, None, Some, [], false, is_none, is_some, true, ℕ, ◌∷◌, ◌≡◌, ◌||◌, ◌⊎◌}
use Rattle.channel_actions.specs.Quiescent.{IsAt, IsQuiescent}
use Rattle.channel_core.specs.Applying as channel
use Rattle.channel_core.specs.States.{StateSeen}
use Rattle.channel_net.specs.Steps.{dial_refusal}
use Rattle.grpc_base.specs.declared.event.Event.{Event}
use Rattle.grpc_base.specs.declared.event.Event.TheVariants as event
use Rattle.grpc_base.specs.declared.event.Reply.TheVariants as reply
use Rattle.h2_frame.specs.Sent.{ping_frame}
use Rattle.session_actions.specs.Actions.{config_action}
use Rattle.session_actions.specs.CallEnds.{next_deadline}
use Rattle.session_actions.specs.Links.{owed}
use Rattle.session_actions.specs.Making.{next_due_attempt}
use Rattle.session_actions.specs.Policies.{next_of_queue, next_take_over}
use Rattle.session_actions.specs.Subchannels.{next_connected, next_of_clock}
use Rattle.session_actions.specs.Words.{first_of}
use Rattle.session_actions.specs.declared.entry.OpenEntry.{OpenEntry}
use Rattle.session_actions.specs.declared.entry.Stage.TheVariants as stage
use Rattle.session_actions.specs.declared.seen.Seen.{Seen}
use Rattle.subchannel.specs.Boards.{first_number, numbered}
use Rattle.subchannel.specs.Records.{is_dialable}

-- the entry once its event was answered with Done
abbrev pub answered_done : OpenEntry → OpenEntry
answered_done o = record o { stage = stage.Replied; reply = Some reply.Done }

-- no deadline has come
abbrev pub IsInTime : StateSeen → Seen → Type 0
IsInTime x s = next_deadline s ≡ None

-- the channel refuses it before it looks at a call or a subchannel: it is shut down, or there is no such call or link, or the link is gone, or the room
-- is too small
abbrev pub IsRefused : Event → StateSeen → Seen → Type 0
IsRefused e x s = is_some (channel.refusal_of e x) ≡ true

abbrev pub IsTick : Event → StateSeen → Seen → Type 0
IsTick e x s = e ≡ event.Tick

-- the resolver failed, and the channel is open
pub record IsUnresolved (e : Event) (x : StateSeen) (s : Seen) : Type 0 where
  pub event_is : e ≡ event.ResolveFailed
  pub kept : channel.refusal_of e x ≡ None

-- a dial is asked for, and none is to be made
pub record IsNoDial (e : Event) (x : StateSeen) (s : Seen) : Type 0 where
  pub event_is : e ≡ event.TakeDial
  pub kept : channel.refusal_of e x ≡ None
  pub none : first_number is_dialable x.net.board ≡ None

-- a dial comes up or fails of a subchannel that is not there, or is not being dialled
pub record IsRefusedDial (e : Event) (x : StateSeen) (s : Seen) : Type 0 where
  pub sub : ℕ
  pub event_is : (e ≡ event.LinkUp sub) ⊎ (e ≡ event.DialFailed sub)
  pub kept : channel.refusal_of e x ≡ None
  pub refused : is_some (dial_refusal (numbered x.net.board sub)) ≡ true

-- the environment asks for a PING on a link that is not gone
pub record IsPing (e : Event) (x : StateSeen) (s : Seen) : Type 0 where
  pub link : ℕ
  pub word : ℕ
  pub event_is : e ≡ event.Ping link word
  pub kept : channel.refusal_of e x ≡ None

-- of the session alone: nothing follows at once from a PING that was queued
abbrev pub PingsStayQuiescent : Type 0
PingsStayQuiescent =
    (o : OpenEntry) (s : Seen) (link word : ℕ) → IsAt stage.Event o s → o.event ≡ event.Ping link word
    → IsQuiescent (answered_done o) (record (owed (ping_frame word ∷ []) link s) { current = Some (answered_done o) })

-- nothing is due: no line of the settling gives anything, but that the entry closes
pub record IsIdle (x : StateSeen) (s : Seen) : Type 0 where
  pub clock : next_of_clock s ≡ None
  pub take_over : next_take_over s ≡ None
  pub connected : next_connected s ≡ None
  pub configs : first_of (config_action s) s.calls ≡ None
  pub due : next_due_attempt s ≡ None
  pub queue : next_of_queue s ≡ None

-- What is left of the stages: a deadline has come. An event that is not refused does something, other than a Tick, a resolution that failed, a TakeDial
-- without a dial, and LinkUp and DialFailed of a subchannel that is not being dialled; something is due
abbrev pub HasOverdue : StateSeen → Seen → Type 0
HasOverdue x s = is_some (next_deadline s) ≡ true

abbrev pub does_something : Event → StateSeen → Bool
does_something event.Tick x = false
does_something event.ResolveFailed x = false
does_something event.TakeDial x = is_some (first_number is_dialable x.net.board)
does_something (event.LinkUp sub) x = is_none (dial_refusal (numbered x.net.board sub))
does_something (event.DialFailed sub) x = is_none (dial_refusal (numbered x.net.board sub))
does_something _ x = true

pub record DoesSomething (e : Event) (x : StateSeen) (s : Seen) : Type 0 where
  pub kept : channel.refusal_of e x ≡ None
  pub does : does_something e x ≡ true

abbrev pub has_due : Seen → Bool
has_due s =
    is_some (next_of_clock s)
    || (is_some (next_take_over s)
    || (is_some (next_connected s) || (is_some (first_of (config_action s) s.calls) || (is_some (next_due_attempt s) || is_some (next_of_queue s)))))

abbrev pub HasDue : StateSeen → Seen → Type 0
HasDue x s = has_due s ≡ true
