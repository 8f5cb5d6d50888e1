-- Looks at a channel between two entries. They make no entry and change nothing: the environment learns by them what is worth posting.
-- Example: an open call has its deadline at 9 s, its next attempt is due at 2 s, and the subchannel of its address waits until 4 s: the next moment
-- is 2 s. A Take of a call without a head yet would be answered NotYet, so nothing can be taken of it; but where its timeout is 0 a Take would be
-- answered with its end, so something can.
use Rattle.std.specs.List.{list_any}
use Rattle.std.specs.Option.{option_map_or}
use Rattle.std.specs.Prelude.{Bool, List, None, Option, Some, false, fold, if◌then◌else◌, is_none, is_some, length, not, ℕ, ◌&&◌, ◌≡◌}
use Rattle.grpc_base.specs.declared.event.Conn.{Conn}
use Rattle.grpc_base.specs.declared.event.Event.{Event}
use Rattle.grpc_base.specs.declared.event.Reply.{Reply}
use Rattle.grpc_base.specs.declared.post.View.{View}
use Rattle.session_actions.specs.Calls.{is_open_call}
use Rattle.session_actions.specs.Configs.{deadline}
use Rattle.session_actions.specs.DueAttempts.{next_due}
use Rattle.session_actions.specs.Entries.{last_moment, opened}
use Rattle.session_actions.specs.Policies.{is_failure}
use Rattle.session_actions.specs.Refusals.{refusal_of}
use Rattle.session_actions.specs.Sessions.{Does}
use Rattle.session_actions.specs.Subchannels.{is_connecting, is_dialable}
use Rattle.session_actions.specs.Words.{last_of, numbered, sooner}
use Rattle.session_actions.specs.Writing.{sendable}
use Rattle.session_actions.specs.declared.action.Action.{Action}
use Rattle.session_actions.specs.declared.call.Call.{Call}
use Rattle.session_actions.specs.declared.entry.OpenEntry.{OpenEntry}
use Rattle.session_actions.specs.declared.seen.Seen.{Seen}
use Rattle.session_actions.specs.declared.subchannel.Subchannel.{Subchannel}
use Rattle.grpc_base.specs.declared.event.Conn.TheVariants as conn
use Rattle.grpc_base.specs.declared.event.Event.TheVariants as event
use Rattle.grpc_base.specs.declared.event.Reply.TheVariants as reply

-- the channel's state is that of the last entry; a new channel is IDLE
abbrev pub last_state : Seen → Conn
last_state s = option_map_or (λ e. e.state) (last_of s.entries) conn.Idle

-- when something is due of itself: the next attempt of an open call and its deadline (gRFC A6); the end of a subchannel's backoff, and the moment by
-- which a connection has to stand ("Connection Backoff Protocol")
abbrev pub call_moment : Seen → Call → Option ℕ
call_moment s c = if is_open_call c then sooner (next_due c s) (deadline c s) else None

abbrev pub sub_moment : Subchannel → Option ℕ
sub_moment b = if is_connecting b.state then b.until else if is_failure b.state then b.again else None

abbrev pub next_moment : Seen → Option ℕ
next_moment s =
    sooner (fold (λ m c. sooner m (call_moment s c)) None s.calls) (fold (λ m b. sooner m (sub_moment b)) None s.subs)

-- a TakeDial would give a dial
abbrev pub can_dial : Seen → Bool
can_dial s = not s.shut && list_any is_dialable s.subs

-- one look at the whole channel; whether it ran out of memory half way is no part of what has happened
abbrev pub view : Bool → Seen → View
view spent s = record {
  state = last_state s;
  wants_resolution = s.wants;
  next = next_moment s;
  dialable = can_dial s;
  spent = spent;
}

-- a Drain of this link with room for the largest frame would not be refused, and there is something to send
abbrev pub can_drain : ℕ → Seen → Bool
can_drain link s =
    is_none (refusal_of (event.Drain link 16393) s) && option_map_or (λ l. is_some (sendable l s)) (numbered s.links link) false

-- an event at the moment of the last entry would be answered so: its actions lead from the opened entry to this reply
pub record WouldAnswer (e : Event) (r : Reply) (s : Seen) : Type 0 where
  pub word : ℕ
  pub actions : List Action
  pub end : Seen
  pub entry : OpenEntry
  pub does : Does actions (opened (last_moment s) word e s) end
  pub current : end.current ≡ Some entry
  pub answer : entry.reply ≡ Some r

-- nothing can be taken of a call where a Take would be answered NotYet, and a message of so many bytes cannot be sent where a Send of one would be
-- answered Full
abbrev pub IsNothingToTake : ℕ → Seen → Type 0
IsNothingToTake call s = WouldAnswer (event.Take call) reply.NotYet s

abbrev pub IsFull : ℕ → ℕ → Seen → Type 0
IsFull call len s =
    (message : List ℕ) × (held : ℕ) × (length message ≡ len) × WouldAnswer (event.Send call message) (reply.Full held) s
