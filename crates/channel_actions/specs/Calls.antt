-- Each call of the channel and that of the session of its number: what `call_actions` and `take_actions` say of one call, with the ledger and the bucket
-- that the book lends it, and its timers.
-- Example: call 1 has a deadline at 9 s and its next attempt due at 2 s. Its slot has both moments; once the call ends it has none.
use Rattle.std.specs.Prelude.{None, Option, Some, [], if◌then◌else◌, length, map, ℕ, ◌≡◌}
use Rattle.attempt_ledger.specs.declared.ledger.Ledger.{Ledger}
use Rattle.call_actions.specs.Order.{IsInOrder, IsInTurn}
use Rattle.call_core.specs.Steps.{Stepped, lent}
use Rattle.channel_actions.specs.Configs.{bucket_place}
use Rattle.channel_core.specs.Books.{slot_at}
use Rattle.channel_core.specs.States.{StateSeen}
use Rattle.channel_core.specs.Tables.{tokens_in}
use Rattle.channel_core.specs.declared.state.slots.CallSlot.{CallSlot}
use Rattle.session_actions.specs.Calls.{is_open_call}
use Rattle.session_actions.specs.Configs.{deadline}
use Rattle.session_actions.specs.DueAttempts.{next_due}
use Rattle.session_actions.specs.Sessions.{link_seen}
use Rattle.session_actions.specs.Words.{numbered}
use Rattle.session_actions.specs.declared.call.Call.{Call}
use Rattle.session_actions.specs.declared.seen.Seen.{Seen}
use Rattle.call_actions.specs.TakeActions.Serves.{Serves}

-- the moments for which an open call waits
abbrev pub due_of : Seen → Call → Option ℕ
due_of s c = if is_open_call c then next_due c s else None

abbrev pub deadline_of : Seen → Call → Option ℕ
deadline_of s c = if is_open_call c then deadline c s else None

-- what a call is lent. (A call looks at how far links were read, and not at when they were gone: the links are those of the session, which are stamped
-- at the end of an entry.)
abbrev pub ledger_lent : StateSeen → Seen → Ledger
ledger_lent x s = record x.book.ledger { links = map link_seen s.links }

abbrev pub lent_to : StateSeen → Seen → CallSlot → Stepped
lent_to x s slot = lent slot.call (ledger_lent x s) (tokens_in x.book.buckets slot.bucket) []

-- what every action of a call is by. What `order` and `turn` say is of the session alone
pub record SeesCall (x : StateSeen) (s : Seen) (c : Call) (slot : CallSlot) : Type 0 where
  pub bucket : bucket_place s c ≡ slot.bucket
  pub serves : Serves s c (lent_to x s slot)
  pub order : IsInOrder s c
  pub turn : IsInTurn s c
  pub due : due_of s c ≡ slot.due
  pub deadline_is : deadline_of s c ≡ slot.deadline

-- of the number of each call
pub record HasSlot (x : StateSeen) (s : Seen) (c : Call) (number : ℕ) : Type 0 where
  pub slot : CallSlot
  pub there : slot_at x.book number ≡ Some slot
  pub sees : SeesCall x s c slot

pub record SeesCalls (x : StateSeen) (s : Seen) : Type 0 where
  pub count : length s.calls ≡ length x.book.calls
  pub each : (number : ℕ) (c : Call) → numbered s.calls number ≡ Some c → HasSlot x s c number
