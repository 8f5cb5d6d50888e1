-- The channel as its callers see it, and what one step does.
use Rattle.std.specs.Prelude.{◌≡◌, ℕ, ◌+◌, ◌-◌, Bool, false, List, [], ◌∷◌, ◌++◌, length, max, slice_get}
use Rattle.std.specs.Option.{option_map_or}
use Rattle.std.specs.Global.{Global}
use Rattle.grpc_base.specs.declared.event.Conn.{Conn}
use Rattle.grpc_base.specs.declared.event.Conn.TheVariants as conn
use Rattle.grpc_base.specs.declared.event.Entry.{Entry}
use Rattle.grpc_base.specs.declared.event.Event.{Event}
use Rattle.grpc_base.specs.declared.event.Reply.{Reply}
use Rattle.grpc_base.specs.declared.event.Stamped.{Stamped}
use Rattle.grpc_base.specs.declared.post.View.{View}
use Rattle.grpc_base.specs.Posts.{HasNoRoom}
use Rattle.attempt_ledger.specs.declared.journal.Journal.{Journal}
use Rattle.attempt_ledger.specs.declared.ledger.Ledger.{Ledger}
use Rattle.lb_policy.specs.Table.{PolicySeen}
use Rattle.channel_core.specs.Applying.{Answers, Stepped, conn_of, is_dialable_in, new_state, next_of}
use Rattle.channel_core.specs.Sizes.{counted, journal_bytes}
use Rattle.channel_core.specs.States.{StateSeen}

-- a channel: its journal, all else that it keeps, and whether it ran out of memory in mid-step
pub record CoreSeen : Type 0 where
  pub journal : Journal
  pub state : StateSeen
  pub spent : Bool

-- its ledger
abbrev pub ledger_in : CoreSeen → Ledger
ledger_in core = core.state.book.ledger

-- a journal, and for how many entries there is room after its last one
pub record KeptSeen : Type 0 where
  pub entries : List Entry
  pub room : ℕ

-- the moment of the last step
abbrev pub last_moment : List Entry → ℕ
last_moment entries = option_map_or (λ e. e.moment) (slice_get entries (length entries - 1)) 0

-- the channel's state after the last step
abbrev pub last_state : List Entry → Conn
last_state entries = option_map_or (λ e. e.state) (slice_get entries (length entries - 1)) conn.Idle

-- the moment of a step: no earlier than the step before
abbrev pub moment_of : List Entry → Stamped → ℕ
moment_of before s = max s.moment (last_moment before)

-- a new channel over this allocator, whose requests have this authority, and which balances by these policies
pub record IsNewBy (alloc : Global) (authority : List ℕ) (policies : List PolicySeen) (core : CoreSeen) : Type 0 where
  pub journal : core.journal.entries ≡ []
  pub state : core.state ≡ new_state alloc authority policies
  pub unspent : core.spent ≡ false

abbrev pub IsNew : List ℕ → CoreSeen → Type 0
IsNew authority core = (alloc : Global) × (policies : List PolicySeen) × IsNewBy alloc authority policies core

-- the number of the entry that a step makes
abbrev pub next_entry : List Entry → ℕ
next_entry before = length before + 1

-- what a step adds to the journal: one entry of this event with its word, at the later of its moment and the last step's, with
-- its reply and the channel's state. What it makes of the channel, and its reply, are those of the step
pub record Steps (old new : CoreSeen) (s : Stamped) (reply : Reply) : Type 0 where
  pub journal : new.journal.entries ≡ old.journal.entries ++ record { moment = moment_of old.journal.entries s; word = s.word; event = s.event; reply = reply; state = conn_of new.state } ∷ []
  pub by : Stepped (next_entry old.journal.entries) (moment_of old.journal.entries s) s.word s.event old.state new.state reply
  pub before : old.spent ≡ false
  pub unspent : new.spent ≡ false

-- a channel that is not spent refuses an event since its journal, of so many entries and bytes, has no room for it
abbrev pub IsFull : CoreSeen → Event → ℕ → ℕ → Type 0
IsFull core event entries bytes =
    (core.spent ≡ false) × HasNoRoom entries bytes event
    × (entries ≡ length core.journal.entries) × (bytes ≡ counted (journal_bytes core.journal.entries))

-- a channel was given these events, one after another
abbrev pub Runs : CoreSeen → List Stamped → CoreSeen → Type 0
Runs old [] new = new ≡ old
Runs old (s ∷ events) new = (next : CoreSeen) × (reply : Reply) × Steps old next s reply × Runs next events new

-- what a look at a channel shows: its state after the last step, and what it waits for
abbrev pub view_of : CoreSeen → View
view_of core = record {
  state = last_state core.journal.entries;
  wants_resolution = core.state.resolver;
  next = next_of core.state;
  dialable = is_dialable_in core.state;
  spent = core.spent;
}

-- what a channel would reply to an event that it were given at the moment of the last step
abbrev pub WouldReply : CoreSeen → Event → Reply → Type 0
WouldReply core e reply = (new : StateSeen) × Answers e core.state new reply
