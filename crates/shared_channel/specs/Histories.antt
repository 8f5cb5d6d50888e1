-- What the history of a channel shows: its state, and whether it is nearly full.
use Rattle.std.specs.Prelude.{◌⊎◌, ℕ, ◌+◌, ◌<◌, ◌≤◌, ◌==◌, Bool, true, false, ◌||◌, if◌then◌else◌, List, [], ◌∷◌, length}
use Rattle.grpc_base.specs.Conns.{conn_number}
use Rattle.grpc_base.specs.declared.event.Conn.{Conn}
use Rattle.grpc_base.specs.declared.event.Conn.TheVariants as conn
use Rattle.grpc_base.specs.declared.event.Entry.{Entry}
use Rattle.grpc_base.specs.declared.event.Event.{Event}
use Rattle.grpc_base.specs.declared.event.Event.TheVariants as event
use Rattle.channel_core.specs.Core.{last_state}
use Rattle.channel_core.specs.Sizes.{journal_bytes}

abbrev pub is_shutdown : Event → Bool
is_shutdown event.Shutdown = true
is_shutdown _ = false

-- a Shutdown stands among the entries
abbrev pub has_shutdown : List Entry → Bool
has_shutdown [] = false
has_shutdown (e ∷ es) = is_shutdown e.event || has_shutdown es

-- the channel's state after these entries: SHUTDOWN where a Shutdown stands among them, and else that of the last one
abbrev pub state_in : List Entry → Conn
state_in entries = if has_shutdown entries then conn.Shutdown else last_state entries

abbrev pub mark_in : List Entry → ℕ
mark_in entries = conn_number (state_in entries)

-- the state of a number; SHUTDOWN for one that no other state has
abbrev pub conn_of : ℕ → Conn
conn_of n = if n == 0 then conn.Idle else if n == 1 then conn.Connecting else if n == 2 then conn.Ready else if n == 3 then conn.Failure else conn.Shutdown

-- a history of so many entries and bytes has no room for one more entry, or none for 4,194,368 bytes: those of the largest event
-- of a live run, a Send of the longest message
abbrev pub IsNearlyFullAt : ℕ → ℕ → Type 0
IsNearlyFullAt entries bytes = (1048576 ≤ entries) ⊎ (268435456 < bytes + 4194368)

abbrev pub IsNearlyFull : List Entry → Type 0
IsNearlyFull entries = IsNearlyFullAt (length entries) (journal_bytes entries)
