-- Entry and clock: an event is posted and an entry begins; it is answered, the channel settles, and the entry is made. How a session is kept is the
-- channel's own: moments and random words are passed in. They serve "Connection Backoff Protocol" and gRFC A6, "Exponential Backoff".
-- Example: an event posted at 5 after an entry of moment 7 opens an entry of moment 7. A drain with room 65,536 needs room for 64 + 65,536 bytes;
-- where it then gives 45 bytes, its entry counts 109.
use Rattle.std.specs.Option.{option_map_or}
use Rattle.std.specs.Prelude.{Bool, List, None, Option, Some, if◌then◌else◌, is_none, is_some, length, max, nat_le, nat_lt, option_map, sum_by, ℕ, ◌&&◌, ◌+◌}
use Rattle.grpc_base.specs.Backoff.{nth_word}
use Rattle.grpc_base.specs.Posts.{event_bytes}
use Rattle.grpc_base.specs.declared.event.Entry.{Entry}
use Rattle.grpc_base.specs.declared.event.Event.{Event}
use Rattle.grpc_base.specs.declared.event.Reply.{Reply}
use Rattle.session_actions.specs.Words.{last_of}
use Rattle.session_actions.specs.declared.entry.OpenEntry.{OpenEntry}
use Rattle.session_actions.specs.declared.entry.Turn.{Turn}
use Rattle.session_actions.specs.declared.seen.Seen.{Seen}
use Rattle.grpc_base.specs.declared.event.Event.TheVariants as event
use Rattle.grpc_base.specs.declared.event.Reply.TheVariants as reply
use Rattle.session_actions.specs.declared.entry.Stage.TheVariants as stage

-- the number of the entry that is being made, or of the last one
abbrev pub entry : Seen → ℕ
entry s = length s.entries + (if is_some s.current then 1 else 0)

-- the moment of the entry that is being made, or of the last one. Moments never fall
abbrev pub last_moment : Seen → ℕ
last_moment s = option_map_or (λ e. e.moment) (last_of s.entries) 0

abbrev pub now : Seen → ℕ
now s = option_map_or (λ o. o.moment) s.current (last_moment s)

-- the next random word of the entry
abbrev pub next_word : Seen → ℕ
next_word s = option_map_or (λ o. nth_word o.word o.drawn) s.current 0

-- the bytes of a journal: of each entry those of its event, and for a drain those that it gave
abbrev pub given_bytes : Reply → ℕ
given_bytes (reply.Octets octets) = length octets
given_bytes _ = 0

abbrev pub entry_bytes : Event → Reply → ℕ
entry_bytes (event.Drain link room) r = 64 + given_bytes r
entry_bytes e r = event_bytes e

abbrev pub journal_bytes : List Entry → ℕ
journal_bytes entries = sum_by (λ e. entry_bytes e.event e.reply) entries

-- a session has at most 1,048,576 entries, and 268,435,456 bytes
abbrev pub has_room : Event → Seen → Bool
has_room e s = nat_lt (length s.entries) 1048576 && nat_le (journal_bytes s.entries + event_bytes e) 268435456

-- an entry may begin while none is being made. Its moment is that of the event, and no earlier than the entry before
abbrev pub may_open : Event → Seen → Bool
may_open e s = is_none s.current && has_room e s

abbrev pub opened_entry : ℕ → ℕ → Event → Seen → OpenEntry
opened_entry posted word e s = record {
  moment = max (last_moment s) posted;
  word = word;
  event = e;
  stage = stage.Event;
  reply = None;
  drawn = 0;
  turn = None;
}

abbrev pub opened : ℕ → ℕ → Event → Seen → Seen
opened posted word e s = record s { current = Some (opened_entry posted word e s) }

-- the entry that is being made, changed
abbrev pub with_entry : (OpenEntry → OpenEntry) → Seen → Seen
with_entry f s = record s { current = option_map f s.current }

abbrev pub replied : Reply → Seen → Seen
replied r s = with_entry (λ o. record o { stage = stage.Replied; reply = Some r }) s

abbrev pub settling : Seen → Seen
settling s = with_entry (λ o. record o { stage = stage.Settling }) s

-- one random word more was drawn, or not
abbrev pub drawn_if : Bool → Seen → Seen
drawn_if draws s = with_entry (λ o. record o { drawn = o.drawn + (if draws then 1 else 0) }) s

-- the last pick request of the pass over the queue that is going on
abbrev pub with_turn : Option Turn → Seen → Seen
with_turn t s = with_entry (λ o. record o { turn = t }) s
