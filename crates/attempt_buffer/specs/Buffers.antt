-- The framed messages of one call, and how far each of its attempts has sent them.
use Rattle.std.specs.Prelude.{ℕ, ◌+◌, ◌-◌, Bool, true, false, not, ◌&&◌, ◌==◌, nat_le, if◌then◌else◌, Option, Some, None, is_some, Result, Ok, Err, List, [], ◌∷◌, ◌++◌, length, drop, map}
use Rattle.std.specs.List.{concat, filter, find}
use Rattle.std.specs.Option.{option_map, option_map_or}
use Rattle.attempt_buffer.specs.declared.buffer.Pushed.{Pushed}
use Rattle.attempt_buffer.specs.declared.buffer.Pushed.TheVariants as pushed
use Rattle.attempt_buffer.specs.declared.buffer.PushFault.{PushFault}
use Rattle.attempt_buffer.specs.declared.buffer.PushFault.TheVariants as fault

-- how many bytes of the held messages a row has taken
pub record Cursor : Type 0 where
  pub row : ℕ
  pub taken : ℕ

-- the row to which the call is committed; where it closed, what it had taken stays
pub record Committed : Type 0 where
  pub row : ℕ
  pub taken : ℕ
  pub is_open : Bool

-- a buffer: the framed messages that are held, the cursors of the open rows but for the committed one, the committed row,
-- and whether every message of the call is held from its first byte on
pub record Buffered : Type 0 where
  pub messages : List (List ℕ)
  pub cursors : List Cursor
  pub committed : Option Committed
  pub is_whole : Bool

-- the bytes of the messages, joined
abbrev pub text_of : Buffered → List ℕ
text_of b = concat b.messages

-- how many bytes of them a row has taken, where it is open
abbrev pub taken_uncommitted : ℕ → List Cursor → Option ℕ
taken_uncommitted row cursors = option_map (λ c. c.taken) (find (λ c. c.row == row) cursors)

abbrev pub taken_from : ℕ → List Cursor → Option Committed → Option ℕ
taken_from row cursors None = taken_uncommitted row cursors
taken_from row cursors (Some c) = if c.is_open && (c.row == row) then Some c.taken else taken_uncommitted row cursors

abbrev pub taken_by : ℕ → Buffered → Option ℕ
taken_by row b = taken_from row b.cursors b.committed

abbrev pub is_open : ℕ → Buffered → Bool
is_open row b = is_some (taken_by row b)

-- what an open row has still to send: the text from its place on
abbrev pub left_of : ℕ → Buffered → List ℕ
left_of row b = option_map_or (λ taken. drop taken (text_of b)) (taken_by row b) []

-- what a call still has to send: once it is committed, what the committed row hasn't taken, else all its messages
abbrev pub held : Buffered → ℕ
held b = option_map_or (λ c. length (text_of b) - c.taken) b.committed (length (text_of b))

-- the messages from the first one on that isn't passed after so many bytes
abbrev pub unpassed : ℕ → List (List ℕ) → List (List ℕ)
unpassed taken [] = []
unpassed taken (m ∷ ms) = if nat_le (length m) taken then unpassed (taken - length m) ms else m ∷ ms

-- the call is committed to a row that has taken so many bytes: the messages that the row has passed are given up, and every
-- other row is closed
abbrev pub committed_at : ℕ → ℕ → Buffered → Buffered
committed_at row taken b =
    let rest = unpassed taken b.messages in
    let passed = length (text_of b) - length (concat rest) in
    record { messages = rest; cursors = []; committed = Some (record { row = row; taken = taken - passed; is_open = true }); is_whole = b.is_whole && (passed == 0) }

-- the call is committed to an open row
abbrev pub committed_to : ℕ → Buffered → Buffered
committed_to row b = option_map_or (λ taken. committed_at row taken b) (taken_by row b) b

-- a row may begin: every message is held from its first byte on, and neither this row nor a committed one is open
abbrev pub can_open : ℕ → Buffered → Bool
can_open row b = b.is_whole && not (option_map_or (λ c. c.is_open) b.committed false) && not (is_open row b)

-- a row begins before the first message
abbrev pub opened : ℕ → Buffered → Buffered
opened row b = record b { cursors = b.cursors ++ record { row = row; taken = 0 } ∷ [] }

-- one message more; one of no bytes is none
abbrev pub appended : List ℕ → Buffered → Buffered
appended framed b = if length framed == 0 then b else record b { messages = b.messages ++ framed ∷ [] }

-- a row has taken so many bytes more
abbrev pub is_committed_row : ℕ → Option Committed → Bool
is_committed_row row None = false
is_committed_row row (Some c) = c.is_open && (c.row == row)

abbrev pub moved_one : ℕ → ℕ → Cursor → Cursor
moved_one row taken c = if c.row == row then record c { taken = taken } else c

abbrev pub moved : ℕ → ℕ → List Cursor → List Cursor
moved row taken cursors = map (moved_one row taken) cursors

abbrev pub taken_to : ℕ → ℕ → Buffered → Buffered
taken_to row taken b = if is_committed_row row b.committed then committed_at row taken b else record b { cursors = moved row taken b.cursors }

abbrev pub after_taking : ℕ → ℕ → Buffered → Buffered
after_taking row len b = option_map_or (λ taken. taken_to row (taken + len) b) (taken_by row b) b

-- a row is closed; a call that is committed to it stays so
abbrev pub shut : Committed → Committed
shut c = record c { is_open = false }

abbrev pub closed : ℕ → Buffered → Buffered
closed row b =
    if is_committed_row row b.committed then record b { committed = option_map shut b.committed }
    else record b { cursors = filter (λ c. not (c.row == row)) b.cursors }

-- whether a message is accepted: a call holds 262,144 bytes for the attempts to come; once it is committed it holds 65,536 before
-- it takes no more. It is kept, kept by a commitment to the row that was sent furthest, or not
abbrev pub push_answer : Buffered → ℕ → Option ℕ → Result Pushed PushFault
push_answer b len outstanding =
    if is_some b.committed then (if nat_le 65536 (held b) then Err (fault.Full (held b)) else Ok pushed.Kept)
    else if nat_le (held b + len) 262144 then Ok pushed.Kept
    else if is_some outstanding then Ok pushed.Overflow
    else Err (fault.Full (held b))

-- the buffer after an accepted message
abbrev pub pushed_to : Buffered → List ℕ → Pushed → Option ℕ → Buffered
pushed_to b framed pushed.Overflow (Some row) = committed_to row (appended framed b)
pushed_to b framed answer outstanding = appended framed b
