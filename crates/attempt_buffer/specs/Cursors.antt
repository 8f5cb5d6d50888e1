-- The cursors of a buffer, as the code keeps them. No contract of a public call cites this file.
use Rattle.std.specs.Prelude.{◌≡◌, ◌≤◌, ℕ, true, false, ◌&&◌, ◌==◌, if◌then◌else◌, Option, Some, None, IfSome, List, [], ◌∷◌, length, map}
use Rattle.std.specs.List.{concat, find}
use Rattle.std.specs.Option.{option_map}
use Rattle.attempt_buffer.specs.Buffers.{Buffered, Cursor as Seen, Committed as Kept}
use Rattle.attempt_buffer.specs.Spots.{MessagesAreSized, IsSpot}
use Rattle.attempt_buffer.specs.declared.cursors.Committed.{Committed}
use Rattle.attempt_buffer.specs.declared.cursors.Cursor.{Cursor}
use Rattle.attempt_buffer.specs.declared.messages.Spot.{Spot}
use Rattle.attempt_buffer.specs.declared.state.State.{State}

-- a cursor moves to another spot, where it is the row's
abbrev pub at_spot : ℕ → Spot → Cursor → Cursor
at_spot row spot c = if c.row == row then record c { spot = spot } else c

-- where the committed row stands, if it is this one and open; and where an open row stands
abbrev pub committed_spot : ℕ → Option Committed → Option Spot
committed_spot row None = None
committed_spot row (Some c) = if c.is_open && (c.cursor.row == row) then Some c.cursor.spot else None

abbrev pub spot_or : Option Spot → Option Cursor → Option Spot
spot_or None found = option_map (λ c. c.spot) found
spot_or (Some s) found = Some s

abbrev pub spot_from : ℕ → List Cursor → Option Committed → Option Spot
spot_from row cursors committed = spot_or (committed_spot row committed) (find (λ c. c.row == row) cursors)

-- the committed row, closed
abbrev pub shut_code : Committed → Committed
shut_code c = record c { is_open = false }

-- what a contract sees of a cursor, and of the committed row
abbrev pub seen_cursor : Cursor → Seen
seen_cursor c = record { row = c.row; taken = c.spot.taken }

abbrev pub seen_committed : Committed → Kept
seen_committed c = record { row = c.cursor.row; taken = c.cursor.spot.taken; is_open = c.is_open }

abbrev pub seen_state : State → Buffered
seen_state s = record { messages = s.messages; cursors = map seen_cursor s.cursors.items; committed = option_map seen_committed s.committed; is_whole = s.is_whole }

-- a spot of these messages
abbrev pub IsAt : List (List ℕ) → Spot → Type 0
IsAt messages spot = IsSpot messages spot.message spot.offset spot.taken

abbrev pub CursorsAreAt : List (List ℕ) → List Cursor → Type 0
CursorsAreAt messages [] = Unit {0}
CursorsAreAt messages (c ∷ cs) = IsAt messages c.spot × CursorsAreAt messages cs

-- the most bytes that messages come to
abbrev pub most_bytes : Option Committed → ℕ
most_bytes None = 262144
most_bytes (Some c) = 8454153

-- what every buffer keeps
pub record IsSound (messages : List (List ℕ)) (cursors : List Cursor) (committed : Option Committed) : Type 0 where
  pub sized : MessagesAreSized messages
  pub spots : CursorsAreAt messages cursors
  pub first : IfSome committed (λ c. IsAt messages c.cursor.spot × (c.cursor.spot.message ≡ 0))
  pub fits : length (concat messages) ≤ most_bytes committed
  pub alone : IfSome committed (λ c. c.is_open ≡ true → cursors ≡ [])
