-- The rows of one number of a call: an attempt, and the transparent retries of it (gRFC A6, "Transparent Retries").
use Rattle.std.specs.Prelude.{◌≡◌, ◌≤◌, ◌<◌, ℕ, true, List, [], ◌∷◌}
use Rattle.attempt_ledger.specs.Numbering.{is_transparent}
use Rattle.attempt_ledger.specs.declared.row.Row.{Row}
use Rattle.call_core.specs.declared.live.LiveRow.{LiveRow}
use Rattle.call_core.specs.Commitments.{IsRowOf}
use Rattle.call_core.specs.Steps.{Stepped}

-- a live row is the last of its number
abbrev pub IsLast : ℕ → List Row → LiveRow → Type 0
IsLast owner rows live = (place : ℕ) (row : Row) → IsRowOf owner rows place row → row.number ≡ live.number → place ≤ live.place

abbrev pub LiveRowsAreLast : ℕ → List Row → List LiveRow → Type 0
LiveRowsAreLast owner rows [] = Unit {0}
LiveRowsAreLast owner rows (row ∷ live) = IsLast owner rows row × LiveRowsAreLast owner rows live

-- no number is above that of the newest attempt; of two rows of a number the later one is a transparent retry; and each live row is the
-- last of its number
pub record RowsAreChained (s : Stepped) : Type 0 where
  pub last : LiveRowsAreLast s.call.number s.ledger.rows s.call.live
  pub within : (place : ℕ) (row : Row) → IsRowOf s.call.number s.ledger.rows place row → row.number ≤ s.call.attempts.sent
  pub kinds : (place other : ℕ) (row next : Row) → IsRowOf s.call.number s.ledger.rows place row → IsRowOf s.call.number s.ledger.rows other next → place < other → next.number ≡ row.number → is_transparent next.kind ≡ true

-- what is done to other calls makes no row of this one, and leaves the names of its rows
pub record WasChained (owner : ℕ) (rows : List Row) (place : ℕ) (new : Row) : Type 0 where
  pub row : Row
  pub is : IsRowOf owner rows place row
  pub number : new.number ≡ row.number
  pub kind : new.kind ≡ row.kind

abbrev pub KeepsChains : ℕ → List Row → List Row → Type 0
KeepsChains owner rows after = (place : ℕ) (row : Row) → IsRowOf owner after place row → WasChained owner rows place row
