-- The outstanding rows of a call: those that were placed and haven't ended.
use Rattle.std.specs.Prelude.{◌≡◌, ℕ, true, Option, Some, None, is_some}
use Rattle.attempt_ledger.specs.declared.row.Row.{Row}
use Rattle.call_core.specs.Parts.{find_live}
use Rattle.call_core.specs.Rows.{row_in}
use Rattle.call_core.specs.Steps.{Stepped}

pub record IsOutstanding (owner : ℕ) (row : Row) : Type 0 where
  pub call : row.call ≡ owner
  pub placed : is_some row.placed ≡ true
  pub ended : row.ended ≡ None

-- each outstanding row of the call is one of its live rows. So of a call that is committed every row that was placed has ended, but for
-- the one to which it is committed; and of a call that ended every one
abbrev pub RowsAreHeld : Stepped → Type 0
RowsAreHeld s =
    (place : ℕ) (row : Row) → row_in s.ledger.rows place ≡ Some row → IsOutstanding s.call.number row → is_some (find_live place s.call.live) ≡ true

-- every row of the call that was placed has ended, but for the one at this place
abbrev pub RowsAreOverBut : Option ℕ → Stepped → Type 0
RowsAreOverBut kept s =
    (place : ℕ) (row : Row) → row_in s.ledger.rows place ≡ Some row → IsOutstanding s.call.number row → kept ≡ Some place
