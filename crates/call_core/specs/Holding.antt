-- The tokens that the end of a row holds (gRFC A6, "Throttling Retry Attempts and Hedged RPCs").
use Rattle.std.specs.Prelude.{◌≡◌, ℕ, Option, Some, List}
use Rattle.attempt_ledger.specs.declared.row.Row.{Row}
use Rattle.attempt_ledger.specs.declared.row.RowEnd.{RowEnd}
use Rattle.call_core.specs.Rows.{row_in}

-- the row at a place ended, and its end has this count of tokens
pub record HoldsTokens (rows : List Row) (place : ℕ) (count : Option ℕ) : Type 0 where
  pub row : Row
  pub there : row_in rows place ≡ Some row
  pub end : RowEnd
  pub ended : row.ended ≡ Some end
  pub tokens : end.tokens ≡ count
