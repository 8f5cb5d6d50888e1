-- The rows to which a call is committed: one row, or a chain of transparent retries of which each follows the one before (gRFC A6,
-- "When Retries are Valid" and "Transparent Retries").
use Rattle.std.specs.Prelude.{◌≡◌, ◌≤◌, ◌⊎◌, ℕ, true, false, Some, is_some, List}
use Rattle.grpc_base.specs.declared.event.EndCause.TheVariants as ends
use Rattle.attempt_ledger.specs.Ends.{is_cut}
use Rattle.attempt_ledger.specs.Numbering.{is_transparent}
use Rattle.attempt_ledger.specs.declared.row.Row.{Row}
use Rattle.attempt_ledger.specs.declared.row.RowEnd.{RowEnd}
use Rattle.call_core.specs.Rows.{row_in}
use Rattle.call_core.specs.Steps.{Stepped}

-- a row of the call stands at this place
pub record IsRowOf (owner : ℕ) (rows : List Row) (place : ℕ) (row : Row) : Type 0 where
  pub there : row_in rows place ≡ Some row
  pub call : row.call ≡ owner

-- it has the stamp of a commitment
pub record IsStamped (owner : ℕ) (rows : List Row) (place : ℕ) : Type 0 where
  pub row : Row
  pub is : IsRowOf owner rows place row
  pub stamped : is_some row.committed ≡ true

-- it ended, and the client didn't give it up
pub record HasOwnEnd (owner : ℕ) (rows : List Row) (place : ℕ) : Type 0 where
  pub row : Row
  pub is : IsRowOf owner rows place row
  pub end : RowEnd
  pub ended : row.ended ≡ Some end
  pub cause : is_cut end.cause ≡ false

-- a row is the one to which the call is committed, or an earlier one of the same attempt, and then that one is a transparent retry
pub record IsInChain (s : Stepped) (place : ℕ) (row : Row) : Type 0 where
  pub last : ℕ
  pub is_last : s.call.attempts.committed ≡ Some last
  pub newest : Row
  pub there : row_in s.ledger.rows last ≡ Some newest
  pub number : row.number ≡ newest.number
  pub order : place ≤ last
  pub kind : (place ≡ last) ⊎ (is_transparent newest.kind ≡ true)

-- the call ended because the row to which it is committed did
pub record EndsByRow (s : Stepped) : Type 0 where
  pub place : ℕ
  pub committed : s.call.attempts.committed ≡ Some place
  pub own : HasOwnEnd s.call.number s.ledger.rows place

pub record IsCommittedOnce (s : Stepped) : Type 0 where
  -- the row to which the call is committed has its stamp
  pub stamped : (place : ℕ) → s.call.attempts.committed ≡ Some place → IsStamped s.call.number s.ledger.rows place
  -- the law: a row of the call that has a stamp is in the one chain
  pub chain : (place : ℕ) (row : Row) → IsRowOf s.call.number s.ledger.rows place row → is_some row.committed ≡ true → IsInChain s place row
  -- the law: a call that ended by its row is committed to a row with an end that isn't a cut
  pub ended : s.call.ended ≡ Some ends.Row → EndsByRow s
  -- what the call keeps for it: the last row of which the end counted
  pub last : (place : ℕ) → s.call.attempts.last ≡ Some place → HasOwnEnd s.call.number s.ledger.rows place

-- what is done to other calls, and the stream that a row gets, leave of each row of a call all that the law names
pub record IsSame (old new : Row) : Type 0 where
  pub number : new.number ≡ old.number
  pub kind : new.kind ≡ old.kind
  pub committed : new.committed ≡ old.committed
  pub ended : new.ended ≡ old.ended

pub record IsSameIn (owner : ℕ) (rows : List Row) (place : ℕ) (old : Row) : Type 0 where
  pub row : Row
  pub is : IsRowOf owner rows place row
  pub same : IsSame old row

pub record KeepsCommitments (owner : ℕ) (rows after : List Row) : Type 0 where
  pub there : (place : ℕ) (row : Row) → IsRowOf owner rows place row → IsSameIn owner after place row
  pub back : (place : ℕ) (row : Row) → IsRowOf owner after place row → IsSameIn owner rows place row
