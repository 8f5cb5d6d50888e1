-- Which ends a transparent retry follows, and which row each transparent retry follows (gRFC A6, "Transparent Retries").
use Rattle.std.specs.Prelude.{◌≡◌, ◌≤◌, ◌<◌, ◌⊎◌, ℕ, Bool, true, Option, Some, None, List}
use Rattle.attempt_ledger.specs.Numbering.{is_transparent}
use Rattle.attempt_ledger.specs.TransparentRows.{comes_before, is_by_peer, is_refused, is_unsent}
use Rattle.attempt_ledger.specs.declared.news.EndNews.{EndNews}
use Rattle.attempt_ledger.specs.declared.row.Row.{Row}
use Rattle.attempt_ledger.specs.declared.row.RowEnd.{RowEnd}
use Rattle.call_core.specs.Commitments.{IsRowOf}
use Rattle.call_core.specs.Parts.{row_end}
use Rattle.call_core.specs.Reasons.{IsKeptAt}
use Rattle.call_core.specs.RowLaws.{EndsKeep, IsFollowedAt}
use Rattle.call_core.specs.Steps.{Stepped}
use Rattle.call_core.specs.declared.live.LiveRow.{LiveRow}

-- the row at a place ended so
pub record IsEndedIn (owner : ℕ) (rows : List Row) (place : ℕ) (end : RowEnd) : Type 0 where
  pub row : Row
  pub is : IsRowOf owner rows place row
  pub ended : row.ended ≡ Some end

pub record HasEndIn (owner : ℕ) (rows : List Row) (place : ℕ) : Type 0 where
  pub row : Row
  pub is : IsRowOf owner rows place row
  pub end : RowEnd
  pub ended : row.ended ≡ Some end

-- the peer ended it, and a transparent retry follows
pub record IsSpentBy (owner : ℕ) (rows : List Row) (place : ℕ) (end : RowEnd) : Type 0 where
  pub has : IsEndedIn owner rows place end
  pub by_peer : is_by_peer end.cause ≡ true
  pub followed : IsFollowedAt owner rows place has.row.number

pub record HasSpent (owner : ℕ) (rows : List Row) : Type 0 where
  pub place : ℕ
  pub end : RowEnd
  pub spent : IsSpentBy owner rows place end

-- such an end came before another one
pub record IsTakenBefore (owner : ℕ) (rows : List Row) (place : ℕ) (end : RowEnd) : Type 0 where
  pub other : ℕ
  pub earlier : RowEnd
  pub spent : IsSpentBy owner rows other earlier
  pub order : comes_before earlier other end place ≡ true

-- a row of the call was committed by an entry
pub record IsCommittedBy (owner : ℕ) (rows : List Row) (entry : ℕ) : Type 0 where
  pub place : ℕ
  pub row : Row
  pub is : IsRowOf owner rows place row
  pub stamp : ℕ
  pub committed : row.committed ≡ Some stamp
  pub order : stamp ≤ entry

-- an attempt that never left the client is followed; one that the peer refused unseen too, unless one was before it, or the call was
-- committed by later
pub record IsFollowedDuly (owner : ℕ) (rows : List Row) (place number : ℕ) (end : RowEnd) : Type 0 where
  pub unsent : is_unsent end.cause ≡ true → IsFollowedAt owner rows place number
  pub refused : is_refused end ≡ true → IsFollowedAt owner rows place number ⊎ (IsTakenBefore owner rows place end ⊎ IsCommittedBy owner rows end.entry)

-- a transparent retry follows the nearest row of its number before it, is due at its end, and takes over its commitment
pub record IsFollowerOf (owner : ℕ) (rows : List Row) (place : ℕ) (row : Row) : Type 0 where
  pub before : ℕ
  pub order : before < place
  pub end : RowEnd
  pub has : IsEndedIn owner rows before end
  pub number : has.row.number ≡ row.number
  pub nearest : (between : ℕ) (other : Row) → IsRowOf owner rows between other → before < between → between < place → other.number ≡ row.number → ⊥
  pub cause : (is_unsent end.cause ≡ true) ⊎ (is_refused end ≡ true)
  pub due : row.due ≡ end.moment
  pub inherits : (has.row.committed ≡ None) ⊎ (row.committed ≡ Some end.entry)

-- no transparent retry follows the row at a place
abbrev pub IsUnfollowed : ℕ → List Row → ℕ → Type 0
IsUnfollowed owner rows place = (row : Row) → IsRowOf owner rows place row → IsFollowedAt owner rows place row.number → ⊥

pub record HaveFollowers (at owner : ℕ) (rows : List Row) (is_spent : Bool) (newest : Option ℕ) : Type 0 where
  pub followers : (place : ℕ) (row : Row) → IsRowOf owner rows place row → is_transparent row.kind ≡ true → IsFollowerOf owner rows place row
  pub followed : EndsKeep (IsFollowedDuly owner) owner rows rows
  -- one refusal is followed in a call, and before the commitment
  pub once : (place other : ℕ) (end afterwards : RowEnd) → IsSpentBy owner rows place end → IsSpentBy owner rows other afterwards → place ≡ other
  pub free : (place : ℕ) (end : RowEnd) → IsSpentBy owner rows place end → (other : ℕ) (row : Row) → IsRowOf owner rows other row → (stamp : ℕ) → row.committed ≡ Some stamp → end.entry ≤ stamp
  -- what the call keeps for it: whether one was followed; that stamps and such ends are of entries so far; and that the last end that
  -- counts isn't followed
  pub spent : (place : ℕ) (end : RowEnd) → IsSpentBy owner rows place end → is_spent ≡ true
  pub spent_by : is_spent ≡ true → HasSpent owner rows
  pub spent_at : (place : ℕ) (end : RowEnd) → IsSpentBy owner rows place end → end.entry ≤ at
  pub stamped_at : (place : ℕ) (row : Row) → IsRowOf owner rows place row → (stamp : ℕ) → row.committed ≡ Some stamp → stamp ≤ at
  pub last : (place : ℕ) → newest ≡ Some place → IsUnfollowed owner rows place

abbrev pub AreFollowing : ℕ → Stepped → Type 0
AreFollowing at s = HaveFollowers at s.call.number s.ledger.rows s.call.attempts.is_refusal_followed s.call.attempts.last

-- the news of one entry come in the order of their bytes, and later of their rows' places: each refusal that was reported comes before this one
abbrev pub IsReported : Stepped → LiveRow → EndNews → Type 0
IsReported s live reported =
    is_by_peer reported.cause ≡ true → (place : ℕ) (earlier : RowEnd) → IsEndedIn s.call.number s.ledger.rows place earlier → is_by_peer earlier.cause ≡ true
    → comes_before earlier place (row_end reported s.ledger.entry 0 None) live.place ≡ true

-- what is done to other calls leaves of each row of a call all that the law names, and makes none
pub record WasFollower (owner : ℕ) (rows : List Row) (place : ℕ) (new : Row) : Type 0 where
  pub row : Row
  pub is : IsRowOf owner rows place row
  pub number : new.number ≡ row.number
  pub kind : new.kind ≡ row.kind
  pub due : new.due ≡ row.due
  pub ended : new.ended ≡ row.ended
  pub committed : new.committed ≡ row.committed

pub record KeepsFollowers (owner : ℕ) (rows after : List Row) : Type 0 where
  pub there : (place : ℕ) (row : Row) → IsRowOf owner rows place row → IsKeptAt owner after place row
  pub back : (place : ℕ) (row : Row) → IsRowOf owner after place row → WasFollower owner rows place row
