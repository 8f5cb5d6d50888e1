-- The numbering of one call's attempts: their kinds, numbers and count, and the order of what happened to each
-- (gRFC A6, "Maximum Number of Retries", "Hedging Policy" and "Transparent Retries").
use Rattle.std.specs.Prelude.{◌≡◌, ◌≤◌, ℕ, ◌+◌, Bool, true, false, not, ◌==◌, if◌then◌else◌, Option, Some, None, IfSome, IfNone, OnSome, IsSome, List}
use Rattle.std.specs.Bool.{OnFalse}
use Rattle.std.specs.List.{filter}
use Rattle.grpc_base.specs.declared.code.Code.TheVariants as code
use Rattle.grpc_base.specs.declared.plan.CallPlan.{CallPlan}
use Rattle.grpc_base.specs.declared.plan.CallPlan.TheVariants as plan
use Rattle.attempt_ledger.specs.declared.row.Row.{Row}
use Rattle.attempt_ledger.specs.declared.row.RowKind.{RowKind}
use Rattle.attempt_ledger.specs.declared.row.RowKind.TheVariants as kind
use Rattle.attempt_ledger.specs.declared.row.RowCause.TheVariants as cause

-- the most attempts of a call: its plan's maximum, or 1 without a plan
abbrev pub most_attempts : CallPlan → ℕ
most_attempts plan.None = 1
most_attempts (plan.Retry policy) = policy.max
most_attempts (plan.Hedge policy) = policy.max

-- the kind of the attempts after the first, where the plan allows any
abbrev pub later_kind : CallPlan → Option RowKind
later_kind plan.None = None
later_kind (plan.Retry policy) = Some kind.Retry
later_kind (plan.Hedge policy) = Some kind.Hedge

-- the kind of the attempt of this number
abbrev pub kind_by_number : CallPlan → ℕ → Option RowKind
kind_by_number plan number = if number == 1 then Some kind.First else later_kind plan

-- a transparent retry is no further attempt: it has the number of the one that it follows
abbrev pub is_transparent : RowKind → Bool
is_transparent kind.Transparent = true
is_transparent _ = false

-- the rows that aren't transparent, in the order of their making
abbrev pub attempts_of : List Row → List Row
attempts_of rows = filter (λ row. not (is_transparent row.kind)) rows

-- what happened to one row: it was due, was placed and ended in this order
pub record IsInOrder (row : Row) : Type 0 where
  pub due : IfSome row.placed (λ placed. row.due ≤ placed.moment)
  pub ended : IfSome row.placed (λ placed. IfSome row.ended (λ end. placed.moment ≤ end.moment))
  -- a row with a stream is placed
  pub stream : OnSome row.stream (IsSome row.placed)
  -- a row that ended without a placing is one whose pick failed
  pub unplaced : IfNone row.placed (IfSome row.ended (λ end. (end.code ≡ code.Unavailable) × (end.cause ≡ cause.Pick)))

-- the attempt after so many others: its number, how many there may be, and its kind
pub record IsNextAttempt (plan : CallPlan) (count : ℕ) (row : Row) : Type 0 where
  pub number : row.number ≡ count + 1
  pub most : row.number ≤ most_attempts plan
  pub kind : Some row.kind ≡ kind_by_number plan row.number

-- the law of numbering, of one row with so many attempts before it
pub record KeepsNumbering (plan : CallPlan) (count : ℕ) (row : Row) : Type 0 where
  pub attempt : OnFalse (is_transparent row.kind) (IsNextAttempt plan count row)
  pub order : IsInOrder row
