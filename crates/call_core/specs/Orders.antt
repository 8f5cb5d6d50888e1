-- The moments of a call's rows: each row was due, was placed and ended in this order, and none of this is yet to come.
use Rattle.std.specs.Prelude.{◌≡◌, ◌≤◌, ℕ, None, IfSome, IsSome, OnSome, List}
use Rattle.grpc_base.specs.declared.code.Code.TheVariants as code
use Rattle.attempt_ledger.specs.Numbering.{IsInOrder}
use Rattle.attempt_ledger.specs.declared.news.EndNews.{EndNews}
use Rattle.attempt_ledger.specs.declared.row.Row.{Row}
use Rattle.attempt_ledger.specs.declared.row.RowCause.TheVariants as cause
use Rattle.call_core.specs.declared.live.LiveRow.{LiveRow}
use Rattle.call_core.specs.Commitments.{IsRowOf}
use Rattle.call_core.specs.Steps.{Stepped}

pub record IsTimed (now : ℕ) (row : Row) : Type 0 where
  pub order : IsInOrder row
  pub due : row.due ≤ now
  pub placed : IfSome row.placed (λ placed. placed.moment ≤ now)

abbrev pub RowsAreTimed : ℕ → Stepped → Type 0
RowsAreTimed now s = (place : ℕ) (row : Row) → IsRowOf s.call.number s.ledger.rows place row → IsTimed now row

-- each row of the call was due by a moment
abbrev pub RowsAreDue : ℕ → Stepped → Type 0
RowsAreDue now s = (place : ℕ) (row : Row) → IsRowOf s.call.number s.ledger.rows place row → row.due ≤ now

-- what is reported of a row that isn't placed: that no link was found for it
abbrev pub IsFair : LiveRow → EndNews → Type 0
IsFair live reported = live.link ≡ None → (reported.code ≡ code.Unavailable) × (reported.cause ≡ cause.Pick)

-- what is done to other calls leaves a row's moments; and a row that gets a stream is placed
pub record IsSameTimes (old new : Row) : Type 0 where
  pub due : new.due ≡ old.due
  pub placed : new.placed ≡ old.placed
  pub ended : new.ended ≡ old.ended
  pub stream : OnSome new.stream (IsSome new.placed)

pub record WasTimed (owner : ℕ) (rows : List Row) (place : ℕ) (new : Row) : Type 0 where
  pub row : Row
  pub is : IsRowOf owner rows place row
  pub same : IsSameTimes row new

abbrev pub KeepsTimes : ℕ → List Row → List Row → Type 0
KeepsTimes owner rows after = (place : ℕ) (row : Row) → IsRowOf owner after place row → WasTimed owner rows place row
