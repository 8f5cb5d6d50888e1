-- The rows of a call break none of the laws of attempts, as `attempt_ledger::check_rows` decides them.
use Rattle.std.specs.Prelude.{◌≡◌, ◌≤◌, ◌<◌, ◌⊎◌, ℕ, ◌-◌, ◌==◌, Bool, true, false, min, Option, Some, None, List}
use Rattle.std.specs.List.{filter}
use Rattle.grpc_base.specs.Codes.{has_code}
use Rattle.grpc_base.specs.declared.plan.CallPlan.{CallPlan}
use Rattle.grpc_base.specs.declared.plan.CallPlan.TheVariants as plans
use Rattle.grpc_base.specs.declared.plan.Chosen.{Chosen}
use Rattle.grpc_base.specs.declared.plan.HedgePolicy.{HedgePolicy}
use Rattle.grpc_base.specs.declared.plan.Throttle.{Throttle}
use Rattle.attempt_ledger.specs.Ends.{is_cut, is_stop}
use Rattle.attempt_ledger.specs.Faults.{BreaksAt}
use Rattle.attempt_ledger.specs.Hedging.{is_hedge}
use Rattle.attempt_ledger.specs.Numbering.{is_transparent}
use Rattle.attempt_ledger.specs.Throttling.{is_failure, is_success}
use Rattle.attempt_ledger.specs.declared.row.Row.{Row}
use Rattle.attempt_ledger.specs.declared.row.RowEnd.{RowEnd}
use Rattle.a6_numbers.specs.Throttling.{Bucket}
use Rattle.call_core.specs.Commitments.{IsRowOf}
use Rattle.call_core.specs.Reasons.{IsKeptAt}
use Rattle.call_core.specs.Steps.{Stepped, call_plan}

-- the rows of a call, in the order of their making
abbrev pub rows_of : ℕ → List Row → List Row
rows_of owner rows = filter (λ row. row.call == owner) rows

-- no row of the call breaks the law of this number under this configuration
abbrev pub NeverBreaks : ℕ → Chosen → Stepped → Type 0
NeverBreaks law chosen s = (place : ℕ) → BreaksAt chosen law (rows_of s.call.number s.ledger.rows) place → ⊥

-- a transparent retry follows the row of this place and number
pub record IsFollowedAt (owner : ℕ) (rows : List Row) (place number : ℕ) : Type 0 where
  pub later : ℕ
  pub order : place < later
  pub next : Row
  pub is : IsRowOf owner rows later next
  pub kind : is_transparent next.kind ≡ true
  pub same : next.number ≡ number

-- its end counts
pub record IsCountedAt (owner : ℕ) (rows : List Row) (place number : ℕ) (end : RowEnd) : Type 0 where
  pub cause : is_cut end.cause ≡ false
  pub unfollowed : IsFollowedAt owner rows place number → ⊥

-- what is said of an end in these rows, by its place and number, holds of each end of the call's rows
abbrev pub EndsKeep : (List Row → ℕ → ℕ → RowEnd → Type 0) → ℕ → List Row → List Row → Type 0
EndsKeep Q owner final rows = (place : ℕ) (row : Row) → IsRowOf owner rows place row → (end : RowEnd) → row.ended ≡ Some end → Q final place row.number end

-- the tokens that a call is lent are those of its configuration
pub record IsBucketOf (throttle : Throttle) (b : Bucket) : Type 0 where
  pub start : b.start ≡ throttle.start
  pub ratio : b.ratio ≡ throttle.ratio
  pub most : b.count ≤ b.start

abbrev pub FitsTokens : Option Throttle → Option Bucket → Type 0
FitsTokens throttle None = Unit {0}
FitsTokens None (Some b) = ⊥
FitsTokens (Some throttle) (Some b) = IsBucketOf throttle b

abbrev pub TokensAreOwn : Option Bucket → Option Chosen → Type 0
TokensAreOwn tokens None = Unit {0}
TokensAreOwn tokens (Some chosen) = FitsTokens chosen.throttle tokens

-- the count of tokens after an end is one that a bucket can have (gRFC A6, "Throttling Retry Attempts and Hedged RPCs")
pub record IsCountOf (plan : CallPlan) (throttle : Throttle) (counted : Type 0) (end : RowEnd) (tokens : ℕ) : Type 0 where
  pub most : tokens ≤ throttle.start
  pub failure : counted → is_failure plan end ≡ true → tokens ≤ throttle.start - 1000
  pub success : counted → is_success end.code ≡ true → min throttle.ratio throttle.start ≤ tokens

abbrev pub HasCount : Chosen → ℕ → List Row → ℕ → ℕ → RowEnd → Type 0
HasCount chosen owner rows place number end =
    (throttle : Throttle) → chosen.throttle ≡ Some throttle → (tokens : ℕ) → end.tokens ≡ Some tokens
    → IsCountOf chosen.plan throttle (IsCountedAt owner rows place number end) end tokens

-- each end of a call's rows has such a count; and before the configuration there is no row
pub record RowsAreThrottled (s : Stepped) : Type 0 where
  pub ends : (chosen : Chosen) → s.call.chosen ≡ Some chosen → EndsKeep (HasCount chosen s.call.number) s.call.number s.ledger.rows s.ledger.rows
  pub fresh : s.call.chosen ≡ None → (place : ℕ) (row : Row) → IsRowOf s.call.number s.ledger.rows place row → ⊥

-- what is done to other calls leaves of each row of a call what the laws name, and makes none
pub record WasEnded (owner : ℕ) (rows : List Row) (place : ℕ) (new : Row) : Type 0 where
  pub row : Row
  pub is : IsRowOf owner rows place row
  pub number : new.number ≡ row.number
  pub ended : new.ended ≡ row.ended

pub record KeepsEnds (owner : ℕ) (rows after : List Row) : Type 0 where
  pub there : (place : ℕ) (row : Row) → IsRowOf owner rows place row → IsKeptAt owner after place row
  pub back : (place : ℕ) (row : Row) → IsRowOf owner after place row → WasEnded owner rows place row

-- an end from which on no hedge is due: the server forbids it, or its code is none of the policy's and no transparent retry follows
-- (gRFC A6, "Hedging Policy" and "Pushback")
abbrev pub EndsHedging : HedgePolicy → ℕ → List Row → ℕ → ℕ → RowEnd → Type 0
EndsHedging policy owner rows place number end =
    (is_stop end.pushback ≡ true) ⊎ ((has_code policy.codes end.code ≡ false) × (IsFollowedAt owner rows place number → ⊥))

-- the call's hedges were due by a moment
abbrev pub HedgesBy : ℕ → List Row → ℕ → Type 0
HedgesBy owner rows moment = (place : ℕ) (row : Row) → IsRowOf owner rows place row → is_hedge row.kind ≡ true → row.due ≤ moment

abbrev pub StopsHedging : HedgePolicy → Bool → ℕ → List Row → ℕ → ℕ → RowEnd → Type 0
StopsHedging policy stopped owner rows place number end =
    EndsHedging policy owner rows place number end → (stopped ≡ true) × HedgesBy owner rows end.moment

-- after such an end the call makes no further attempt, and every hedge was due by it
pub record RowsAreHedged (s : Stepped) : Type 0 where
  pub ends : (policy : HedgePolicy) → call_plan s.call ≡ plans.Hedge policy → EndsKeep (StopsHedging policy s.call.attempts.stopped s.call.number) s.call.number s.ledger.rows s.ledger.rows

-- before the configuration there is no row
abbrev pub HasNoRows : Stepped → Type 0
HasNoRows s = s.call.chosen ≡ None → (place : ℕ) (row : Row) → IsRowOf s.call.number s.ledger.rows place row → ⊥

pub record WasHedge (owner : ℕ) (rows : List Row) (place : ℕ) (new : Row) : Type 0 where
  pub row : Row
  pub is : IsRowOf owner rows place row
  pub number : new.number ≡ row.number
  pub kind : new.kind ≡ row.kind
  pub due : new.due ≡ row.due
  pub ended : new.ended ≡ row.ended

pub record KeepsHedges (owner : ℕ) (rows after : List Row) : Type 0 where
  pub there : (place : ℕ) (row : Row) → IsRowOf owner rows place row → IsKeptAt owner after place row
  pub back : (place : ℕ) (row : Row) → IsRowOf owner after place row → WasHedge owner rows place row
