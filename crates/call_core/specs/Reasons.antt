-- Why each attempt of a call was made, as its rows show it: every row but the first attempt stands after a row that made it due (gRFC
-- A6, "Retry Policy", "Hedging Policy", "Pushback" and "Transparent Retries").
use Rattle.std.specs.Prelude.{◌≡◌, ◌<◌, ◌⊎◌, ℕ, ◌+◌, ◌-◌, true, false, Option, Some, None, is_some, max, List}
use Rattle.grpc_base.specs.Codes.{has_code}
use Rattle.grpc_base.specs.declared.plan.CallPlan.{CallPlan}
use Rattle.grpc_base.specs.declared.plan.CallPlan.TheVariants as plans
use Rattle.grpc_base.specs.declared.plan.HedgePolicy.{HedgePolicy}
use Rattle.grpc_base.specs.declared.plan.RetryPolicy.{RetryPolicy}
use Rattle.attempt_ledger.specs.Ends.{delay_of}
use Rattle.attempt_ledger.specs.Numbering.{is_transparent}
use Rattle.attempt_ledger.specs.TransparentRows.{is_by_peer, is_unsent}
use Rattle.attempt_ledger.specs.declared.row.Placed.{Placed}
use Rattle.attempt_ledger.specs.declared.row.Row.{Row}
use Rattle.attempt_ledger.specs.declared.row.RowEnd.{RowEnd}
use Rattle.attempt_ledger.specs.declared.row.RowKind.{RowKind}
use Rattle.attempt_ledger.specs.declared.row.RowKind.TheVariants as kind
use Rattle.a6_numbers.specs.Throttling.{Bucket}
use Rattle.call_core.specs.declared.attempts.Attempts.{Attempts}
use Rattle.hedge_core.specs.DueMoments.{forced_by}
use Rattle.retry_core.specs.Retries.{is_licensed, retry_due}
use Rattle.call_core.specs.Commitments.{IsRowOf}
use Rattle.call_core.specs.Parts.{count_of, is_above}
use Rattle.call_core.specs.Steps.{Stepped, call_plan}

-- a row of the call that ended
pub record HasEnded (owner : ℕ) (rows : List Row) (place : ℕ) : Type 0 where
  pub row : Row
  pub is : IsRowOf owner rows place row
  pub end : RowEnd
  pub ended : row.ended ≡ Some end

-- the attempt of this number ended, and the server asked for a delay
pub record AskedDelay (owner : ℕ) (rows : List Row) (attempt : ℕ) : Type 0 where
  pub place : ℕ
  pub has : HasEnded owner rows place
  pub number : has.row.number ≡ attempt
  pub delay : is_some (delay_of has.end.pushback) ≡ true

-- a retry is due at this moment, after the attempt of this number: the policy licenses it, by the tokens after that end. It is due
-- after the delay that the server asks for, or after the wait that grows with the attempts since the server last asked for one
pub record IsRetryDue (policy : RetryPolicy) (owner : ℕ) (rows : List Row) (attempt moment : ℕ) : Type 0 where
  pub place : ℕ
  pub has : HasEnded owner rows place
  pub number : has.row.number ≡ attempt
  pub tokens : Option Bucket
  pub counted : has.end.tokens ≡ count_of tokens
  pub licensed : is_licensed policy attempt has.end (is_above tokens) ≡ true
  pub asked : ℕ
  pub by_server : (asked ≡ 0) ⊎ AskedDelay owner rows asked
  pub word : ℕ
  pub drawn : delay_of has.end.pushback ≡ None → has.end.word ≡ Some word
  pub due : moment ≡ retry_due policy (max (attempt - asked) 1) has.end word

-- the attempt of this number, and no transparent retry of it, stands at this place
pub record IsAttemptAt (owner : ℕ) (rows : List Row) (attempt place : ℕ) : Type 0 where
  pub row : Row
  pub is : IsRowOf owner rows place row
  pub number : row.number ≡ attempt
  pub own : is_transparent row.kind ≡ false

-- a hedge is due at this moment: after the policy's delay since the row of the attempt before it was placed, or by the end of a row with
-- one of the policy's codes
pub record IsPlacedThen (owner : ℕ) (rows : List Row) (attempt time : ℕ) : Type 0 where
  pub place : ℕ
  pub has : IsAttemptAt owner rows attempt place
  pub at : Placed
  pub placed : has.row.placed ≡ Some at
  pub moment : at.moment ≡ time

pub record IsForcedThen (policy : HedgePolicy) (owner : ℕ) (rows : List Row) (moment : ℕ) : Type 0 where
  pub place : ℕ
  pub has : HasEnded owner rows place
  pub in_set : has_code policy.codes has.end.code ≡ true
  pub due : moment ≡ forced_by has.end

pub record IsDelayed (policy : HedgePolicy) (owner : ℕ) (rows : List Row) (attempt moment : ℕ) : Type 0 where
  pub since : ℕ
  pub placed : IsPlacedThen owner rows attempt since
  pub due : moment ≡ since + policy.delay

-- the same of a row at a place, by a row before it
pub record IsRetryReason (policy : RetryPolicy) (owner : ℕ) (rows : List Row) (place : ℕ) (row : Row) : Type 0 where
  pub attempt : ℕ
  pub number : row.number ≡ attempt + 1
  pub why : IsRetryDue policy owner rows attempt row.due
  pub order : why.place < place

pub record IsForcedBefore (policy : HedgePolicy) (owner : ℕ) (rows : List Row) (place moment : ℕ) : Type 0 where
  pub why : IsForcedThen policy owner rows moment
  pub order : why.place < place

pub record IsDelayedBefore (policy : HedgePolicy) (owner : ℕ) (rows : List Row) (place number moment : ℕ) : Type 0 where
  pub attempt : ℕ
  pub next : number ≡ attempt + 1
  pub why : IsDelayed policy owner rows attempt moment
  pub order : why.placed.place < place

-- a transparent retry follows an attempt of its number: one that never left the client, or one that the server can't have seen; and is
-- due at its end
pub record IsFollowing (owner : ℕ) (rows : List Row) (place : ℕ) (row : Row) : Type 0 where
  pub before : ℕ
  pub order : before < place
  pub has : HasEnded owner rows before
  pub number : has.row.number ≡ row.number
  pub cause : (is_unsent has.end.cause ≡ true) ⊎ ((is_by_peer has.end.cause ≡ true) × (has.end.unseen ≡ true))
  pub due : row.due ≡ has.end.moment

-- why a row of each kind is there
abbrev pub RetryReason : CallPlan → ℕ → List Row → ℕ → Row → Type 0
RetryReason (plans.Retry policy) owner rows place row = IsRetryReason policy owner rows place row
RetryReason _ owner rows place row = ⊥

abbrev pub HedgeReason : CallPlan → ℕ → List Row → ℕ → Row → Type 0
HedgeReason (plans.Hedge policy) owner rows place row = IsForcedBefore policy owner rows place row.due ⊎ IsDelayedBefore policy owner rows place row.number row.due
HedgeReason _ owner rows place row = ⊥

abbrev pub Reason : CallPlan → ℕ → List Row → ℕ → Row → RowKind → Type 0
Reason plan owner rows place row kind.First = Unit {0}
Reason plan owner rows place row kind.Retry = RetryReason plan owner rows place row
Reason plan owner rows place row kind.Hedge = HedgeReason plan owner rows place row
Reason plan owner rows place row kind.Transparent = IsFollowing owner rows place row

-- what an end forces is due, before the first attempt or by a row
abbrev pub Forced : CallPlan → ℕ → List Row → ℕ → ℕ → Type 0
Forced plans.None owner rows sent due = sent ≡ 0
Forced (plans.Retry policy) owner rows sent due = (sent ≡ 0) ⊎ IsRetryDue policy owner rows sent due
Forced (plans.Hedge policy) owner rows sent due = (sent ≡ 0) ⊎ IsForcedThen policy owner rows due

pub record HaveReasons (plan : CallPlan) (owner : ℕ) (list : List Row) (a : Attempts) : Type 0 where
  -- the law: each row of the call has its reason
  pub rows : (place : ℕ) (row : Row) → IsRowOf owner list place row → Reason plan owner list place row row.kind
  -- what the call keeps for it: why an attempt is forced, which is the newest one and when it was placed, and after which one the
  -- server last asked for a delay
  pub forced : (due : ℕ) → a.forced ≡ Some due → Forced plan owner list a.sent due
  pub newest : (place : ℕ) → a.newest ≡ Some place → IsAttemptAt owner list a.sent place
  pub placed : (moment : ℕ) → a.placed ≡ Some moment → IsPlacedThen owner list a.sent moment
  pub delayed : (a.delayed ≡ 0) ⊎ AskedDelay owner list a.delayed

abbrev pub HasReasons : Stepped → Type 0
HasReasons s = HaveReasons (call_plan s.call) s.call.number s.ledger.rows s.call.attempts

-- what is done to other calls leaves of each row of a call all that the law names
pub record IsKeptRow (old new : Row) : Type 0 where
  pub call : new.call ≡ old.call
  pub number : new.number ≡ old.number
  pub kind : new.kind ≡ old.kind
  pub due : new.due ≡ old.due
  pub placed : (at : Placed) → old.placed ≡ Some at → new.placed ≡ Some at
  pub ended : (end : RowEnd) → old.ended ≡ Some end → new.ended ≡ Some end

pub record IsKeptAt (owner : ℕ) (rows : List Row) (place : ℕ) (old : Row) : Type 0 where
  pub row : Row
  pub is : IsRowOf owner rows place row
  pub kept : IsKeptRow old row

pub record WasKeptAt (owner : ℕ) (rows : List Row) (place : ℕ) (new : Row) : Type 0 where
  pub row : Row
  pub is : IsRowOf owner rows place row
  pub kept : IsKeptRow row new

pub record KeepsReasons (owner : ℕ) (rows after : List Row) : Type 0 where
  pub there : (place : ℕ) (row : Row) → IsRowOf owner rows place row → IsKeptAt owner after place row
  pub back : (place : ℕ) (row : Row) → IsRowOf owner after place row → WasKeptAt owner rows place row
