-- Which ends of a call license a retry, what each retry follows, and where a random word is drawn (gRFC A6, "Retry Policy",
-- "Exponential Backoff" and "Pushback").
use Rattle.std.specs.Prelude.{◌≡◌, ◌≤◌, ◌<◌, ◌⊎◌, ℕ, ◌+◌, ◌-◌, Bool, true, false, not, ◌&&◌, nat_lt, Option, Some, None, is_some, List}
use Rattle.std.specs.Option.{is_none}
use Rattle.grpc_base.specs.Codes.{has_code}
use Rattle.grpc_base.specs.declared.plan.CallPlan.{CallPlan}
use Rattle.grpc_base.specs.declared.plan.CallPlan.TheVariants as plans
use Rattle.grpc_base.specs.declared.plan.Chosen.{Chosen}
use Rattle.grpc_base.specs.declared.plan.Throttle.{Throttle}
use Rattle.attempt_ledger.specs.Ends.{delay_of, is_above, is_stop}
use Rattle.attempt_ledger.specs.Retries.{has_retries, is_retry, retry_due}
use Rattle.attempt_ledger.specs.declared.row.Row.{Row}
use Rattle.attempt_ledger.specs.declared.row.RowEnd.{RowEnd}
use Rattle.call_core.specs.Commitments.{IsCommittedOnce, IsRowOf}
use Rattle.call_core.specs.Going.{IsGoing}
use Rattle.call_core.specs.Laws.{IsKept}
use Rattle.call_core.specs.Numbering.{IsNumbered}
use Rattle.call_core.specs.Reasons.{HasReasons}
use Rattle.call_core.specs.RowChains.{RowsAreChained}
use Rattle.call_core.specs.RowFollowers.{IsEndedIn}
use Rattle.call_core.specs.RowLaws.{TokensAreOwn, HasNoRows, IsCountedAt}
use Rattle.call_core.specs.Rows.{IsApart}
use Rattle.call_core.specs.Steps.{Stepped}

-- an end that can be tried again, if it counts: its code is one of the policy's, the server doesn't forbid it, more than half of the
-- tokens are left, and one more attempt is allowed
abbrev pub may_retry : CallPlan → Option Throttle → ℕ → RowEnd → Bool
may_retry (plans.Retry policy) throttle number end =
    has_code policy.codes end.code && (not (is_stop end.pushback) && (is_above throttle end.tokens && nat_lt number policy.max))
may_retry _ throttle number end = false

-- it licenses the next attempt: the call wasn't committed to its row. A random word is drawn unless the server asks for a delay
pub record IsLicense (chosen : Chosen) (owner : ℕ) (rows : List Row) (place : ℕ) (row : Row) (end : RowEnd) : Type 0 where
  pub counted : IsCountedAt owner rows place row.number end
  pub may : may_retry chosen.plan chosen.throttle row.number end ≡ true
  pub free : row.committed ≡ None
  pub word : is_some end.word ≡ is_none (delay_of end.pushback)

pub record IsStampedBy (entry : ℕ) (row : Row) : Type 0 where
  pub stamp : ℕ
  pub committed : row.committed ≡ Some stamp
  pub order : stamp ≤ entry

-- any other end has no word: it doesn't count, or the call was committed to its row by its entry, or the plan is none of retries
pub record IsPlainEnd (chosen : Chosen) (owner : ℕ) (rows : List Row) (place : ℕ) (row : Row) (end : RowEnd) : Type 0 where
  pub word : end.word ≡ None
  pub why : (IsCountedAt owner rows place row.number end → ⊥) ⊎ (IsStampedBy end.entry row ⊎ (has_retries chosen.plan ≡ false))

abbrev pub IsKnownEnd : Chosen → ℕ → List Row → ℕ → Row → RowEnd → Type 0
IsKnownEnd chosen owner rows place row end = IsLicense chosen owner rows place row end ⊎ IsPlainEnd chosen owner rows place row end

-- the server asked for a delay after the attempt of this number
pub record IsAsked (owner : ℕ) (rows : List Row) (number : ℕ) : Type 0 where
  pub place : ℕ
  pub end : RowEnd
  pub has : IsEndedIn owner rows place end
  pub counted : IsCountedAt owner rows place has.row.number end
  pub delay : is_some (delay_of end.pushback) ≡ true
  pub same : has.row.number ≡ number

-- of the attempts below this number the last one after which it did; 0 where there is none
pub record IsLastAsked (owner : ℕ) (rows : List Row) (below since : ℕ) : Type 0 where
  pub most : (number : ℕ) → IsAsked owner rows number → number < below → number ≤ since
  pub there : (since ≡ 0) ⊎ ((since < below) × IsAsked owner rows since)

abbrev pub due_after : CallPlan → ℕ → RowEnd → Option ℕ
due_after (plans.Retry policy) since end = retry_due policy since end
due_after _ since end = None

-- the attempt of this number, due at this moment, is licensed by an end of the attempt before it
pub record IsRetryOf (chosen : Chosen) (owner : ℕ) (rows : List Row) (number due : ℕ) : Type 0 where
  pub place : ℕ
  pub end : RowEnd
  pub has : IsEndedIn owner rows place end
  pub before : has.row.number + 1 ≡ number
  pub license : IsLicense chosen owner rows place has.row end
  pub since : ℕ
  pub last : IsLastAsked owner rows number since
  pub due_is : due_after chosen.plan (has.row.number - since) end ≡ Some due

pub record HaveLicenses (chosen : Chosen) (owner : ℕ) (rows : List Row) : Type 0 where
  pub ends : (place : ℕ) (row : Row) → IsRowOf owner rows place row → (end : RowEnd) → row.ended ≡ Some end → IsKnownEnd chosen owner rows place row end
  pub retries : has_retries chosen.plan ≡ true → (place : ℕ) (row : Row) → IsRowOf owner rows place row → is_retry row.kind ≡ true → IsRetryOf chosen owner rows row.number row.due

-- what an uncommitted call keeps for it: the end that licenses the attempt that is due, and after which one the server last asked for
-- a delay
pub record LicensesWait (chosen : Chosen) (owner : ℕ) (rows : List Row) (sent : ℕ) (forced : Option ℕ) (delayed : ℕ) : Type 0 where
  pub pending : (due : ℕ) → forced ≡ Some due → (sent ≡ 0) ⊎ IsRetryOf chosen owner rows (sent + 1) due
  pub asked : IsLastAsked owner rows (sent + 1) delayed

pub record RowsAreLicensed (s : Stepped) : Type 0 where
  pub ends : (chosen : Chosen) → s.call.chosen ≡ Some chosen → HaveLicenses chosen s.call.number s.ledger.rows
  pub waiting : (chosen : Chosen) → s.call.chosen ≡ Some chosen → has_retries chosen.plan ≡ true → s.call.attempts.committed ≡ None → LicensesWait chosen s.call.number s.ledger.rows s.call.attempts.sent s.call.attempts.forced s.call.attempts.delayed

-- what is known of the call besides
pub record IsSound (s : Stepped) : Type 0 where
  pub kept : IsKept s.call
  pub going : IsGoing s.call
  pub numbered : IsNumbered s
  pub apart : IsApart s
  pub once : IsCommittedOnce s
  pub chained : RowsAreChained s
  pub reasons : HasReasons s
  pub tokens : TokensAreOwn s.tokens s.call.chosen
  pub fresh : HasNoRows s
  pub stamped : (place : ℕ) (row : Row) → IsRowOf s.call.number s.ledger.rows place row → (stamp : ℕ) → row.committed ≡ Some stamp → stamp ≤ s.ledger.entry
