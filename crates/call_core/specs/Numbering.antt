-- The attempts that a call made, as its rows in the ledger show them (gRFC A6, "Maximum Number of Retries", "Hedging Policy" and
-- "Transparent Retries").
use Rattle.std.specs.Prelude.{◌≡◌, ◌≤◌, ℕ, zero, suc, Bool, true, not, ◌&&◌, ◌==◌, Option, Some, None, List, [], ◌∷◌, ◌++◌, map}
use Rattle.std.specs.List.{filter}
use Rattle.grpc_base.specs.declared.plan.CallPlan.{CallPlan}
use Rattle.attempt_ledger.specs.declared.row.Row.{Row}
use Rattle.attempt_ledger.specs.declared.row.RowKind.{RowKind}
use Rattle.attempt_ledger.specs.Numbering.{is_transparent, kind_by_number, most_attempts}
use Rattle.call_core.specs.declared.attempts.Attempts.{Attempts}
use Rattle.call_core.specs.Steps.{Stepped, call_plan}

-- a row of the call that is no transparent retry
abbrev pub is_attempt_of : ℕ → Row → Bool
is_attempt_of call row = (row.call == call) && not (is_transparent row.kind)

abbrev pub number_and_kind : Row → ℕ × Option RowKind
number_and_kind row = (row.number, Some row.kind)

-- the numbers and kinds of the call's attempts, in the order of their making
abbrev pub attempts_in : ℕ → List Row → List (ℕ × Option RowKind)
attempts_in call rows = map number_and_kind (filter (is_attempt_of call) rows)

-- so many attempts, numbered from 1: the first one, and further ones of the plan's kind
abbrev pub numbered : CallPlan → ℕ → List (ℕ × Option RowKind)
numbered plan zero = []
numbered plan (suc n) = numbered plan n ++ (suc n, kind_by_number plan (suc n)) ∷ []

-- before the configuration
pub record IsFresh (a : Attempts) : Type 0 where
  pub none : a.sent ≡ 0
  pub stopped : a.stopped ≡ true

-- the law of numbering: the call's attempts are numbered from 1, are of the plan's kinds, and are at most as many as the plan allows
pub record IsNumbered (s : Stepped) : Type 0 where
  pub attempts : attempts_in s.call.number s.ledger.rows ≡ numbered (call_plan s.call) s.call.attempts.sent
  pub most : s.call.attempts.sent ≤ most_attempts (call_plan s.call)
  -- numbers have 32 bits
  pub limit : most_attempts (call_plan s.call) ≤ 4294967295
  pub fresh : s.call.chosen ≡ None → IsFresh s.call.attempts
