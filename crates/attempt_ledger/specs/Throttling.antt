-- What one call's rows show of the law of throttling (gRFC A6, "Throttling Retry Attempts and Hedged RPCs"). All counts are
-- in thousandths of a token.
use Rattle.std.specs.Prelude.{ℕ, ◌-◌, ◌≤◌, Bool, true, false, not, ◌&&◌, ◌||◌, min, IfSome, List}
use Rattle.std.specs.Bool.{OnTrue}
use Rattle.grpc_base.specs.Codes.{CodesSeen, has_code, no_codes}
use Rattle.grpc_base.specs.declared.code.Code.{Code}
use Rattle.grpc_base.specs.declared.code.Code.TheVariants as code
use Rattle.grpc_base.specs.declared.plan.CallPlan.{CallPlan}
use Rattle.grpc_base.specs.declared.plan.CallPlan.TheVariants as plan
use Rattle.grpc_base.specs.declared.plan.Chosen.{Chosen}
use Rattle.grpc_base.specs.declared.plan.Throttle.{Throttle}
use Rattle.attempt_ledger.specs.declared.row.Row.{Row}
use Rattle.attempt_ledger.specs.declared.row.RowEnd.{RowEnd}
use Rattle.attempt_ledger.specs.Ends.{is_counted, is_stop}

-- the codes after which a plan goes on
abbrev pub codes_of : CallPlan → CodesSeen
codes_of plan.None = no_codes
codes_of (plan.Retry policy) = policy.codes
codes_of (plan.Hedge policy) = policy.codes

abbrev pub is_success : Code → Bool
is_success code.Ok = true
is_success _ = false

-- a failure: one of the plan's codes, or the server forbids a further attempt
abbrev pub is_failure : CallPlan → RowEnd → Bool
is_failure plan end = not (is_success end.code) && (has_code (codes_of plan) end.code || is_stop end.pushback)

-- a count that a bucket can have after an end
pub record IsCountAfter (plan : CallPlan) (throttle : Throttle) (row : Row) (after : List Row) (end : RowEnd) (tokens : ℕ) : Type 0 where
  -- a bucket has at most its start
  pub most : tokens ≤ throttle.start
  -- a failure takes a token, if there is a whole one
  pub failure : OnTrue (is_counted row after end && is_failure plan end) (tokens ≤ throttle.start - 1000)
  -- a success adds the ratio, up to the start
  pub success : OnTrue (is_counted row after end && is_success end.code) (min throttle.ratio throttle.start ≤ tokens)

-- the law of throttling, of one row. Where the config has no throttling, or no count stands, nothing is said
abbrev pub KeepsThrottling : Chosen → Row → List Row → Type 0
KeepsThrottling chosen row after =
    IfSome chosen.throttle (λ throttle. IfSome row.ended (λ end. IfSome end.tokens (IsCountAfter chosen.plan throttle row after end)))
