-- Throttling: tokens that failures take and successes give back, in thousandths (gRFC A6, "Throttling Retry Attempts and Hedged RPCs").
-- Example: with maxTokens 10 and tokenRatio 0.5 a bucket begins with 10,000. A failure leaves 9,000, and a success after it 9,500. At 5,000 no retry
-- is made: 5,000 is not above half of 10,000.
use Rattle.std.specs.Option.{option_map_or}
use Rattle.std.specs.Prelude.{Bool, None, Option, Some, fold, if◌then◌else◌, min, option_and_then, option_map, ℕ, ◌+◌, ◌-◌, ◌||◌}
use Rattle.attempt_ledger.specs.Ends.{is_above, is_stop}
use Rattle.attempt_ledger.specs.Throttling.{codes_of, is_success}
use Rattle.attempt_ledger.specs.declared.row.RowEnd.{RowEnd}
use Rattle.grpc_base.specs.Codes.{has_code}
use Rattle.grpc_base.specs.declared.code.Code.{Code}
use Rattle.grpc_base.specs.declared.plan.CallPlan.{CallPlan}
use Rattle.grpc_base.specs.declared.plan.Pushback.{Pushback}
use Rattle.grpc_base.specs.declared.plan.Throttle.{Throttle}
use Rattle.session_actions.specs.Attempts.{call_of}
use Rattle.session_actions.specs.Configs.{config_of_call, plan_of}
use Rattle.session_actions.specs.Words.{numbered}
use Rattle.session_actions.specs.declared.attempt.Attempt.{Attempt}
use Rattle.session_actions.specs.declared.call.Call.{Call}
use Rattle.session_actions.specs.declared.config.ThrottleRun.{ThrottleRun}
use Rattle.session_actions.specs.declared.seen.Seen.{Seen}
use Rattle.grpc_base.specs.declared.plan.CallPlan.TheVariants as plan

-- one counted end: OK adds the ratio, up to the start; a code of the plan, or a server that forbids a further attempt, takes one token
abbrev pub tokens_after : Throttle → CallPlan → Code → Pushback → ℕ → ℕ
tokens_after t plan c asks count =
    if is_success c then min t.start (count + t.ratio)
    else if has_code (codes_of plan) c || is_stop asks then count - 1000
    else count

-- the bucket of a call is that of the run of its config: valid configs one after another with equal throttle settings
abbrev pub run_of : Call → Seen → Option ThrottleRun
run_of c s = option_and_then (numbered s.runs) (option_and_then (λ h. h.run) (config_of_call c s))

abbrev pub plan_of_attempt : Attempt → Seen → CallPlan
plan_of_attempt a s = option_map_or (λ c. plan_of c s) (call_of a s) plan.None

abbrev pub tokens_with : ThrottleRun → Seen → ℕ → Attempt → RowEnd → ℕ
tokens_with run s count a e = tokens_after run.throttle (plan_of_attempt a s) e.code e.pushback count

abbrev pub tokens_by : ThrottleRun → Seen → ℕ → Option Attempt → ℕ
tokens_by run s count None = count
tokens_by run s count (Some a) = option_map_or (tokens_with run s count a) a.row.ended count

-- the tokens of a bucket: it begins full, and each counted end of the calls of its run changes it
abbrev pub tokens_in : ThrottleRun → Seen → ℕ
tokens_in run s = fold (λ count place. tokens_by run s count (numbered s.attempts place)) run.throttle.start run.ends

abbrev pub tokens_of : Call → Seen → Option ℕ
tokens_of c s = option_map (λ run. tokens_in run s) (run_of c s)

-- the tokens are above half of the start, or none are counted
abbrev pub allows_attempt : Call → Option ℕ → Seen → Bool
allows_attempt c tokens s = is_above (option_map (λ run. run.throttle) (run_of c s)) tokens

abbrev pub has_tokens : Call → Seen → Bool
has_tokens c s = allows_attempt c (tokens_of c s) s
