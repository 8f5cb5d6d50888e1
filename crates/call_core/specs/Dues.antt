-- When the next attempt of a call is due, after each thing that decides it, in the order in which these happen (gRFC A6, "Retry
-- Policy", "Hedging Policy", "Pushback" and "Throttling Retry Attempts and Hedged RPCs").
use Rattle.std.specs.Prelude.{ℕ, ◌+◌, Bool, not, ◌&&◌, ◌||◌, nat_le, if◌then◌else◌, Option, Some, None}
use Rattle.std.specs.Option.{option_map_or}
use Rattle.grpc_base.specs.declared.plan.HedgePolicy.{HedgePolicy}
use Rattle.call_core.specs.declared.attempts.Attempts.{Attempts}
use Rattle.call_core.specs.Parts.{is_above, is_tested}
use Rattle.call_core.specs.Steps.{Stepped, call_plan}

-- the tokens forbid the attempt that is due
abbrev pub is_forbidden : Stepped → Bool
is_forbidden s = is_tested (call_plan s.call) s.call.attempts && not (is_above s.tokens)

-- after the row of the newest attempt was placed at this moment: the moment that an end forced since that attempt was made, or else the
-- policy's delay later; none once hedging stopped, and past the most attempts
abbrev pub due_after_placing : HedgePolicy → ℕ → Attempts → Option ℕ
due_after_placing policy moment a =
    if a.stopped || nat_le policy.max a.sent then None else Some (option_map_or (λ forced. forced) a.forced (moment + policy.delay))
