-- The law of hedging: when the next attempt of a call is due (gRFC A6, "Hedging Policy" and "Pushback").
use Rattle.std.specs.Prelude.{ℕ, ◌+◌, ◌-◌, Bool, not, ◌&&◌, ◌||◌, ◌==◌, nat_le, Option, Some, None, if◌then◌else◌}
use Rattle.std.specs.Option.{is_none, option_map, option_map_or}
use Rattle.grpc_base.specs.Codes.{has_code}
use Rattle.grpc_base.specs.declared.plan.HedgePolicy.{HedgePolicy}
use Rattle.attempt_ledger.specs.declared.next.Next.{Next}
use Rattle.attempt_ledger.specs.declared.next.Next.TheVariants as next
use Rattle.attempt_ledger.specs.declared.row.RowEnd.{RowEnd}
use Rattle.attempt_ledger.specs.Ends.{delay_of, is_stop, millis_after}
use Rattle.hedge_core.specs.declared.hedges.HedgeState.{HedgeState}

-- no further attempt is due: before the first one, once hedging stopped, and past the most attempts
abbrev pub is_over : HedgePolicy → HedgeState → Bool
is_over policy state = state.stopped || (state.sent == 0) || nat_le policy.max state.sent

-- the delay counts on from the placing of the newest attempt
abbrev pub delayed_due : HedgePolicy → HedgeState → Option ℕ
delayed_due policy state = option_map (λ placed. placed + policy.delay) state.last_placed

-- the next due moment: the one that an end forced since the newest attempt was made, or else the one after the delay
abbrev pub next_due : HedgePolicy → HedgeState → Option ℕ
next_due policy state =
    if is_over policy state then None
    else option_map_or (λ forced. Some forced) state.forced (delayed_due policy state)

-- an end with one of the policy's codes forces an attempt: at once, or after the delay that the server asks for
abbrev pub forced_by : RowEnd → ℕ
forced_by end = option_map_or (millis_after end) (delay_of end.pushback) end.moment

-- an end stops hedging: its code is none of the policy's, the server forbids a further attempt, or one would follow at once and
-- not more than half of the tokens are left
abbrev pub stops : HedgePolicy → RowEnd → Bool → Bool
stops policy end above =
    not (has_code policy.codes end.code) || is_stop end.pushback || (is_none (delay_of end.pushback) && not above)

-- the state after the end of an attempt that counts, in a call that wasn't committed to it before
abbrev pub ended_state : HedgePolicy → HedgeState → RowEnd → Bool → HedgeState
ended_state policy state end above = record state {
  forced = (if has_code policy.codes end.code then Some (forced_by end) else state.forced);
  stopped = state.stopped || stops policy end above;
  outstanding = state.outstanding - 1;
}

-- what follows: the next attempt at its due moment, if one is due
abbrev pub next_of : Option ℕ → Next
next_of due = option_map_or (λ at. next.Again at) due next.Final
