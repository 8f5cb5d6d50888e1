-- The law of hedging (gRFC A6, "Hedging Policy" and "Pushback").
use Rattle.std.specs.Prelude.{◌≡◌, ℕ, ◌+◌, Bool, true, false, not, ◌&&◌, ◌||◌, ◌==◌, nat_lt, Option, List}
use Rattle.std.specs.Bool.{OnTrue}
use Rattle.std.specs.List.{list_any}
use Rattle.std.specs.Option.{option_map_or}
use Rattle.grpc_base.specs.Codes.{has_code}
use Rattle.grpc_base.specs.declared.plan.CallPlan.{CallPlan}
use Rattle.grpc_base.specs.declared.plan.CallPlan.TheVariants as plan
use Rattle.grpc_base.specs.declared.plan.HedgePolicy.{HedgePolicy}
use Rattle.attempt_ledger.specs.declared.row.Placed.{Placed}
use Rattle.attempt_ledger.specs.declared.row.Row.{Row}
use Rattle.attempt_ledger.specs.declared.row.RowEnd.{RowEnd}
use Rattle.attempt_ledger.specs.declared.row.RowKind.{RowKind}
use Rattle.attempt_ledger.specs.declared.row.RowKind.TheVariants as kind
use Rattle.attempt_ledger.specs.Ends.{some_row, ended_by, is_followed, is_stop, delay_of, millis_after}

abbrev pub is_hedge : RowKind → Bool
is_hedge kind.Hedge = true
is_hedge _ = false

-- what makes a hedge due: the delay after a row was placed, the end of a row, or the delay that a server asks for after it
abbrev pub placing_makes_due : HedgePolicy → ℕ → Option Placed → Bool
placing_makes_due policy due placed = option_map_or (λ p. due == p.moment + policy.delay) placed false

abbrev pub end_makes_due : ℕ → Row → Bool
end_makes_due due row =
    ended_by (λ end. (due == end.moment) || option_map_or (λ millis. due == millis_after end millis) (delay_of end.pushback) false) row

abbrev pub makes_due : HedgePolicy → ℕ → Row → Bool
makes_due policy due row = placing_makes_due policy due row.placed || end_makes_due due row

-- an end before a moment, from which on no hedge is due: the server forbids it, or the code isn't one of the policy's
abbrev pub ends_hedging : HedgePolicy → ℕ → Row → List Row → RowEnd → Bool
ends_hedging policy moment row after end =
    nat_lt end.moment moment
    && (is_stop end.pushback || (not (has_code policy.codes end.code) && not (is_followed row after)))

abbrev pub hedging_ended : HedgePolicy → ℕ → Row → List Row → Bool
hedging_ended policy moment row after = ended_by (ends_hedging policy moment row after) row

abbrev pub is_hedging_over : HedgePolicy → ℕ → List Row → Bool
is_hedging_over policy moment rows = some_row (λ place row after. hedging_ended policy moment row after) rows

-- a row before it makes a hedge due, and nothing ended the hedging of the call before that
pub record IsDueHedge (policy : HedgePolicy) (rows before : List Row) (hedge : Row) : Type 0 where
  pub due : list_any (makes_due policy hedge.due) before ≡ true
  pub goes_on : is_hedging_over policy hedge.due rows ≡ false

-- the law of hedging, of one row after others among all rows of its call
abbrev pub KeepsHedging : CallPlan → List Row → List Row → Row → Type 0
KeepsHedging (plan.Hedge policy) rows before row = OnTrue (is_hedge row.kind) (IsDueHedge policy rows before row)
KeepsHedging _ rows before row = Unit {0}
