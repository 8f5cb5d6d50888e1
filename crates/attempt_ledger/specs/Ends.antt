-- How the attempts of one call ended, seen in the whole list of its rows.
use Rattle.std.specs.Prelude.{ℕ, ◌+◌, ◌*◌, ◌^◌, Bool, true, false, not, ◌&&◌, ◌||◌, ◌==◌, nat_lt, Option, Some, None, List, [], ◌∷◌}
use Rattle.std.specs.List.{list_any}
use Rattle.std.specs.Option.{option_map_or}
use Rattle.grpc_base.specs.declared.plan.Pushback.{Pushback}
use Rattle.grpc_base.specs.declared.plan.Pushback.TheVariants as pushback
use Rattle.grpc_base.specs.declared.plan.Throttle.{Throttle}
use Rattle.attempt_ledger.specs.declared.row.Row.{Row}
use Rattle.attempt_ledger.specs.declared.row.RowCause.{RowCause}
use Rattle.attempt_ledger.specs.declared.row.RowCause.TheVariants as cause
use Rattle.attempt_ledger.specs.declared.row.RowEnd.{RowEnd}
use Rattle.attempt_ledger.specs.Numbering.{is_transparent}

-- whether a row passes a test that sees how many rows stand before it, and those after it
abbrev pub some_row_from : (ℕ → Row → List Row → Bool) → ℕ → List Row → Bool
some_row_from test place [] = false
some_row_from test place (row ∷ after) = test place row after || some_row_from test (place + 1) after

abbrev pub some_row : (ℕ → Row → List Row → Bool) → List Row → Bool
some_row test rows = some_row_from test 0 rows

-- whether a row ended, and its end passes a test
abbrev pub ended_by : (RowEnd → Bool) → Row → Bool
ended_by test row = option_map_or test row.ended false

-- a transparent retry follows a row: a row after it, of its number (gRFC A6, "Transparent Retries")
abbrev pub is_follower : Row → Row → Bool
is_follower row later = is_transparent later.kind && (later.number == row.number)

abbrev pub is_followed : Row → List Row → Bool
is_followed row after = list_any (is_follower row) after

abbrev pub is_cut : RowCause → Bool
is_cut cause.Cut = true
is_cut _ = false

-- an end counts: the client didn't give the attempt up, and no transparent retry follows it
abbrev pub is_counted : Row → List Row → RowEnd → Bool
is_counted row after end = not (is_cut end.cause) && not (is_followed row after)

-- what a server asks by its pushback: no further attempt, or one after so many milliseconds (gRFC A6, "Pushback")
abbrev pub is_stop : Pushback → Bool
is_stop pushback.Stop = true
is_stop _ = false

abbrev pub delay_of : Pushback → Option ℕ
delay_of (pushback.After millis) = Some millis
delay_of _ = None

-- the moment that comes so many milliseconds after an end
abbrev pub millis_after : RowEnd → ℕ → ℕ
millis_after end millis = end.moment + millis * 10 ^ 6

-- more than half of the tokens are left; so it is where none are counted
-- (gRFC A6, "Throttling Retry Attempts and Hedged RPCs")
abbrev pub is_above : Option Throttle → Option ℕ → Bool
is_above (Some throttle) (Some tokens) = nat_lt throttle.start (2 * tokens)
is_above _ _ = true
