-- The timeout that a request asks for (gRPC over HTTP/2, "Timeout").
use Rattle.std.specs.Prelude.{ℕ, ◌-◌, ◌*◌, ◌&&◌, Option, Some, None, List, [], ◌∷◌, length, take, drop, min, nat_le, bytes_eq, find, option_map, if◌then◌else◌}
use Rattle.grpc_base.specs.Limits.{duration_limit}
use Rattle.grpc_base.specs.Numbers.{is_number, number_of}
use Rattle.grpc_meta.specs.Timeouts.{units}

-- the nanoseconds in the unit of this letter
abbrev pub nanos_of : List ℕ → Option ℕ
nanos_of letter = option_map (λ unit. unit.0) (find (λ unit. bytes_eq letter unit.1) units)

-- one to eight digits of a unit; a time above the longest duration counts as that
abbrev pub time_of : List ℕ → Option ℕ → Option ℕ
time_of digits None = None
time_of digits (Some nanos) =
    if nat_le (length digits) 8 && is_number digits then Some (min (number_of digits * nanos) duration_limit) else None

-- the nanoseconds that a value says: its last byte is the unit
abbrev pub timeout_of_text : List ℕ → Option ℕ
timeout_of_text value = time_of (take (length value - 1) value) (nanos_of (drop (length value - 1) value))

-- by the values of `grpc-timeout`, of which the first counts: a time or none, or nothing where it is unreadable
abbrev pub asked_by : List (List ℕ) → Option (Option ℕ)
asked_by [] = Some None
asked_by (value ∷ more) = option_map (λ time. Some time) (timeout_of_text value)
