-- The text of a deadline (gRPC over HTTP/2, "Timeout": at most eight digits and a unit).
use Rattle.std.specs.Prelude.{ℕ, ◌*◌, ◌^◌, Option, Some, None, List, [], ◌∷◌, ◌++◌, codes, find, nat_le}
use Rattle.std.specs.Int.{div_ceil}
use Rattle.std.specs.Fmt.{decimal}

-- the units, the finest first: the nanoseconds in one, and its letter
abbrev pub units : List (ℕ × List ℕ)
units =
    (1, codes "n") ∷ (1000, codes "u") ∷ (10 ^ 6, codes "m") ∷ (10 ^ 9, codes "S") ∷ (60 * 10 ^ 9, codes "M")
    ∷ (3600 * 10 ^ 9, codes "H") ∷ []

-- the finest unit in which a time, rounded up, has at most eight digits
abbrev pub unit_for : ℕ → Option (ℕ × List ℕ)
unit_for left = find (λ unit. nat_le (div_ceil left unit.0) 99999999) units

-- a time in a unit
abbrev pub text_in : ℕ → Option (ℕ × List ℕ) → List ℕ
text_in left (Some unit) = decimal (div_ceil left unit.0) ++ unit.1
text_in left None = []

-- the text of a time in nanoseconds
abbrev pub timeout_of : ℕ → List ℕ
timeout_of left = text_in left (unit_for left)
