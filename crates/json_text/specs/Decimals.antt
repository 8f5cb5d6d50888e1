-- Multipliers in thousandths and durations in nanoseconds, as a service config spells them.
use Rattle.std.specs.Prelude.{ℕ, ◌+◌, ◌-◌, ◌*◌, ◌/◌, ◌^◌, Bool, false, ◌&&◌, ◌||◌, not, ◌==◌, nat_le, nat_lt, if◌then◌else◌, List, [], ◌∷◌, length, take, drop, Option, Some, None, position, nat_eq}
use Rattle.std.specs.List.{list_all, ends_with}
use Rattle.grpc_base.specs.Numbers.{is_number, number_of}

-- the digits after a point, in units of which these many make 1; what is less than a unit is dropped
abbrev pub fraction_of : ℕ → List ℕ → ℕ
fraction_of units digits = number_of digits * units / 10 ^ length digits

-- a text, cut at its first point
abbrev pub cut_at : List ℕ → Option ℕ → List ℕ × Option (List ℕ)
cut_at text None = (text, None)
cut_at text (Some i) = (take i text, Some (drop (i + 1) text))

abbrev pub parts_of : List ℕ → List ℕ × Option (List ℕ)
parts_of text = cut_at text (position (λ b. b == 46) text)

-- no 0 before another digit
abbrev pub is_canonical : List ℕ → Bool
is_canonical [] = false
is_canonical (d ∷ ds) = not (d == 48) || (length ds == 0)

-- A multiplier: above 0 in thousandths, and as written at most 1,000,000.
abbrev pub most : ℕ
most = 1000000

abbrev pub milli_found : ℕ → Bool → Option ℕ
milli_found n within = if within && nat_lt 0 n then Some n else None

abbrev pub milli_by : List ℕ → Option (List ℕ) → Option ℕ
milli_by whole None =
    if is_number whole && is_canonical whole
    then milli_found (number_of whole * 1000) (nat_le (number_of whole) most)
    else None
milli_by whole (Some digits) =
    if is_number whole && is_canonical whole && is_number digits
    then milli_found (number_of whole * 1000 + fraction_of 1000 digits)
    (nat_lt (number_of whole) most || ((number_of whole == most) && list_all (λ d. d == 48) digits))
    else None

-- the thousandths of a JSON number that is a multiplier
abbrev pub milli_of : List ℕ → Option ℕ
milli_of text = milli_by (parts_of text).0 (parts_of text).1

-- A duration: at most 1,000,000,000 seconds.
abbrev pub nanos_found : ℕ → Option ℕ
nanos_found n = if nat_le n (10 ^ 18) then Some n else None

abbrev pub nanos_by : List ℕ → Option (List ℕ) → Option ℕ
nanos_by whole None = if is_number whole then nanos_found (number_of whole * 10 ^ 9) else None
nanos_by whole (Some digits) =
    if is_number whole && is_number digits && nat_le (length digits) 9
    then nanos_found (number_of whole * 10 ^ 9 + fraction_of (10 ^ 9) digits)
    else None

-- the nanoseconds of a duration: what stands before the s that ends it
abbrev pub nanos_of : List ℕ → Option ℕ
nanos_of text =
    if ends_with nat_eq text (115 ∷ [])
    then nanos_by (parts_of (take (length text - 1) text)).0 (parts_of (take (length text - 1) text)).1
    else None
