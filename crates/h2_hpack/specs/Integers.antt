-- Integers with a prefix (RFC 7541, section 5.1): a low part in the last bits of a byte, and the rest seven bits a
-- byte, the low ones first.
use Rattle.std.specs.Prelude.{ℕ, zero, suc, ◌+◌, ◌-◌, ◌*◌, ◌/◌, ◌%◌, ◌^◌, nat_lt, nat_le, if◌then◌else◌, List, [], ◌∷◌, Option, Some, None, option_map, option_and_then}

-- an integer is at most this, and has at most so many bytes after its prefix
abbrev pub integer_limit : ℕ
integer_limit = 4294967295

abbrev pub most_bytes : ℕ
most_bytes = 5

-- the rest at the start of some bytes, in at most so many, and what follows it; its last byte is below 128
abbrev pub tail_at : ℕ → List ℕ → Option (ℕ × List ℕ)
tail_at zero bytes = None
tail_at (suc most) [] = None
tail_at (suc most) (b ∷ bytes) =
    if nat_lt b 128 then Some (b, bytes)
    else option_map (λ t. (b - 128 + 128 * t.0, t.1)) (tail_at most bytes)

-- a number and what follows it, unless it is above the limit
abbrev pub within_limit : ℕ × List ℕ → Option (ℕ × List ℕ)
within_limit x = if nat_le x.0 integer_limit then Some x else None

-- the integer whose prefix is the last `bits` bits of `first`, and what follows it; none where the bytes cut it off
-- or it is outside the bounds
abbrev pub integer_at : ℕ → ℕ → List ℕ → Option (ℕ × List ℕ)
integer_at bits first bytes =
    let full = 2 ^ bits - 1 in
    let low = first % 2 ^ bits in
    if nat_lt low full then Some (low, bytes)
    else option_and_then (λ t. within_limit (full + t.0, t.1)) (tail_at most_bytes bytes)

-- the bytes of a rest, in at most so many
abbrev pub tail_bytes : ℕ → ℕ → List ℕ
tail_bytes zero n = []
tail_bytes (suc most) n = if nat_lt n 128 then n ∷ [] else (n % 128 + 128) ∷ tail_bytes most (n / 128)

-- the bytes of an integer below 2 ^ 64, with `mark` in the bits before its prefix
abbrev pub integer_bytes : ℕ → ℕ → ℕ → List ℕ
integer_bytes bits mark n =
    let full = 2 ^ bits - 1 in
    if nat_lt n full then (mark + n) ∷ []
    else (mark + full) ∷ tail_bytes 10 (n - full)
