-- Growth stands still once it stood still.
use Rattle.std.proofs.Common.{◌≡◌, ℕ, zero, suc, ◌+◌, ◌-◌, ◌*◌, ◌/◌, ◌≤◌, ◌∙◌, min, ap, sym, arith}
use Rattle.grpc_base.specs.Backoff.{grown}

-- one growth
abbrev pub next_of : ℕ → ℕ → ℕ → ℕ
next_of factor limit value = min (value * factor / 1000) limit

-- further growths of a value that one growth leaves as it is
stands_still : (start factor limit value n m : ℕ) → value ≡ grown start factor limit n → next_of factor limit value ≡ value → grown start factor limit (m + n) ≡ value
stands_still start factor limit value n zero e same = let z : 0 + n ≡ n = omega arith in rw z (sym e)
stands_still start factor limit value n (suc m) e same =
    let s : suc m + n ≡ suc (m + n) = omega arith in
    rw s (ap (next_of factor limit) (stands_still start factor limit value n m e same) ∙ same)

pub grown_still : (start factor limit value n times : ℕ) → value ≡ grown start factor limit n → next_of factor limit value ≡ value → n ≤ times → value ≡ grown start factor limit times
grown_still start factor limit value n times e same le =
    let split : (times - n) + n ≡ times = omega arith in
    let still : grown start factor limit ((times - n) + n) ≡ value = stands_still start factor limit value n (times - n) e same in
    (cc)
