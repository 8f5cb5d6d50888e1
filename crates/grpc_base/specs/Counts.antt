-- Counts that are kept in a u64, and when one rose.
use Rattle.std.specs.Prelude.{◌≤◌, ℕ, ◌+◌, min}

-- a count with one more; at the top of a u64 it stands still
abbrev pub one_more : ℕ → ℕ
one_more count = min (count + 1) 18446744073709551615

-- a count rose; one that stands at the top of a u64 counts as one that rose
abbrev pub Rises : ℕ → ℕ → Type 0
Rises before after = one_more before ≤ after
