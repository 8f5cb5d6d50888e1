-- The numbers of windows.
use Rattle.std.proofs.Common.{◌≡◌, ℕ, ◌≤◌, refl, arith}
use Rattle.std.specs.Prelude.{ℤ, pos, negsuc, ◌+ℤ◌, ◌-ℤ◌, ◌≤ℤ◌}
use Rattle.std.proofs.lemmas.Int.{ints}
use Rattle.h2_stream.specs.Stream.{or_zero}

lowered_from : (z c : ℤ) (i n : ℕ) → pos i +ℤ c ≡ z → n ≤ or_zero z → i ≤ 2147483647 → pos 0 ≤ℤ (c +ℤ pos 2147483648) → negsuc 2147483647 ≤ℤ (c -ℤ pos n)
lowered_from (pos m) c i n e h k l = omega (arith, ints)
lowered_from (negsuc m) c i n e h k l = omega (arith, ints)

-- a credit stays in its range
pub lowered : (c : ℤ) (i n : ℕ) → n ≤ or_zero (pos i +ℤ c) → i ≤ 2147483647 → pos 0 ≤ℤ (c +ℤ pos 2147483648) → negsuc 2147483647 ≤ℤ (c -ℤ pos n)
lowered c i n h k l = lowered_from (pos i +ℤ c) c i n refl h k l
