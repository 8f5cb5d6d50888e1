use Rattle.std.proofs.Common.{◌≡◌, ◌≤◌, ◌^◌, ◌-◌, ◌*◌, ℕ, zero, suc, refl, arith, lit<}
use Rattle.std.proofs.Math.Nat.{pow-succ', pow-le-pow_right, one-le-pow}
use Rattle.h2_hpack.proofs.integer.+tail.Goals as goal

power_step : (k : ℕ) → (k ≡ 0 → ⊥) → k ≤ 8 → (128 ^ k ≡ 128 * 128 ^ (k - 1)) × (1 ≤ 128 ^ (k - 1)) × (128 ^ (k - 1) ≤ 562949953421312)
power_step zero h w = absurd (h refl)
power_step (suc j) h w =
    let e : suc j - 1 ≡ j = omega arith in
    rw e (pow-succ' 128 j, one-le-pow j 128 (lit< tt), pow-le-pow_right {n = 128} (lit< tt) {i = j} {j = 7} (omega arith))

pub returns-then-byte-lt128-clause-below : goal.returns-then-byte-lt128-clause-below
returns-then-byte-lt128-clause-below t c =
    let p = power_step c.args.most c.if-most-eq0.false c.requires in
    omega (arith, p.0, p.1, c.if-byte-lt128.true)

pub overflow_mul-result : goal.overflow_mul-result
overflow_mul-result t c =
    let p = power_step c.args.most c.if-most-eq0.false c.requires in
    omega (arith, p.0, p.1, p.2, c.in_ok-high.ensures.below)

pub overflow_add-result : goal.overflow_add-result
overflow_add-result t c =
    let p = power_step c.args.most c.if-most-eq0.false c.requires in
    omega (arith, p.0, p.1, p.2, c.in_ok-high.ensures.below, c.type_inv.bytes 0)

pub returns-clause-below : goal.returns-clause-below
returns-clause-below t c =
    let p = power_step c.args.most c.if-most-eq0.false c.requires in
    omega (arith, p.0, p.1, p.2, c.in_ok-high.ensures.below, c.type_inv.bytes 0)
