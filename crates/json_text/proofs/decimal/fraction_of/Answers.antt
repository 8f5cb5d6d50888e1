use Rattle.std.proofs.Common.{◌≡◌, ℕ, ◌+◌, ◌-◌, ◌*◌, ◌≤◌, ◌<◌, List, drop, drop-cons, get_or, length, arith, add-one, ap, sym, ◌∙◌, suc, add_assoc, ◌/◌}
use Rattle.std.proofs.Math.Nat.{mul-le-mul_right}
use Rattle.json_text.proofs.Fractions.{summed, summed_by}
use Rattle.json_text.proofs.decimal.fraction_of.Goals as goal

one_more : (ds : List ℕ) (i v d unit total : ℕ) → i < length ds → d ≡ get_or ds i 0 - 48
    → v + summed unit (drop i ds) ≡ total → v + d * unit + summed (unit / 10) (drop (i + 1) ds) ≡ total
one_more ds i v d unit total lt is_d seen =
    let prefix = drop-cons ds i 0 lt in
    let here : v + ((get_or ds i 0 - 48) * unit + summed (unit / 10) (drop (suc i) ds)) ≡ total = ap (λ (x : List ℕ). v + summed unit x) (sym prefix) ∙ seen in
    let there : v + (d * unit + summed (unit / 10) (drop (suc i) ds)) ≡ total = ap (λ (x : ℕ). v + (x * unit + summed (unit / 10) (drop (suc i) ds))) is_d ∙ here in
    rw (add-one i) (add_assoc v (d * unit) (summed (unit / 10) (drop (suc i) ds)) ∙ there)

at_most : (d unit : ℕ) → d < 208 → d * unit ≤ 207 * unit
at_most d unit lt = mul-le-mul_right {m = d} {n = 207} unit (omega arith)

pub loop-digit-preserved : goal.loop-digit-preserved
loop-digit-preserved c =
    let few : c.saturating_sub.result * c.loop-digit.unit ≤ 207 * c.loop-digit.unit = at_most _ _ (omega (arith, c.type_inv.digits c.loop-digit.digit-index)) in record {
      seen = one_more c.args.digits.now c.loop-digit.digit-index c.loop-digit.value c.saturating_sub.result c.loop-digit.unit _ c.loop-digit-test.true c.saturating_sub.ensures c.loop-digit.invariant.seen;
      below = omega (arith, few);
    }

pub loop-digit-init : goal.loop-digit-init
loop-digit-init c = record {
  seen = omega (arith, summed_by c.args.units c.args.digits.now c.requires.places c.requires.number);
  below = omega arith;
}
