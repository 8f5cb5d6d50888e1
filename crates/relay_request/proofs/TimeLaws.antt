-- The timeouts of texts.
use Rattle.std.proofs.Common.{◌≡◌, ℕ, ◌*◌, ◌^◌, ◌<◌, ◌≤◌, Bool, true, false, Option, Some, None, List, [], ◌∷◌, length, refl, sym, ap, subst, ◌∙◌, inl, inr, ◌-◌, arith}
use Rattle.std.specs.Prelude.{nat_le, nat_lt, ◌&&◌, min, if◌then◌else◌}
use Rattle.std.specs.Char.{is_ascii_digit, digit_value}
use Rattle.std.specs.List.{list_all}
use Rattle.std.specs.Str.Parse.{AllDigits, digits_value}
use Rattle.std.proofs.lemmas.Bool.{and_parts, false_from_ne_true}
use Rattle.std.proofs.lemmas.Bool.Decides.{nat_tests}
use Rattle.std.proofs.lemmas.Int.Digits.{digits_value-lt}
use Rattle.std.proofs.Math.Nat.{pow-le-pow_right}
use Rattle.grpc_base.specs.Limits.{duration_limit}
use Rattle.grpc_base.specs.Numbers.{is_number, number_of}
use Rattle.relay_request.specs.Timeouts.{time_of}

then_is : (b : Bool) (x y : ℕ) → b ≡ true → (if b then x else y) ≡ x
then_is true x y e = refl
then_is false x y e = absurd (cc)

else_is : (b : Bool) (x y : ℕ) → b ≡ false → (if b then x else y) ≡ y
else_is true x y e = absurd (cc)
else_is false x y e = refl

digit_is : (d : ℕ) → is_ascii_digit d ≡ true → digit_value d ≡ d - 48
digit_is d h =
    let low : nat_lt d 48 ≡ false = grind (arith, nat_tests) in
    let high : nat_lt d 58 ≡ true = grind (arith, nat_tests) in
    else_is (nat_lt d 48) _ _ low ∙ then_is (nat_lt d 58) _ _ high

all_digits : (ds : List ℕ) → list_all is_ascii_digit ds ≡ true → AllDigits 10 ds
all_digits [] h = tt
all_digits (d ∷ ds) h =
    let p = and_parts (is_ascii_digit d) (list_all is_ascii_digit ds) h in
    let is = digit_is d p.0 in
    let few : d - 48 < 10 = (let y = p.0 in grind (arith, nat_tests)) in
    (subst (λ (x : ℕ). x < 10) (sym is) few, all_digits ds p.1)

power_up : (n : ℕ) → n ≤ 8 → 10 ^ n ≤ 100000000
power_up n le = pow-le-pow_right {n = 10} (omega arith) {i = n} {j = 8} le

-- eight digits are a number below 2^64
small : (digits : List ℕ) → length digits ≤ 8 → is_number digits ≡ true → 2 ^ 64 ≤ number_of digits → ⊥
small digits few is past =
    let below = digits_value-lt 10 digits (all_digits digits (and_parts (nat_lt 0 (length digits)) (list_all is_ascii_digit digits) is).1) in
    let up = power_up (length digits) few in
    absurd (omega (arith, below, up, past))

none_by : (b c : Bool) (x : ℕ) → c ≡ false → ◌≡◌ {A = Option ℕ} None (if b && c then Some x else None)
none_by true true x e = absurd (cc)
none_by true false x e = refl
none_by false c x e = refl

-- digits that are no number write no time
pub time_none : (digits : List ℕ) (nanos : ℕ) → length digits ≤ 8 → (is_number digits ≡ true → 2 ^ 64 ≤ number_of digits) → None ≡ time_of digits (Some nanos)
time_none digits nanos few past =
    let nope : is_number digits ≡ false = false_from_ne_true (is_number digits) (λ is. small digits few is (past is)) in
    none_by (nat_le (length digits) 8) (is_number digits) (min (number_of digits * nanos) duration_limit) nope
