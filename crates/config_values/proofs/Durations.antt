-- How large durations and ratios are.
use Rattle.std.proofs.Common.{◌≡◌, ℕ, ◌+◌, ◌-◌, ◌*◌, ◌^◌, ◌≤◌, ◌<◌, List, [], ◌∷◌, Option, Some, None, Bool, true, false, refl, arith, length}
use Rattle.std.specs.Prelude.{take, nat_eq, nat_le, nat_lt, if◌then◌else◌, ◌&&◌, ◌||◌, ◌==◌}
use Rattle.std.specs.List.{list_all, ends_with}
use Rattle.std.proofs.lemmas.Bool.Decides.{nat_tests}
use Rattle.grpc_base.specs.Numbers.{is_number, number_of}
use Rattle.json_text.specs.Decimals.{nanos_of, nanos_by, nanos_found, milli_of, milli_by, milli_found, parts_of, is_canonical, fraction_of}
use Rattle.json_text.proofs.Fractions.{fraction_below}
use Rattle.config_values.specs.Values.{within_thousand}

-- the arm and the test of a choice that gives something
module _ {A : Type 0} where
  arm_of : (b : Bool) (o : Option A) (x : A) → (if b then o else None) ≡ Some x → o ≡ Some x
  arm_of true o x e = e
  arm_of false o x e = absurd (cc)

  test_of : (b : Bool) (o : Option A) (x : A) → (if b then o else None) ≡ Some x → b ≡ true
  test_of true o x e = refl
  test_of false o x e = absurd (cc)

found_within : (m n : ℕ) → nanos_found m ≡ Some n → n ≤ 10 ^ 18
found_within m n e =
    let test = test_of (nat_le m (10 ^ 18)) (Some m) n e in
    let same = arm_of (nat_le m (10 ^ 18)) (Some m) n e in
    grind (arith, nat_tests)

by_within : (prefix : List ℕ) (digits : Option (List ℕ)) (n : ℕ) → nanos_by prefix digits ≡ Some n → n ≤ 10 ^ 18
by_within prefix None n e =
    found_within (number_of prefix * 10 ^ 9) n (arm_of (is_number prefix) (nanos_found (number_of prefix * 10 ^ 9)) n e)
by_within prefix (Some digits) n e =
    found_within (number_of prefix * 10 ^ 9 + fraction_of (10 ^ 9) digits) n
    (arm_of (is_number prefix && is_number digits && nat_le (length digits) 9) (nanos_found (number_of prefix * 10 ^ 9 + fraction_of (10 ^ 9) digits)) n e)

pub nanos_within : (text : List ℕ) (n : ℕ) → nanos_of text ≡ Some n → n ≤ 10 ^ 18
nanos_within text n e =
    by_within (parts_of (take (length text - 1) text)).0 (parts_of (take (length text - 1) text)).1 n
    (arm_of (ends_with nat_eq text (115 ∷ [])) (nanos_by (parts_of (take (length text - 1) text)).0 (parts_of (take (length text - 1) text)).1) n e)

both : (a b : Bool) → (a && b) ≡ true → (a ≡ true) × (b ≡ true)
both true true e = (refl, refl)
both true false e = absurd (cc)
both false b e = absurd (cc)

milli_within : (m n : ℕ) (b : Bool) → milli_found m b ≡ Some n → n ≡ m
milli_within m n b e = let same = arm_of (b && nat_lt 0 m) (Some m) n e in cc

ratio_by : (prefix : List ℕ) (digits : Option (List ℕ)) (n : ℕ) → within_thousand prefix digits ≡ true → milli_by prefix digits ≡ Some n → n < 2 ^ 32
ratio_by prefix None n w e =
    let is = milli_within (number_of prefix * 1000) n (nat_le (number_of prefix) 1000000)
    (arm_of (is_number prefix && is_canonical prefix) (milli_found (number_of prefix * 1000) (nat_le (number_of prefix) 1000000)) n e) in
    grind (arith, nat_tests)
ratio_by prefix (Some digits) n w e = small (nat_lt (number_of prefix) 1000000 || ((number_of prefix == 1000000) && list_all (λ d. d == 48) digits)) e
  where
    prefix_bound : (v : ℕ) (zeros : Bool) → (nat_lt v 1000 || ((v == 1000) && zeros)) ≡ true → v ≤ 1000
    prefix_bound v zeros e = grind (arith, nat_tests)

    digits_are : (is_number prefix && is_canonical prefix && is_number digits) ≡ true → is_number digits ≡ true
    digits_are t = (both (is_number prefix && is_canonical prefix) (is_number digits) t).1

    small : (b : Bool) → (if is_number prefix && is_canonical prefix && is_number digits then milli_found (number_of prefix * 1000 + fraction_of 1000 digits) b else None) ≡ Some n → n < 2 ^ 32
    small b e =
        let tests = test_of (is_number prefix && is_canonical prefix && is_number digits) (milli_found (number_of prefix * 1000 + fraction_of 1000 digits) b) n e in
        let is = milli_within (number_of prefix * 1000 + fraction_of 1000 digits) n b
        (arm_of (is_number prefix && is_canonical prefix && is_number digits) (milli_found (number_of prefix * 1000 + fraction_of 1000 digits) b) n e) in
        omega (arith, is, prefix_bound (number_of prefix) (list_all (λ d. d == 48) digits) w, fraction_below 1000 digits (digits_are tests))

pub ratio_within : (text : List ℕ) (n : ℕ) → within_thousand (parts_of text).0 (parts_of text).1 ≡ true → milli_of text ≡ Some n → n < 2 ^ 32
ratio_within text n w e = ratio_by (parts_of text).0 (parts_of text).1 n w e

-- a text that is a multiplier has a number before its point
number_by : (prefix : List ℕ) (digits : Option (List ℕ)) (n : ℕ) → milli_by prefix digits ≡ Some n → is_number prefix ≡ true
number_by prefix None n e =
    (both (is_number prefix) (is_canonical prefix) (test_of (is_number prefix && is_canonical prefix) _ n e)).0
number_by prefix (Some digits) n e =
    (both (is_number prefix) (is_canonical prefix) (both (is_number prefix && is_canonical prefix) (is_number digits) (test_of (is_number prefix && is_canonical prefix && is_number digits) _ n e)).0).0

pub multiplier_number : (text : List ℕ) (n : ℕ) → milli_of text ≡ Some n → is_number (parts_of text).0 ≡ true
multiplier_number text n e = number_by (parts_of text).0 (parts_of text).1 n e
