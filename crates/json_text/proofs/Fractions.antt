-- The places after a point, summed digit by digit.
use Rattle.std.proofs.Common.{◌≡◌, ℕ, zero, suc, ◌+◌, ◌-◌, ◌*◌, ◌/◌, ◌^◌, ◌<◌, ◌≤◌, List, [], ◌∷◌, Bool, true, false, refl, ap, sym, subst, ◌∙◌, inl, inr, length, arith}
use Rattle.std.specs.Prelude.{nat_lt, ◌&&◌, ◌⊎◌}
use Rattle.std.specs.List.{list_all}
use Rattle.std.specs.Char.{is_ascii_digit, digit_value}
use Rattle.std.specs.Str.Parse.{digits_value_after, AllDigits}
use Rattle.std.proofs.lemmas.Bool.Decides.{nat_tests}
use Rattle.std.proofs.lemmas.Int.Digits.{digits_value-lt}
use Rattle.std.proofs.lemmas.Nat.{div-mul-add}
use Rattle.grpc_base.specs.Numbers.{is_number, number_of}
use Rattle.json_text.specs.Decimals.{fraction_of}
use Rattle.json_text.proofs.Reach.{then_is, else_is}

-- the sum of the digits, the first of which counts unit
abbrev pub summed : ℕ → List ℕ → ℕ
summed unit [] = 0
summed unit (d ∷ ds) = (d - 48) * unit + summed (unit / 10) ds

both_are : (a b : Bool) → (a && b) ≡ true → (a ≡ true) × (b ≡ true)
both_are true b e = (refl, e)
both_are false b e = absurd (cc)

value_is : (d : ℕ) → is_ascii_digit d ≡ true → digit_value d ≡ d - 48
value_is d h =
    let low : nat_lt d 48 ≡ false = grind (arith, nat_tests) in
    let high : nat_lt d 58 ≡ true = grind (arith, nat_tests) in
    else_is (nat_lt d 48) _ _ low ∙ then_is (nat_lt d 58) _ _ high

all_digits : (ds : List ℕ) → list_all is_ascii_digit ds ≡ true → AllDigits 10 ds
all_digits [] h = tt
all_digits (d ∷ ds) h =
    let p = both_are (is_ascii_digit d) (list_all is_ascii_digit ds) h in
    let is = value_is d p.0 in
    let few : d - 48 < 10 = (let y = p.0 in grind (arith, nat_tests)) in
    (subst (λ (x : ℕ). x < 10) (sym is) few, all_digits ds p.1)

power : (n : ℕ) → 10 * 10 ^ n ≡ 10 ^ suc n
power n = omega arith

after_is : (n : ℕ) (ds : List ℕ) → digits_value_after 10 n ds ≡ n * 10 ^ length ds + digits_value_after 10 0 ds
after_is n [] = omega arith
after_is n (d ∷ ds) =
    let p : ℕ = 10 ^ length ds in
    let v : ℕ = digit_value d in
    let one : digits_value_after 10 n (d ∷ ds) ≡ (n * 10 + v) * p + digits_value_after 10 0 ds = after_is (n * 10 + v) ds in
    let two : digits_value_after 10 0 (d ∷ ds) ≡ (0 * 10 + v) * p + digits_value_after 10 0 ds = after_is (0 * 10 + v) ds in
    let whole : (n * 10 + v) * p ≡ n * (10 * p) + (0 * 10 + v) * p = omega arith in
    subst (λ (x : ℕ). digits_value_after 10 n (d ∷ ds) ≡ n * x + digits_value_after 10 0 (d ∷ ds)) (power (length ds)) (omega (arith, one, two, whole))

nothing : (ds : List ℕ) → summed 0 ds ≡ 0
nothing [] = refl
nothing (d ∷ ds) = omega (arith, nothing ds)

-- what the sum leaves of the number of the digits
abbrev Left : ℕ → List ℕ → Type 0
Left q ds = (r : ℕ) × (number_of ds * 10 ^ q ≡ summed (10 ^ q / 10) ds * 10 ^ length ds + r) × (r < 10 ^ length ds)

zero_left : (v p n s : ℕ) → s ≡ 0 → n * 1 ≡ (v * 0 + s) * p + n
zero_left v p n s e = subst (λ (x : ℕ). n * 1 ≡ (v * 0 + x) * p + n) (sym e) (omega arith)

one_more : (v a b n f r : ℕ) → n * b ≡ f * a + r → (v * a + n) * (10 * b) ≡ (v * b + f) * (10 * a) + 10 * r
one_more v a b n f r e = omega (arith, e)

tens : (q : ℕ) → 10 ^ suc q / 10 ≡ 10 ^ q
tens q = subst (λ (x : ℕ). x / 10 ≡ 10 ^ q) (ten_more q) (div-mul-add (10 ^ q) 10 0 (omega arith))
  where
    ten_more : (q : ℕ) → 10 ^ q * 10 + 0 ≡ 10 ^ suc q
    ten_more q = omega arith

left : (q : ℕ) (ds : List ℕ) → list_all is_ascii_digit ds ≡ true → Left q ds
left q [] h = (0, omega arith, omega arith)
left zero (d ∷ ds) h =
    (number_of (d ∷ ds), zero_left (d - 48) (10 ^ length (d ∷ ds)) (number_of (d ∷ ds)) (summed 0 ds) (nothing ds), digits_value-lt 10 (d ∷ ds) (all_digits (d ∷ ds) h))
left (suc q) (d ∷ ds) h =
    let p = both_are (is_ascii_digit d) (list_all is_ascii_digit ds) h in
    let k = left q ds p.1 in
    let prefix : number_of (d ∷ ds) ≡ (d - 48) * 10 ^ length ds + number_of ds =
    after_is (0 * 10 + digit_value d) ds ∙ ap (λ (x : ℕ). x * 10 ^ length ds + number_of ds) (omega (arith, value_is d p.0)) in
    let core : ((d - 48) * 10 ^ length ds + number_of ds) * 10 ^ suc q ≡ ((d - 48) * 10 ^ q + summed (10 ^ q / 10) ds) * 10 ^ suc (length ds) + 10 * k.0 =
    subst (λ (x : ℕ). ((d - 48) * 10 ^ length ds + number_of ds) * x ≡ ((d - 48) * 10 ^ q + summed (10 ^ q / 10) ds) * 10 ^ suc (length ds) + 10 * k.0) (power q)
    (subst (λ (x : ℕ). ((d - 48) * 10 ^ length ds + number_of ds) * (10 * 10 ^ q) ≡ ((d - 48) * 10 ^ q + summed (10 ^ q / 10) ds) * x + 10 * k.0) (power (length ds))
    (one_more (d - 48) (10 ^ length ds) (10 ^ q) (number_of ds) (summed (10 ^ q / 10) ds) k.0 k.1)) in (
      10 * k.0,
      subst (λ (x : ℕ). x * 10 ^ suc q ≡ summed (10 ^ suc q / 10) (d ∷ ds) * 10 ^ length (d ∷ ds) + 10 * k.0) (sym prefix)
          (subst (λ (u : ℕ). ((d - 48) * 10 ^ length ds + number_of ds) * 10 ^ suc q ≡ ((d - 48) * u + summed (u / 10) ds) * 10 ^ suc (length ds) + 10 * k.0) (sym (tens q)) core),
      subst (λ (x : ℕ). 10 * k.0 < x) (power (length ds)) (omega (arith, k.2)),
    )

-- the sum is the number of the digits in these places
pub summed_is : (q : ℕ) (ds : List ℕ) → list_all is_ascii_digit ds ≡ true → summed (10 ^ q / 10) ds ≡ fraction_of (10 ^ q) ds
summed_is q ds h =
    let k = left q ds h in
    sym (ap (λ (x : ℕ). x / 10 ^ length ds) k.1 ∙ div-mul-add (summed (10 ^ q / 10) ds) (10 ^ length ds) k.0 k.2)

pub number_digits : (ds : List ℕ) → is_number ds ≡ true → list_all is_ascii_digit ds ≡ true
number_digits ds h = (both_are (nat_lt 0 (length ds)) (list_all is_ascii_digit ds) h).1

-- either of the two that decimals are read by
pub summed_by : (whole : ℕ) (ds : List ℕ) → (whole ≡ 1000) ⊎ (whole ≡ 1000000000) → is_number ds ≡ true → summed (whole / 10) ds ≡ fraction_of whole ds
summed_by whole ds (inl e) h = subst (λ (w : ℕ). summed (w / 10) ds ≡ fraction_of w ds) (sym e) (summed_is 3 ds (number_digits ds h))
summed_by whole ds (inr e) h = subst (λ (w : ℕ). summed (w / 10) ds ≡ fraction_of w ds) (sym e) (summed_is 9 ds (number_digits ds h))

-- less than a whole
pub fraction_below : (whole : ℕ) (ds : List ℕ) → is_number ds ≡ true → fraction_of whole ds ≤ whole
fraction_below whole ds h =
    let few : number_of ds < 10 ^ length ds = digits_value-lt 10 ds (all_digits ds (number_digits ds h)) in
    grind (arith, few)
