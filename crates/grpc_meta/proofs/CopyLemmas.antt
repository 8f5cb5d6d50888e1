-- Two texts in one run of memory.
use Rattle.std.proofs.Common.{◌≡◌, ℕ, ◌-◌, arith, List, [], ◌∷◌, ◌++◌, length, take, drop, refl, ◌∙◌, ap}
use Rattle.std.specs.Prelude.{slice_range}

take_first : (xs ys : List ℕ) → take (length xs) (xs ++ ys) ≡ xs
take_first [] ys = refl
take_first (x ∷ xs) ys = ap (λ l. x ∷ l) (take_first xs ys)

drop_first : (xs ys : List ℕ) → drop (length xs) (xs ++ ys) ≡ ys
drop_first [] ys = refl
drop_first (x ∷ xs) ys = drop_first xs ys

pub first_part : (both first second part : List ℕ) (len : ℕ) → both ≡ first ++ second → len ≡ length first → part ≡ slice_range both 0 len → part ≡ first
first_part both first second part len is len_is part_is =
    let same : len - 0 ≡ length first = omega (arith, len_is) in
    part_is ∙ ap (λ k. take k both) same ∙ ap (take (length first)) is ∙ take_first first second

pub second_part : (both first second part : List ℕ) (len : ℕ) → both ≡ first ++ second → len ≡ length first → part ≡ drop len both → part ≡ second
second_part both first second part len is len_is part_is =
    part_is ∙ ap (λ k. drop k both) len_is ∙ ap (drop (length first)) is ∙ drop_first first second
