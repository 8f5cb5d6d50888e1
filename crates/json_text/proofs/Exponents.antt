-- A number without an exponent has no `e`, and one with an exponent has.
use Rattle.std.proofs.Common.{◌≡◌, ℕ, List, [], ◌∷◌, ◌++◌, true, false, refl, ap, sym, subst, inl, inr, arith}
use Rattle.std.proofs.lemmas.Bool.Decides.{nat_tests}
use Rattle.json_text.specs.Numbers.{is_digit, is_e}
use Rattle.json_text.specs.Grammar.{AreDigits, IsDigits, IsMinus, IsWhole, IsInteger, IsPlain, HasExponent}

abbrev LacksE : List ℕ → Type 0
LacksE [] = Unit {0}
LacksE (b ∷ bs) = (is_e b ≡ false) × LacksE bs

both_lack : (t u : List ℕ) → LacksE t → LacksE u → LacksE (t ++ u)
both_lack [] u h k = k
both_lack (b ∷ t) u h k = (h.0, both_lack t u h.1 k)

digit_is_no_e : (d : ℕ) → is_digit d ≡ true → is_e d ≡ false
digit_is_no_e d h = grind (arith, nat_tests)

digits_lack : (ds : List ℕ) → AreDigits ds → LacksE ds
digits_lack [] h = tt
digits_lack (d ∷ ds) h = (digit_is_no_e d h.0, digits_lack ds h.1)

some_digits_lack : (ds : List ℕ) → IsDigits ds → LacksE ds
some_digits_lack [] h = absurd h
some_digits_lack (d ∷ ds) h = (digit_is_no_e d h.0, digits_lack ds h.1)

minus_lacks : (m : List ℕ) → IsMinus m → LacksE m
minus_lacks [] h = tt
minus_lacks (s ∷ []) h = (ap is_e h, tt)
minus_lacks (s ∷ t ∷ ts) h = absurd h

whole_lacks : (t : List ℕ) → IsWhole t → LacksE t
whole_lacks [] h = absurd h
whole_lacks (d ∷ ds) (inl h) = (ap is_e h.0, subst LacksE (sym h.1) tt)
whole_lacks (d ∷ ds) (inr h) = (digit_is_no_e d h.1, digits_lack ds h.2)

integer_lacks : (t : List ℕ) → IsInteger t → LacksE t
integer_lacks t h = subst LacksE (sym h.2) (both_lack h.0 h.1 (minus_lacks h.0 h.3) (whole_lacks h.1 h.4))

plain_lacks : (t : List ℕ) → IsPlain t → LacksE t
plain_lacks t (inl h) = integer_lacks t h
plain_lacks t (inr h) = subst LacksE (sym h.2) (both_lack h.0 (46 ∷ h.1) (integer_lacks h.0 h.3) (refl, some_digits_lack h.1 h.4))

e_inside : (t : List ℕ) (e : ℕ) (u : List ℕ) → is_e e ≡ true → LacksE (t ++ e ∷ u) → ⊥
e_inside [] e u y h = (let n = h.0 in cc)
e_inside (b ∷ t) e u y h = e_inside t e u y h.1

pub plain_no_exponent : (t : List ℕ) → IsPlain t → HasExponent t → ⊥
plain_no_exponent t p h = e_inside h.0 h.1 (h.2 ++ h.3) h.6 (subst LacksE h.4 (plain_lacks t p))
