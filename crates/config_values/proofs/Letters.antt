-- A test for equal texts is the test of their bytes.
use Rattle.std.proofs.Common.{◌≡◌, ℕ, List, Bool, true, false, refl, sym, ◌∙◌}
use Rattle.std.specs.Prelude.{IsTrue, ◌↔◌}
use Rattle.std.specs.Str.{bytes_eq}
use Rattle.std.proofs.lemmas.Slice.Eq.{bytes_eq-Decides}

pub same_test : (b : Bool) (xs ys : List ℕ) → (IsTrue b ↔ (xs ≡ ys)) → b ≡ bytes_eq xs ys
same_test b xs ys t = by b (bytes_eq xs ys) refl t
  where
    by : (b e : Bool) → bytes_eq xs ys ≡ e → (IsTrue b ↔ (xs ≡ ys)) → b ≡ e
    by true true s t = refl
    by false false s t = refl
    by true false s t = sym ((bytes_eq-Decides xs ys).1 (t.0 refl)) ∙ s
    by false true s t = t.1 ((bytes_eq-Decides xs ys).0 s)
