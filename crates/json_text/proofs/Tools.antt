-- Small steps that the proofs about the reader share.
use Rattle.std.proofs.Common.{◌≡◌, ℕ, List, [], ◌∷◌, ◌++◌, Bool, true, false, refl, ap, ◌∙◌, append_assoc, arith}
use Rattle.std.specs.Prelude.{if◌then◌else◌, ◌==◌}
use Rattle.std.proofs.lemmas.Bool.Decides.{nat_tests}
use Rattle.json_text.specs.Grammar.{IsBlank, Ended, Comma, is_blank}

-- what holds of both arms holds of the choice
pub by_if : {A : Type 0} (P : A → Type 0) (c : Bool) (x y : A) → (c ≡ true → P x) → (c ≡ false → P y) → P (if c then x else y)
by_if P true x y f g = f refl
by_if P false x y f g = g refl

pub same : (b k : ℕ) → (b == k) ≡ true → b ≡ k
same b k h = grind (arith, nat_tests)

-- one byte more, after a first part
pub snoc2 : (p a c : List ℕ) (b : ℕ) → p ≡ a ++ c → p ++ b ∷ [] ≡ a ++ (c ++ b ∷ [])
snoc2 p a c b e = ap (λ (x : List ℕ). x ++ b ∷ []) e ∙ append_assoc a c (b ∷ [])

pub snoc3 : (p a c d : List ℕ) (b : ℕ) → p ≡ a ++ (c ++ d) → p ++ b ∷ [] ≡ a ++ (c ++ (d ++ b ∷ []))
snoc3 p a c d b e = snoc2 p a (c ++ d) b e ∙ ap (λ (x : List ℕ). a ++ x) (append_assoc c d (b ∷ []))

pub append_nil : (t : List ℕ) → t ≡ t ++ []
append_nil [] = refl
append_nil (b ∷ t) = ap (λ (x : List ℕ). b ∷ x) (append_nil t)

pub blank_snoc : (w : List ℕ) (b : ℕ) → IsBlank w → is_blank b ≡ true → IsBlank (w ++ b ∷ [])
blank_snoc [] b h y = (y, tt)
blank_snoc (c ∷ w) b h y = (h.0, blank_snoc w b h.1 y)

pub ended_blank : (F V : List ℕ → Type 0) (t : List ℕ) (b : ℕ) → Ended F V t → is_blank b ≡ true → Ended F V (t ++ b ∷ [])
ended_blank F V t b h y = (h.0, h.1, h.2 ++ b ∷ [], snoc3 t h.0 h.1 h.2 b h.3, h.4, h.5, blank_snoc h.2 b h.6 y)

pub comma_blank : (F : List ℕ → Type 0) (t : List ℕ) (b : ℕ) → Comma F t → is_blank b ≡ true → Comma F (t ++ b ∷ [])
comma_blank F t b h y = (h.0, h.1 ++ b ∷ [], snoc2 t h.0 (44 ∷ h.1) b h.2, h.3, blank_snoc h.1 b h.4 y)
