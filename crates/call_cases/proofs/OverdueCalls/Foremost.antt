-- The one of several that comes before all others, the first of equals.
use Rattle.std.proofs.Common.{◌≡◌, ◌<◌, ◌∷◌, ap, arith, refl, sym, ◌∙◌, Bool, true, false, cond, List, [], Option, None, Some, ℕ, zero, suc, filter, if◌then◌else◌, slice_get}
use Rattle.session_actions.specs.Words.{earlier, foremost, holds, numbered}

module _ {X : Type 0} (before : X → X → Bool) (p : X → Bool) where
  -- none of these comes before it
  kept_by : (a x : X) (o : Option X) (b : Bool) → holds (λ (y : X). before y x) o ≡ b → before x a ≡ false → holds (λ (y : X). before y a) o ≡ false
      → before (earlier before x o) a ≡ false
  kept_by a x None b e f g = f
  kept_by a x (Some y) true e f g = ap (λ (b : Bool). before (if b then y else x) a) e ∙ g
  kept_by a x (Some y) false e f g = ap (λ (b : Bool). before (if b then y else x) a) e ∙ f

  none_kept : (a x : X) (xs : List X) (b : Bool) → p x ≡ b → (b ≡ true → before x a ≡ false) → holds (λ (y : X). before y a) (foremost before (filter p xs)) ≡ false
      → holds (λ (y : X). before y a) (foremost before (cond b (x ∷ filter p xs) (filter p xs))) ≡ false
  none_kept a x xs true e here rest = kept_by a x (foremost before (filter p xs)) (holds (λ (y : X). before y x) (foremost before (filter p xs))) refl (here refl) rest
  none_kept a x xs false e here rest = rest

  none_before : (a : X) (xs : List X) → ((i : ℕ) (x : X) → slice_get xs i ≡ Some x → p x ≡ true → before x a ≡ false)
      → holds (λ (y : X). before y a) (foremost before (filter p xs)) ≡ false
  none_before a [] each = refl
  none_before a (x ∷ xs) each =
      none_kept a x xs (p x) refl (each zero x refl) (none_before a xs (λ i y at. each (suc i) y at))

  first_by : (a : X) (o : Option X) → holds (λ (y : X). before y a) o ≡ false → earlier before a o ≡ a
  first_by a None e = refl
  first_by a (Some y) e = ap (λ (b : Bool). if b then y else a) e

  later_by : (a x : X) (xs : List X) (b : Bool) → p x ≡ b → (b ≡ true → before a x ≡ true) → foremost before (filter p xs) ≡ Some a
      → foremost before (cond b (x ∷ filter p xs) (filter p xs)) ≡ Some a
  later_by a x xs true e here rest =
      ap (λ (o : Option X). Some (earlier before x o)) rest ∙ ap (λ (b : Bool). Some (if b then a else x)) (here refl)
  later_by a x xs false e here rest = rest

  head_by : (a : X) (xs : List X) (b : Bool) → b ≡ true → holds (λ (y : X). before y a) (foremost before (filter p xs)) ≡ false
      → foremost before (cond b (a ∷ filter p xs) (filter p xs)) ≡ Some a
  head_by a xs true e rest = ap (λ (x : X). Some x) (first_by a (foremost before (filter p xs)) rest)
  head_by a xs false e rest = absurd (cc)

  -- it comes before those before it, and none after it comes before it
  pub is_foremost : (xs : List X) (i : ℕ) (a : X) → slice_get xs i ≡ Some a → p a ≡ true
      → ((j : ℕ) (x : X) → j < i → slice_get xs j ≡ Some x → p x ≡ true → before a x ≡ true)
      → ((j : ℕ) (x : X) → i < j → slice_get xs j ≡ Some x → p x ≡ true → before x a ≡ false) → foremost before (filter p xs) ≡ Some a
  is_foremost [] i a at passes prefix afterwards = absurd (cc)
  is_foremost (x ∷ xs) zero a at passes prefix afterwards =
      let same : a ≡ x = (cc) in
      ap (λ (z : X). foremost before (cond (p z) (z ∷ filter p xs) (filter p xs))) (sym same)
      ∙ head_by a xs (p a) passes (none_before a xs (λ j y there. afterwards (suc j) y (omega arith) there))
  is_foremost (x ∷ xs) (suc i) a at passes prefix afterwards =
      later_by a x xs (p x) refl (prefix zero x (omega arith) refl)
      (is_foremost xs i a at passes (λ j y less there. prefix (suc j) y (omega (arith, less)) there) (λ j y less there. afterwards (suc j) y (omega (arith, less)) there))

  -- where none passes, there is none
  none_by : (x : X) (xs : List X) (b : Bool) → p x ≡ b → b ≡ false → filter p xs ≡ [] → cond b (x ∷ filter p xs) (filter p xs) ≡ []
  none_by x xs true e f rest = absurd (cc)
  none_by x xs false e f rest = rest

  pub none_passes : (xs : List X) → ((i : ℕ) (x : X) → slice_get xs i ≡ Some x → p x ≡ false) → filter p xs ≡ []
  none_passes [] none = refl
  none_passes (x ∷ xs) none = none_by x xs (p x) refl (none zero x refl) (none_passes xs (λ i y at. none (suc i) y at))

  -- by their numbers
  pub numbered_foremost : (xs : List X) (n : ℕ) (a : X) → numbered xs n ≡ Some a → p a ≡ true
      → ((m : ℕ) (x : X) → m < n → numbered xs m ≡ Some x → p x ≡ true → before a x ≡ true)
      → ((m : ℕ) (x : X) → n < m → numbered xs m ≡ Some x → p x ≡ true → before x a ≡ false) → foremost before (filter p xs) ≡ Some a
  numbered_foremost xs zero a at passes prefix afterwards = absurd (cc)
  numbered_foremost xs (suc i) a at passes prefix afterwards =
      is_foremost xs i a at passes (λ j x less there. prefix (suc j) x (omega (arith, less)) there) (λ j x less there. afterwards (suc j) x (omega (arith, less)) there)

  pub none_numbered : (xs : List X) → ((m : ℕ) (x : X) → numbered xs m ≡ Some x → p x ≡ false) → filter p xs ≡ []
  none_numbered xs none = none_passes xs (λ i x at. none (suc i) x at)
