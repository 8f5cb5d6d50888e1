-- Lists of which the thing of a number changes.
use Rattle.std.proofs.Common.{◌≡◌, ◌+◌, ◌∷◌, ◌||◌, not, ap, refl, sym, ◌∙◌, Bool, true, false, List, [], Option, None, Some, ℕ, zero, suc, cond, fold, if◌then◌else◌, is_none, is_some, slice_get, slice_set}
use Rattle.std.proofs.lemmas.Bool.{or_from, or_parts}
use Rattle.std.specs.List.{list_any}
use Rattle.std.specs.Option.{option_or}
use Rattle.std.specs.Prelude.{count_by}
use Rattle.session_actions.specs.Words.{changed, changed_if, find_last, numbered}

module _ {X : Type 0} (p q : X → Bool) (f : X → X) (a : X) (each : (x : X) → q x ≡ p x) (here : q (f a) ≡ p a) where
  any_rest : (xs : List X) → list_any q xs ≡ list_any p xs
  any_rest [] = refl
  any_rest (x ∷ xs) = ap (λ (b : Bool). b || list_any q xs) (each x) ∙ ap (λ (b : Bool). p x || b) (any_rest xs)

  any_set : (xs : List X) (i : ℕ) → slice_get xs i ≡ Some a → list_any q (slice_set xs i (f a)) ≡ list_any p xs
  any_set [] i got = absurd (cc)
  any_set (x ∷ xs) zero got =
      let one : x ≡ a = (cc) in
      ap (λ (b : Bool). b || list_any q xs) (here ∙ sym (ap p one)) ∙ ap (λ (b : Bool). p x || b) (any_rest xs)
  any_set (x ∷ xs) (suc i) got = ap (λ (b : Bool). b || list_any q (slice_set xs i (f a))) (each x) ∙ ap (λ (b : Bool). p x || b) (any_set xs i got)

  pub any_keep : (xs : List X) (n : ℕ) → numbered xs n ≡ Some a → list_any q (changed f n xs) ≡ list_any p xs
  any_keep xs zero got = absurd (cc)
  any_keep xs (suc i) got = ap (λ (o : Option X). list_any q (changed_if f (suc i) xs o)) got ∙ any_set xs i got

module _ {X : Type 0} (p q : X → Bool) (f : X → X) (a : X) (each : (x : X) → p x ≡ false → q x ≡ false) (here : p a ≡ false → q (f a) ≡ false) where
  pub none_rest : (xs : List X) → list_any p xs ≡ false → list_any q xs ≡ false
  none_rest [] e = refl
  none_rest (x ∷ xs) e =
      let parts : (p x ≡ false) × (list_any p xs ≡ false) = or_parts (p x) (list_any p xs) e in
      or_from (q x) (list_any q xs) (each x parts.0) (none_rest xs parts.1)

  none_set : (xs : List X) (i : ℕ) → slice_get xs i ≡ Some a → list_any p xs ≡ false → list_any q (slice_set xs i (f a)) ≡ false
  none_set [] i got e = absurd (cc)
  none_set (x ∷ xs) zero got e =
      let parts : (p x ≡ false) × (list_any p xs ≡ false) = or_parts (p x) (list_any p xs) e in
      let one : x ≡ a = (cc) in
      or_from (q (f a)) (list_any q xs) (here (sym (ap p one) ∙ parts.0)) (none_rest xs parts.1)
  none_set (x ∷ xs) (suc i) got e =
      let parts : (p x ≡ false) × (list_any p xs ≡ false) = or_parts (p x) (list_any p xs) e in
      or_from (q x) (list_any q (slice_set xs i (f a))) (each x parts.0) (none_set xs i got parts.1)

  pub none_keep : (xs : List X) (n : ℕ) → numbered xs n ≡ Some a → list_any p xs ≡ false → list_any q (changed f n xs) ≡ false
  none_keep xs zero got e = absurd (cc)
  none_keep xs (suc i) got e = ap (λ (o : Option X). list_any q (changed_if f (suc i) xs o)) got ∙ none_set xs i got e

module _ {X : Type 0} (p : X → Bool) (f : X → X) (each : (x : X) → p (f x) ≡ p x) where
  count_set : (k : ℕ) (xs : List X) (i : ℕ) (a : X) → slice_get xs i ≡ Some a
      → fold (λ n x. n + cond (p x) 1 0) k (slice_set xs i (f a)) ≡ fold (λ n x. n + cond (p x) 1 0) k xs
  count_set k [] i a got = refl
  count_set k (x ∷ xs) zero a got =
      let one : x ≡ a = (cc) in ap (λ (b : Bool). fold (λ n y. n + cond (p y) 1 0) (k + cond b 1 0) xs) (each a ∙ sym (ap p one))
  count_set k (x ∷ xs) (suc i) a got = count_set (k + cond (p x) 1 0) xs i a got

  count_if : (xs : List X) (i : ℕ) (o : Option X) → slice_get xs i ≡ o → count_by p (changed_if f (suc i) xs o) ≡ count_by p xs
  count_if xs i None got = refl
  count_if xs i (Some a) got = count_set 0 xs i a got

  pub count_keep : (xs : List X) (n : ℕ) → count_by p (changed f n xs) ≡ count_by p xs
  count_keep xs zero = refl
  count_keep xs (suc i) = count_if xs i (slice_get xs i) refl

-- none then, none before
module _ {X : Type 0} (p : X → Bool) (f : X → X) (a : X) (here : p a ≡ true → p (f a) ≡ true) where
  off_by : (b : Bool) → p a ≡ b → p (f a) ≡ false → b ≡ false
  off_by false e none = refl
  off_by true e none = let both : true ≡ false = sym (here e) ∙ none in absurd (cc)

  was_set : (xs : List X) (i : ℕ) → slice_get xs i ≡ Some a → list_any p (slice_set xs i (f a)) ≡ false → list_any p xs ≡ false
  was_set [] i got e = refl
  was_set (x ∷ xs) zero got e =
      let one : x ≡ a = (cc) in
      let parts : (p (f a) ≡ false) × (list_any p xs ≡ false) = or_parts (p (f a)) (list_any p xs) e in
      or_from (p x) (list_any p xs) (ap p one ∙ off_by (p a) refl parts.0) parts.1
  was_set (x ∷ xs) (suc i) got e =
      let parts : (p x ≡ false) × (list_any p (slice_set xs i (f a)) ≡ false) = or_parts (p x) (list_any p (slice_set xs i (f a))) e in
      or_from (p x) (list_any p xs) parts.0 (was_set xs i got parts.1)

  pub none_was : (xs : List X) (n : ℕ) → numbered xs n ≡ Some a → list_any p (changed f n xs) ≡ false → list_any p xs ≡ false
  none_was xs zero got e = absurd (cc)
  none_was xs (suc i) got e = was_set xs i got (sym (ap (λ (o : Option X). list_any p (changed_if f (suc i) xs o)) got) ∙ e)

-- whether there is a last one
some_or : {X : Type 0} (o : Option X) (b c : Bool) (x : X) → is_some o ≡ c → is_some (option_or o (if b then Some x else None)) ≡ (b || c)
some_or (Some y) true c x e = refl
some_or (Some y) false c x e = e
some_or None true c x e = refl
some_or None false c x e = e

pub some_last : {X : Type 0} (p : X → Bool) (xs : List X) → is_some (find_last p xs) ≡ list_any p xs
some_last p [] = refl
some_last p (x ∷ xs) = some_or (find_last p xs) (p x) (list_any p xs) x (some_last p xs)

none_some : {X : Type 0} (o : Option X) → is_none o ≡ not (is_some o)
none_some None = refl
none_some (Some x) = refl

pub none_last : {X : Type 0} (p : X → Bool) (xs : List X) → is_none (find_last p xs) ≡ not (list_any p xs)
none_last p xs = none_some (find_last p xs) ∙ ap (λ (b : Bool). not b) (some_last p xs)
