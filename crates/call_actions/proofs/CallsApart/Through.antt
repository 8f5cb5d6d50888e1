-- What a list says of those that pass a test is what the list of these says; so two lists with the same of these say the same.
use Rattle.session_actions.specs.Words.{find_last, holds}
use Rattle.std.proofs.Common.{Bool, List, None, Option, Some, [], ap, arith, cond, count_by, false, filter, fold, if◌then◌else◌, refl, slice_get, slice_set, suc, sym, true, zero, ℕ, ◌+◌, ◌||◌, ◌∙◌, ◌∷◌, ◌≡◌}
use Rattle.std.specs.List.{list_any}
use Rattle.std.specs.Option.{option_or}

module _ {X : Type 0} (own p : X → Bool) (restricted : (x : X) → own x ≡ false → p x ≡ false) where
  any_by : (x : X) (xs : List X) (b : Bool) → own x ≡ b → list_any p xs ≡ list_any p (filter own xs) → (p x || list_any p xs) ≡ list_any p (cond b (x ∷ filter own xs) (filter own xs))
  any_by x xs true e rest = ap (λ (z : Bool). p x || z) rest
  any_by x xs false e rest = ap (λ (z : Bool). z || list_any p xs) (restricted x e) ∙ rest

  pub any_through : (xs : List X) → list_any p xs ≡ list_any p (filter own xs)
  any_through [] = refl
  any_through (x ∷ xs) = any_by x xs (own x) refl (any_through xs)

  filter_by : (x : X) (xs : List X) (b : Bool) → own x ≡ b → filter p xs ≡ filter p (filter own xs)
      → cond (p x) (x ∷ filter p xs) (filter p xs) ≡ filter p (cond b (x ∷ filter own xs) (filter own xs))
  filter_by x xs true e rest = ap (λ (l : List X). cond (p x) (x ∷ l) l) rest
  filter_by x xs false e rest = ap (λ (z : Bool). cond z (x ∷ filter p xs) (filter p xs)) (restricted x e) ∙ rest

  pub filter_through : (xs : List X) → filter p xs ≡ filter p (filter own xs)
  filter_through [] = refl
  filter_through (x ∷ xs) = filter_by x xs (own x) refl (filter_through xs)

  count_by_one : (k : ℕ) (x : X) (xs : List X) (b : Bool) → own x ≡ b
      → ((j : ℕ) → fold (λ n y. n + cond (p y) 1 0) j xs ≡ fold (λ n y. n + cond (p y) 1 0) j (filter own xs))
      → fold (λ n y. n + cond (p y) 1 0) (k + cond (p x) 1 0) xs ≡ fold (λ n y. n + cond (p y) 1 0) k (cond b (x ∷ filter own xs) (filter own xs))
  count_by_one k x xs true e rest = rest (k + cond (p x) 1 0)
  count_by_one k x xs false e rest =
      let same : k + 0 ≡ k = omega arith in
      ap (λ (z : Bool). fold (λ n y. n + cond (p y) 1 0) (k + cond z 1 0) xs) (restricted x e)
      ∙ ap (λ (j : ℕ). fold (λ n y. n + cond (p y) 1 0) j xs) same ∙ rest k

  count_from : (k : ℕ) (xs : List X) → fold (λ n y. n + cond (p y) 1 0) k xs ≡ fold (λ n y. n + cond (p y) 1 0) k (filter own xs)
  count_from k [] = refl
  count_from k (x ∷ xs) = count_by_one k x xs (own x) refl (λ j. count_from j xs)

  pub count_through : (xs : List X) → count_by p xs ≡ count_by p (filter own xs)
  count_through xs = count_from 0 xs

  or_none : (o : Option X) → option_or o None ≡ o
  or_none None = refl
  or_none (Some x) = refl

  last_by : (x : X) (xs : List X) (b : Bool) → own x ≡ b → find_last p xs ≡ find_last p (filter own xs)
      → option_or (find_last p xs) (if p x then Some x else None) ≡ find_last p (cond b (x ∷ filter own xs) (filter own xs))
  last_by x xs true e rest = ap (λ (o : Option X). option_or o (if p x then Some x else None)) rest
  last_by x xs false e rest =
      ap (λ (z : Bool). option_or (find_last p xs) (if z then Some x else None)) (restricted x e) ∙ or_none (find_last p xs) ∙ rest

  pub last_through : (xs : List X) → find_last p xs ≡ find_last p (filter own xs)
  last_through [] = refl
  last_through (x ∷ xs) = last_by x xs (own x) refl (last_through xs)

-- tests that agree
module _ {X : Type 0} (p q : X → Bool) (same : (x : X) → p x ≡ q x) where
  pub any_alike : (xs : List X) → list_any p xs ≡ list_any q xs
  any_alike [] = refl
  any_alike (x ∷ xs) = ap (λ (b : Bool). b || list_any p xs) (same x) ∙ ap (λ (b : Bool). q x || b) (any_alike xs)

  pub filter_alike : (xs : List X) → filter p xs ≡ filter q xs
  filter_alike [] = refl
  filter_alike (x ∷ xs) =
      ap (λ (b : Bool). cond b (x ∷ filter p xs) (filter p xs)) (same x) ∙ ap (λ (l : List X). cond (q x) (x ∷ l) l) (filter_alike xs)

-- and of two lists with the same of them
module _ {X : Type 0} (own p q : X → Bool) (restricted_p : (x : X) → own x ≡ false → p x ≡ false) (restricted_q : (x : X) → own x ≡ false → q x ≡ false)
    (agree : (x : X) → own x ≡ true → p x ≡ q x) (xs ys : List X) (same : filter own ys ≡ filter own xs) where
  each_by : (x : X) (b : Bool) → own x ≡ b → p x ≡ q x
  each_by x true e = agree x e
  each_by x false e = restricted_p x e ∙ sym (restricted_q x e)

  each : (x : X) → p x ≡ q x
  each x = each_by x (own x) refl

  pub any_apart : list_any p ys ≡ list_any q xs
  any_apart = any_through own p restricted_p ys ∙ ap (list_any p) same ∙ sym (any_through own p restricted_p xs) ∙ any_alike p q each xs

  pub filter_apart : filter p ys ≡ filter q xs
  filter_apart = filter_through own p restricted_p ys ∙ ap (filter p) same ∙ sym (filter_through own p restricted_p xs) ∙ filter_alike p q each xs

module _ {X : Type 0} (own p : X → Bool) (restricted : (x : X) → own x ≡ false → p x ≡ false) (xs ys : List X) (same : filter own ys ≡ filter own xs) where
  pub count_apart : count_by p ys ≡ count_by p xs
  count_apart = count_through own p restricted ys ∙ ap (count_by p) same ∙ sym (count_through own p restricted xs)

  pub last_apart : find_last p ys ≡ find_last p xs
  last_apart = last_through own p restricted ys ∙ ap (find_last p) same ∙ sym (last_through own p restricted xs)

-- one that does not pass is changed to one that does not
pub filter_set : {X : Type 0} (own : X → Bool) (xs : List X) (i : ℕ) (a z : X) → slice_get xs i ≡ Some a → own a ≡ false → own z ≡ false
    → filter own (slice_set xs i z) ≡ filter own xs
filter_set own [] i a z got e f = refl
filter_set own (x ∷ xs) zero a z got e f =
    let one : x ≡ a = (cc) in
    ap (λ (b : Bool). cond b (z ∷ filter own xs) (filter own xs)) f ∙ sym (ap (λ (b : Bool). cond b (x ∷ filter own xs) (filter own xs)) (ap own one ∙ e))
filter_set own (x ∷ xs) (suc i) a z got e f = ap (λ (l : List _). cond (own x) (x ∷ l) l) (filter_set own xs i a z got e f)

pub holds_left : {X : Type 0} (p q : X → Bool) (o : Option X) → ((x : X) → q x ≡ true → p x ≡ true) → holds q o ≡ true → holds p o ≡ true
holds_left p q None wide e = absurd (cc)
holds_left p q (Some x) wide e = wide x e
