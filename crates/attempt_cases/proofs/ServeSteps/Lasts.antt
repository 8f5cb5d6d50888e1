-- The last of a list that passes a test; each of a list at its place; and tests.
use Rattle.std.proofs.Common.{◌≡◌, ◌⊎◌, ◌+◌, ◌<◌, ◌≤◌, ◌||◌, ◌∷◌, ◌∙◌, not, ap, arith, inl, inr, refl, sym, Bool, true, false, List, [], Option, None, Some, ℕ, zero, suc, cond, filter, if◌then◌else◌, is_none, is_some, map, nat_lt, slice_get}
use Rattle.std.proofs.lemmas.Bool.Decides.{nat_tests}
use Rattle.std.specs.List.{AllByRecursion, list_any}
use Rattle.std.specs.Option.{option_or}
use Rattle.call_actions.specs.Order.{AttemptsAreNumbered}
use Rattle.session_actions.specs.Words.{find_last}
use Rattle.session_actions.specs.declared.attempt.Attempt.{Attempt}

-- tests
pub none_of : {X : Type 0} (o : Option X) → is_none o ≡ true → o ≡ None
none_of None e = refl
none_of (Some x) e = absurd (let bad : false ≡ true = e in (cc))

pub unsome : {X : Type 0} (o : Option X) → is_some o ≡ false → o ≡ None
unsome None e = refl
unsome (Some x) e = absurd (let bad : true ≡ false = e in (cc))

pub not_true : (b : Bool) → not b ≡ true → b ≡ false
not_true true e = absurd (let bad : false ≡ true = e in (cc))
not_true false e = refl

pub not_false : (b : Bool) → not b ≡ false → b ≡ true
not_false true e = refl
not_false false e = absurd (let bad : true ≡ false = e in (cc))

or_true : (a b : Bool) → b ≡ true → (a || b) ≡ true
or_true true b e = refl
or_true false b e = e

pub same_some : {X : Type 0} (x y : X) (o : Option X) → o ≡ Some x → o ≡ Some y → x ≡ y
same_some x y o e f = (cc)

-- the last that passes: one of the list that does, and none after it does
pub record IsLast (p : Attempt → Bool) (xs : List Attempt) (k : Attempt) : Type 0 where
  pub index : ℕ
  pub here : slice_get xs index ≡ Some k
  pub passes : p k ≡ true
  pub last : (i : ℕ) (a : Attempt) → slice_get xs i ≡ Some a → p a ≡ true → i ≤ index

below_next : (y a : Attempt) (p : Attempt → Bool) (xs : List Attempt) (index i : ℕ) → ((j : ℕ) → slice_get xs j ≡ Some a → p a ≡ true → j ≤ index)
    → slice_get (y ∷ xs) i ≡ Some a → p a ≡ true → i ≤ suc index
below_next y a p xs index zero less at passes = omega arith
below_next y a p xs index (suc i) less at passes = let low : i ≤ index = less i at passes in omega (arith, low)

first_only : (y a : Attempt) (p : Attempt → Bool) (xs : List Attempt) (i : ℕ) → ((j : ℕ) → slice_get xs j ≡ Some a → p a ≡ false) → slice_get (y ∷ xs) i ≡ Some a → p a ≡ true
    → i ≤ 0
first_only y a p xs zero none at passes = omega arith
first_only y a p xs (suc i) none at passes = absurd (let bad : false ≡ true = sym (none i at) ∙ passes in (cc))

last_by : (p : Attempt → Bool) (y k : Attempt) (xs : List Attempt) (b : Bool) (o : Option Attempt) → p y ≡ b → option_or o (if b then Some y else None) ≡ Some k
    → ((j : Attempt) → o ≡ Some j → IsLast p xs j) → (o ≡ None → (i : ℕ) (a : Attempt) → slice_get xs i ≡ Some a → p a ≡ false) → IsLast p (y ∷ xs) k
last_by p y k xs b (Some z) is e rest none =
    let one : z ≡ k = (cc) in
    let r : IsLast p xs z = rest z refl in
    record {
      index = suc r.index;
      here = r.here ∙ ap (λ (w : Attempt). Some w) one;
      passes = ap p (sym one) ∙ r.passes;
      last = λ i a at passes. below_next y a p xs r.index i (λ j got good. r.last j a got good) at passes;
    }
last_by p y k xs true None is e rest none =
    let one : y ≡ k = (cc) in
    record {
      index = 0;
      here = ap (λ (w : Attempt). Some w) one;
      passes = ap p (sym one) ∙ is;
      last = λ i a at passes. first_only y a p xs i (λ j got. none refl j a got) at passes;
    }
last_by p y k xs false None is e rest none = absurd (let bad : None ≡ Some k = e in (cc))

none_by : (p : Attempt → Bool) (y a : Attempt) (xs : List Attempt) (o : Option Attempt) (b : Bool) → p y ≡ b → option_or o (if b then Some y else None) ≡ None
    → (o ≡ None → (i : ℕ) → slice_get xs i ≡ Some a → p a ≡ false) → (j : ℕ) → slice_get (y ∷ xs) j ≡ Some a → p a ≡ false
none_by p y a xs (Some z) b is f rest j here = absurd (let bad : Some z ≡ None = f in (cc))
none_by p y a xs None true is f rest j here = absurd (let bad : Some y ≡ None = f in (cc))
none_by p y a xs None false is f rest zero here = let one : y ≡ a = (cc) in ap p (sym one) ∙ is
none_by p y a xs None false is f rest (suc j) here = rest refl j here

none_last : (p : Attempt → Bool) (xs : List Attempt) → find_last p xs ≡ None → (i : ℕ) (a : Attempt) → slice_get xs i ≡ Some a → p a ≡ false
none_last p [] e i a at = absurd (let bad : None ≡ Some a = at in (cc))
none_last p (y ∷ xs) e i a at = none_by p y a xs (find_last p xs) (p y) refl e (λ none j got. none_last p xs none j a got) i at

pub last_is : (p : Attempt → Bool) (xs : List Attempt) (k : Attempt) → find_last p xs ≡ Some k → IsLast p xs k
last_is p [] k e = absurd (let bad : None ≡ Some k = e in (cc))
last_is p (y ∷ xs) k e =
    last_by p y k xs (p y) (find_last p xs) refl e (λ j found. last_is p xs j found) (λ none i a at. none_last p xs none i a at)

-- one of a list passes a test, where the one at a place does
pub any_at : (p : Attempt → Bool) (xs : List Attempt) (i : ℕ) (a : Attempt) → slice_get xs i ≡ Some a → p a ≡ true → list_any p xs ≡ true
any_at p [] i a at e = absurd (let bad : None ≡ Some a = at in (cc))
any_at p (y ∷ xs) zero a at e = let one : y ≡ a = (cc) in ap (λ (z : Attempt). p z || list_any p xs) one ∙ ap (λ (b : Bool). b || list_any p xs) e
any_at p (y ∷ xs) (suc i) a at e = or_true (p y) (list_any p xs) (any_at p xs i a at e)

-- places
pub index_is : (xs : List Attempt) (n i : ℕ) (a : Attempt) → AttemptsAreNumbered (suc n) xs → slice_get xs i ≡ Some a → a.place ≡ suc n + i
index_is [] n i a places at = absurd (let bad : None ≡ Some a = at in (cc))
index_is (y ∷ xs) n zero a places at =
    let one : y ≡ a = (cc) in ap (λ (z : Attempt). z.place) (sym one) ∙ places.0 ∙ (let up : suc n ≡ suc n + 0 = omega arith in up)
index_is (y ∷ xs) n (suc i) a places at =
    index_is xs (suc n) i a places.1 at ∙ (let up : suc (suc n) + i ≡ suc n + suc i = omega arith in up)

pub lower : (k n : ℕ) → nat_lt k n ≡ true → k < n
lower k n e = grind (arith, nat_tests)

neither : (k n : ℕ) → nat_lt k n ≡ false → nat_lt n k ≡ false → k ≡ n
neither k n e f = grind (arith, nat_tests)

ways_by : (k n : ℕ) (b d : Bool) → nat_lt k n ≡ b → nat_lt n k ≡ d → (k ≡ n) ⊎ ((nat_lt k n ≡ true) ⊎ (nat_lt n k ≡ true))
ways_by k n true d e f = inr (inl e)
ways_by k n false true e f = inr (inr f)
ways_by k n false false e f = inl (neither k n e f)

pub three_ways : (k n : ℕ) → (k ≡ n) ⊎ ((nat_lt k n ≡ true) ⊎ (nat_lt n k ≡ true))
three_ways k n = ways_by k n (nat_lt k n) (nat_lt n k) refl refl

-- each of a list
all_by : (P : Attempt → Type 0) (x : Attempt) (xs : List Attempt) (b : Bool) → (b ≡ true → P x) → AllByRecursion P xs → AllByRecursion P (cond b (x ∷ xs) xs)
all_by P x xs true one rest = (one refl, rest)
all_by P x xs false one rest = rest

pub all_from : (P : Attempt → Type 0) (p : Attempt → Bool) (xs : List Attempt) → ((i : ℕ) (z : Attempt) → slice_get xs i ≡ Some z → p z ≡ true → P z) → AllByRecursion P (filter p xs)
all_from P p [] each = tt
all_from P p (x ∷ xs) each = all_by P x (filter p xs) (p x) (λ own. each 0 x refl own) (all_from P p xs (λ i z at own. each (suc i) z at own))

pub all_map : (P : Attempt → Type 0) (g : Attempt → Attempt) (xs : List Attempt) → AllByRecursion (λ (z : Attempt). P (g z)) xs → AllByRecursion P (map g xs)
all_map P g [] all = tt
all_map P g (x ∷ xs) all = (all.0, all_map P g xs all.1)
