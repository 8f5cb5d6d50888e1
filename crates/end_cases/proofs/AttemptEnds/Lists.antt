-- One of a list that is mapped, and the one that passes a test where no other does.
use Rattle.std.proofs.Common.{◌≡◌, ◌≤◌, ◌==◌, ◌||◌, ◌+◌, ◌++◌, ◌∷◌, ap, arith, refl, sym, ◌∙◌, Bool, true, false, List, [], Option, None, Some, ℕ, zero, suc, cond, find, if◌then◌else◌, length, map, option_map, slice_get}
use Rattle.std.proofs.lemmas.Bool.Decides.{nat_tests}
use Rattle.std.proofs.lemmas.List.Folds.{list_any-append}
use Rattle.std.proofs.lemmas.Option.{slice_get-map}
use Rattle.std.specs.List.{list_any}
use Rattle.std.specs.Option.{option_or}
use Rattle.std.specs.Prelude.{slice_set}
use Rattle.session_actions.specs.Words.{changed, changed_if, find_last, numbered}

pub record IsFrom {X : Type 0} (f : X → X) (xs : List X) (i : ℕ) (y : X) : Type 0 where
  pub one : X
  pub there : slice_get xs i ≡ Some one
  pub is : y ≡ f one

from_by : {X : Type 0} (f : X → X) (xs : List X) (i : ℕ) (y : X) (r : Option X) → slice_get xs i ≡ r → option_map f r ≡ Some y → IsFrom f xs i y
from_by f xs i y None at e = absurd (cc)
from_by f xs i y (Some x) at e = record { one = x; there = at; is = (let same : y ≡ f x = (cc) in same) }

pub from_map : {X : Type 0} (f : X → X) (xs : List X) (i : ℕ) (y : X) → slice_get (map f xs) i ≡ Some y → IsFrom f xs i y
from_map f xs i y e = from_by f xs i y (slice_get xs i) refl (sym (slice_get-map f xs i) ∙ e)

-- the one that passes a test is found
pub next_apart : (j i : ℕ) → (j == i) ≡ false → (suc j == suc i) ≡ false
next_apart j i e = grind (arith, nat_tests, e)

pub find_one : {X : Type 0} (p : X → Bool) (xs : List X) (i : ℕ) (g : X) → slice_get xs i ≡ Some g → p g ≡ true → ((j : ℕ) (h : X) → slice_get xs j ≡ Some h → (j == i) ≡ false → p h ≡ false)
    → find p xs ≡ Some g
find_one p [] i g at pass others = absurd (cc)
find_one p (x ∷ xs) zero g at pass others =
    let same : x ≡ g = (cc) in ap (λ (b : Bool). cond b (Some x) (find p xs)) (ap p same ∙ pass) ∙ ap (λ (q : _). Some q) same
find_one p (x ∷ xs) (suc i) g at pass others =
    ap (λ (b : Bool). cond b (Some x) (find p xs)) (others zero x refl (let off : (0 == suc i) ≡ false = grind (arith, nat_tests) in off))
    ∙ find_one p xs i g at pass (λ j h there off. others (suc j) h there (next_apart j i off))

-- one more that does not pass
or_none : (b : Bool) → (b || false) ≡ b
or_none true = refl
or_none false = refl

pub any_more : {X : Type 0} (test : X → Bool) (xs : List X) (x : X) → test x ≡ false → list_any test (xs ++ x ∷ []) ≡ list_any test xs
any_more test xs x e =
    list_any-append test xs (x ∷ []) ∙ ap (λ (b : Bool). list_any test xs || (b || false)) e ∙ or_none (list_any test xs)

-- the last one, and those before it
pub snoc_by : {X : Type 0} (xs : List X) (x : X) (i : ℕ) (y : X) → slice_get (xs ++ x ∷ []) i ≡ Some y → (R : Type 0) → (slice_get xs i ≡ Some y → R) → (x ≡ y → R) → R
snoc_by [] x zero y at R old new = new (let same : x ≡ y = (cc) in same)
snoc_by [] x (suc i) y at R old new = absurd (cc)
snoc_by (z ∷ xs) x zero y at R old new = old at
snoc_by (z ∷ xs) x (suc i) y at R old new = snoc_by xs x i y at R old new

pub within : {X : Type 0} (xs : List X) (m : ℕ) (y : X) → numbered xs m ≡ Some y → m ≤ length xs
within xs zero y at = (let e : 0 ≤ length xs = omega arith in e)
within xs (suc i) y at = below xs i y at
  where
    below : {X : Type 0} (xs : List X) (i : ℕ) (y : X) → slice_get xs i ≡ Some y → suc i ≤ length xs
    below [] i y at = absurd (cc)
    below (z ∷ xs) zero y at = (let e : 1 ≤ suc (length xs) = omega arith in e)
    below (z ∷ xs) (suc i) y at = let less : suc i ≤ length xs = below xs i y at in (let e : suc (suc i) ≤ suc (length xs) = omega (arith, less) in e)

-- a test that the last one passes
pub last_found : {X : Type 0} (test : X → Bool) (xs : List X) (x : X) → test x ≡ true → find_last test (xs ++ x ∷ []) ≡ Some x
last_found test [] x e = ap (λ (b : Bool). if b then Some x else None) e
last_found test (y ∷ xs) x e = ap (λ (o : Option _). option_or o (if test y then Some y else None)) (last_found test xs x e)

pub any_last : {X : Type 0} (test : X → Bool) (xs : List X) (x : X) → test x ≡ true → list_any test (xs ++ x ∷ []) ≡ true
any_last test xs x e = list_any-append test xs (x ∷ []) ∙ ap (λ (b : Bool). list_any test xs || (b || false)) e ∙ or_true (list_any test xs)
  where
    or_true : (b : Bool) → (b || true) ≡ true
    or_true true = refl
    or_true false = refl

-- the last one is changed
set_last : {X : Type 0} (xs : List X) (x y : X) → slice_set (xs ++ x ∷ []) (length xs) y ≡ xs ++ y ∷ []
set_last [] x y = refl
set_last (z ∷ xs) x y = ap (λ (l : List _). z ∷ l) (set_last xs x y)

get_last : {X : Type 0} (xs : List X) (x : X) → slice_get (xs ++ x ∷ []) (length xs) ≡ Some x
get_last [] x = refl
get_last (z ∷ xs) x = get_last xs x

pub changed_last : {X : Type 0} (f : X → X) (xs : List X) (x : X) → changed f (length xs + 1) (xs ++ x ∷ []) ≡ xs ++ f x ∷ []
changed_last f xs x =
    let up : length xs + 1 ≡ suc (length xs) = omega arith in
    ap (λ (m : ℕ). changed f m (xs ++ x ∷ [])) up ∙ ap (λ (o : Option _). changed_if f (suc (length xs)) (xs ++ x ∷ []) o) (get_last xs x) ∙ set_last xs x (f x)
