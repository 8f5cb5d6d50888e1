-- Lists of which none passes a test, values that may not be there, and lists of which one thing was changed.
use Rattle.std.proofs.Common.{◌≡◌, ◌∷◌, ◌||◌, ◌&&◌, ap, refl, ◌∙◌, Bool, true, false, List, [], Option, None, Some, cond, filter, if◌then◌else◌, is_some, slice_get, suc, zero, ℕ}
use Rattle.std.specs.List.{list_any}
use Rattle.std.specs.Option.{option_and_then, option_map, option_or}
use Rattle.std.specs.Prelude.{find}
use Rattle.session_actions.specs.Words.{earlier, first_of, foremost, holds, numbered}

-- whether there is something
pub some_map : {X Y : Type 0} (f : X → Y) (o : Option X) → is_some (option_map f o) ≡ is_some o
some_map f None = refl
some_map f (Some x) = refl

pub some_or : {X : Type 0} (o p : Option X) → is_some (option_or o p) ≡ (is_some o || is_some p)
some_or None p = refl
some_or (Some x) p = refl

pub some_one : {X : Type 0} (b : Bool) (x : X) → is_some (if b then Some x else None) ≡ b
some_one true x = refl
some_one false x = refl

pub some_two : {X : Type 0} (b c : Bool) (x y : X) → is_some (if b then Some x else if c then Some y else None) ≡ (b || c)
some_two true c x y = refl
some_two false c x y = some_one c y

pub some_then : {X Y : Type 0} (g : X → Option Y) (test : X → Bool) → ((x : X) → is_some (g x) ≡ test x) → (o : Option X)
    → is_some (option_and_then g o) ≡ holds test o
some_then g test same None = refl
some_then g test same (Some x) = same x

some_cond : {X : Type 0} (b : Bool) (x : X) (o : Option X) (rest : Bool) → is_some o ≡ rest → is_some (cond b (Some x) o) ≡ (b || rest)
some_cond true x o rest e = refl
some_cond false x o rest e = e

pub some_find : {X : Type 0} (test : X → Bool) (xs : List X) → is_some (find test xs) ≡ list_any test xs
some_find test [] = refl
some_find test (x ∷ xs) = some_cond (test x) x (find test xs) (list_any test xs) (some_find test xs)

pub some_first : {X Y : Type 0} (g : X → Option Y) (test : X → Bool) → ((x : X) → is_some (g x) ≡ test x) → (xs : List X)
    → is_some (first_of g xs) ≡ list_any test xs
some_first g test same [] = refl
some_first g test same (x ∷ xs) =
    some_or (g x) (first_of g xs) ∙ ap (λ (b : Bool). b || is_some (first_of g xs)) (same x) ∙ ap (λ (b : Bool). test x || b) (some_first g test same xs)

some_kept : {X : Type 0} (before : X → X → Bool) (b : Bool) (x : X) (ys : List X) (rest : Bool) → is_some (foremost before ys) ≡ rest
    → is_some (foremost before (cond b (x ∷ ys) ys)) ≡ (b || rest)
some_kept before true x ys rest e = refl
some_kept before false x ys rest e = e

pub some_foremost : {X : Type 0} (before : X → X → Bool) (test : X → Bool) (xs : List X) → is_some (foremost before (filter test xs)) ≡ list_any test xs
some_foremost before test [] = refl
some_foremost before test (x ∷ xs) = some_kept before (test x) x (filter test xs) (list_any test xs) (some_foremost before test xs)

-- the foremost one of those that pass a test passes it
one_of : {X : Type 0} (test : X → Bool) (b : Bool) (x y : X) → test x ≡ true → test y ≡ true → test (if b then y else x) ≡ true
one_of test true x y e f = f
one_of test false x y e f = e

earlier_passes : {X : Type 0} (before : X → X → Bool) (test : X → Bool) (x : X) (o : Option X) → test x ≡ true → holds test o ≡ is_some o
    → test (earlier before x o) ≡ true
earlier_passes before test x None e h = e
earlier_passes before test x (Some y) e h = one_of test (before y x) x y e h

passes_by : {X : Type 0} (before : X → X → Bool) (test : X → Bool) (b : Bool) (x : X) (ys : List X) → test x ≡ b
    → holds test (foremost before ys) ≡ is_some (foremost before ys)
    → holds test (foremost before (cond b (x ∷ ys) ys)) ≡ is_some (foremost before (cond b (x ∷ ys) ys))
passes_by before test true x ys e h = earlier_passes before test x (foremost before ys) e h
passes_by before test false x ys e h = h

pub foremost_passes : {X : Type 0} (before : X → X → Bool) (test : X → Bool) (xs : List X)
    → holds test (foremost before (filter test xs)) ≡ is_some (foremost before (filter test xs))
foremost_passes before test [] = refl
foremost_passes before test (x ∷ xs) = passes_by before test (test x) x (filter test xs) refl (foremost_passes before test xs)

-- nothing
pub none_is : {X : Type 0} (o : Option X) → is_some o ≡ false → o ≡ None
none_is None e = refl
none_is (Some x) e = absurd (cc)

pub is_nothing : {X : Type 0} (o : Option X) → o ≡ None → is_some o ≡ false
is_nothing o e = ap is_some e

pub or_none : {X : Type 0} (o p : Option X) → option_or o p ≡ None → (o ≡ None) × (p ≡ None)
or_none None p e = (refl, e)
or_none (Some x) p e = absurd (cc)

pub none_or : {X : Type 0} (o p : Option X) → o ≡ None → p ≡ None → option_or o p ≡ None
none_or None p e f = f
none_or (Some x) p e f = absurd (cc)

pub or_nothing : {X : Type 0} (o : Option X) → option_or o None ≡ o
or_nothing None = refl
or_nothing (Some x) = refl

-- tests that agree
pub any_same : {X : Type 0} (test old : X → Bool) → ((x : X) → test x ≡ old x) → (xs : List X) → list_any test xs ≡ list_any old xs
any_same test old same [] = refl
any_same test old same (x ∷ xs) =
    ap (λ (b : Bool). b || list_any test xs) (same x) ∙ ap (λ (b : Bool). old x || b) (any_same test old same xs)

pub holds_same : {X : Type 0} (p q : X → Bool) → ((x : X) → p x ≡ q x) → (o : Option X) → holds p o ≡ holds q o
holds_same p q same None = refl
holds_same p q same (Some x) = same x

any_at : {X : Type 0} (test old : X → Bool) (xs : List X) → ((i : ℕ) (x : X) → slice_get xs i ≡ Some x → test x ≡ old x)
    → list_any test xs ≡ list_any old xs
any_at test old [] same = refl
any_at test old (x ∷ xs) same =
    ap (λ (b : Bool). b || list_any test xs) (same zero x refl) ∙ ap (λ (b : Bool). old x || b) (any_at test old xs (λ i y e. same (suc i) y e))

pub any_in : {X : Type 0} (test old : X → Bool) (xs : List X) → ((k : ℕ) (x : X) → numbered xs k ≡ Some x → test x ≡ old x)
    → list_any test xs ≡ list_any old xs
any_in test old xs same = any_at test old xs (λ i x e. same (suc i) x e)
