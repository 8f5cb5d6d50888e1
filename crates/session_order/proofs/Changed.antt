-- Lists of which the thing of one number was changed.
use Rattle.std.proofs.Common.{◌≡◌, ◌∷◌, ◌++◌, ◌||◌, ◌==◌, ap, refl, subst, sym, ◌∙◌, Bool, true, false, List, [], Option, None, Some, ℕ, zero, suc, slice_get}
use Rattle.std.proofs.lemmas.Bool.{eqb-false, eqb-true, or_from, or_parts}
use Rattle.std.proofs.lemmas.List.Folds.{list_any-append}
use Rattle.std.specs.List.{list_any}
use Rattle.std.specs.Option.{option_map}
use Rattle.std.specs.Prelude.{slice_set}
use Rattle.session_actions.specs.Words.{changed, changed_if, numbered}

set_here : {X : Type 0} (xs : List X) (i : ℕ) (x z : X) → slice_get xs i ≡ Some x → slice_get (slice_set xs i z) i ≡ Some z
set_here [] i x z e = absurd (cc)
set_here (y ∷ xs) zero x z e = refl
set_here (y ∷ xs) (suc i) x z e = set_here xs i x z e

set_away : {X : Type 0} (xs : List X) (i j : ℕ) (z : X) → (j ≡ i → ⊥) → slice_get (slice_set xs i z) j ≡ slice_get xs j
set_away [] i j z away = refl
set_away (y ∷ xs) zero zero z away = absurd (away refl)
set_away (y ∷ xs) zero (suc j) z away = refl
set_away (y ∷ xs) (suc i) zero z away = refl
set_away (y ∷ xs) (suc i) (suc j) z away = set_away xs i j z (λ e. away (ap suc e))

pub changed_here : {X : Type 0} (f : X → X) (n : ℕ) (xs : List X) (x : X) → numbered xs n ≡ Some x → numbered (changed f n xs) n ≡ Some (f x)
changed_here f zero xs x e = absurd (cc)
changed_here f (suc i) xs x e = ap (λ (o : Option _). slice_get (changed_if f (suc i) xs o) i) e ∙ set_here xs i x (f x) e

away_by : {X : Type 0} (f : X → X) (i k : ℕ) (xs : List X) (o : Option X) → (k ≡ suc i → ⊥) → numbered (changed_if f (suc i) xs o) k ≡ numbered xs k
away_by f i k xs None away = refl
away_by f i zero xs (Some x) away = refl
away_by f i (suc j) xs (Some x) away = set_away xs i j (f x) (λ e. away (ap suc e))

pub changed_away : {X : Type 0} (f : X → X) (n k : ℕ) (xs : List X) → (k ≡ n → ⊥) → numbered (changed f n xs) k ≡ numbered xs k
changed_away f zero k xs away = refl
changed_away f (suc i) k xs away = away_by f i k xs (slice_get xs i) away

changed_by : {X : Type 0} (f : X → X) (n : ℕ) (xs : List X) (o : Option X) → numbered xs n ≡ o → numbered (changed f n xs) n ≡ option_map f o
changed_by f n xs None e = ap (λ (z : Option _). numbered (changed_if f n xs z) n) e ∙ e
changed_by f n xs (Some x) e = changed_here f n xs x e

pub changed_map : {X : Type 0} (f : X → X) (n : ℕ) (xs : List X) → numbered (changed f n xs) n ≡ option_map f (numbered xs n)
changed_map f n xs = changed_by f n xs (numbered xs n) refl

-- what does not see the change reads the same of each number
at_option : {X Y : Type 0} (h : Option X → Y) (f : X → X) → ((x : X) → h (Some (f x)) ≡ h (Some x)) → (o : Option X) → h (option_map f o) ≡ h o
at_option h f same None = refl
at_option h f same (Some x) = same x

lookup_by : {X Y : Type 0} (h : Option X → Y) (f : X → X) → ((x : X) → h (Some (f x)) ≡ h (Some x)) → (n : ℕ) (xs : List X) (k : ℕ) (b : Bool)
    → (k == n) ≡ b → h (numbered (changed f n xs) k) ≡ h (numbered xs k)
lookup_by h f same n xs k true e =
    let here : h (numbered (changed f n xs) n) ≡ h (numbered xs n) = ap h (changed_map f n xs) ∙ at_option h f same (numbered xs n) in
    subst (λ (j : ℕ). h (numbered (changed f n xs) j) ≡ h (numbered xs j)) (sym (eqb-true k n e)) here
lookup_by h f same n xs k false e = ap h (changed_away f n k xs (eqb-false k n e))

pub lookup : {X Y : Type 0} (h : Option X → Y) (f : X → X) → ((x : X) → h (Some (f x)) ≡ h (Some x)) → (n : ℕ) (xs : List X) (k : ℕ)
    → h (numbered (changed f n xs) k) ≡ h (numbered xs k)
lookup h f same n xs k = lookup_by h f same n xs k (k == n) refl

-- nor does a test of the whole list
any_set : {X : Type 0} (test : X → Bool) (xs : List X) (i : ℕ) (x y : X) → slice_get xs i ≡ Some x → test y ≡ test x
    → list_any test (slice_set xs i y) ≡ list_any test xs
any_set test [] i x y e same = refl
any_set test (z ∷ xs) zero x y e same =
    let one : x ≡ z = (cc) in ap (λ (b : Bool). b || list_any test xs) (same ∙ ap test one)
any_set test (z ∷ xs) (suc i) x y e same = ap (λ (b : Bool). test z || b) (any_set test xs i x y e same)

any_by : {X : Type 0} (test : X → Bool) (f : X → X) (i : ℕ) (xs : List X) (o : Option X) → slice_get xs i ≡ o → ((x : X) → o ≡ Some x → test (f x) ≡ test x)
    → list_any test (changed_if f (suc i) xs o) ≡ list_any test xs
any_by test f i xs None e same = refl
any_by test f i xs (Some x) e same = any_set test xs i x (f x) e (same x refl)

pub any_changed : {X : Type 0} (test : X → Bool) (f : X → X) → ((x : X) → test (f x) ≡ test x) → (n : ℕ) (xs : List X)
    → list_any test (changed f n xs) ≡ list_any test xs
any_changed test f same zero xs = refl
any_changed test f same (suc i) xs = any_by test f i xs (slice_get xs i) refl (λ x e. same x)

-- where none passes, and the one that is changed does not after it, none does after it
none_set : {X : Type 0} (test : X → Bool) (xs : List X) (i : ℕ) (y : X) → test y ≡ false → list_any test xs ≡ false → list_any test (slice_set xs i y) ≡ false
none_set test [] i y e none = refl
none_set test (z ∷ xs) zero y e none = or_from (test y) (list_any test xs) e (or_parts (test z) (list_any test xs) none).1
none_set test (z ∷ xs) (suc i) y e none =
    let parts : (test z ≡ false) × (list_any test xs ≡ false) = or_parts (test z) (list_any test xs) none in
    or_from (test z) (list_any test (slice_set xs i y)) parts.0 (none_set test xs i y e parts.1)

none_by : {X : Type 0} (test : X → Bool) (f : X → X) (i : ℕ) (xs : List X) (o : Option X) → slice_get xs i ≡ o → ((x : X) → o ≡ Some x → test (f x) ≡ false)
    → list_any test xs ≡ false → list_any test (changed_if f (suc i) xs o) ≡ false
none_by test f i xs None e never none = none
none_by test f i xs (Some x) e never none = none_set test xs i (f x) (never x refl) none

pub none_changed : {X : Type 0} (test : X → Bool) (f : X → X) (n : ℕ) (xs : List X) → ((x : X) → numbered xs n ≡ Some x → test (f x) ≡ false)
    → list_any test xs ≡ false → list_any test (changed f n xs) ≡ false
none_changed test f zero xs never none = none
none_changed test f (suc i) xs never none = none_by test f i xs (slice_get xs i) refl never none

-- one more
pub none_more : {X : Type 0} (test : X → Bool) (xs : List X) (x : X) → list_any test xs ≡ false → test x ≡ false → list_any test (xs ++ x ∷ []) ≡ false
none_more test xs x none e =
    list_any-append test xs (x ∷ []) ∙ or_from (list_any test xs) (test x || false) none (or_from (test x) false e refl)

-- by the number of each
passes_at : {X : Type 0} (test : X → Bool) (xs : List X) (i : ℕ) (x : X) → list_any test xs ≡ false → slice_get xs i ≡ Some x → test x ≡ false
passes_at test [] i x none e = absurd (cc)
passes_at test (y ∷ xs) zero x none e =
    let one : x ≡ y = (cc) in ap test one ∙ (or_parts (test y) (list_any test xs) none).0
passes_at test (y ∷ xs) (suc i) x none e = passes_at test xs i x (or_parts (test y) (list_any test xs) none).1 e

pub passes_not : {X : Type 0} (test : X → Bool) (xs : List X) (k : ℕ) (x : X) → list_any test xs ≡ false → numbered xs k ≡ Some x → test x ≡ false
passes_not test xs zero x none e = absurd (cc)
passes_not test xs (suc i) x none e = passes_at test xs i x none e

none_at : {X : Type 0} (test : X → Bool) (xs : List X) → ((i : ℕ) (x : X) → slice_get xs i ≡ Some x → test x ≡ false) → list_any test xs ≡ false
none_at test [] never = refl
none_at test (y ∷ xs) never = or_from (test y) (list_any test xs) (never zero y refl) (none_at test xs (λ i x e. never (suc i) x e))

pub none_from : {X : Type 0} (test : X → Bool) (xs : List X) → ((k : ℕ) (x : X) → numbered xs k ≡ Some x → test x ≡ false) → list_any test xs ≡ false
none_from test xs never = none_at test xs (λ i x e. never (suc i) x e)

-- the thing of a number is the changed one, or another one
here_by : {X : Type 0} (test : X → Bool) (f : X → X) (xs : List X) (n : ℕ) (y : X) (o : Option X) → numbered xs n ≡ o → option_map f o ≡ Some y
    → ((x : X) → numbered xs n ≡ Some x → test (f x) ≡ false) → test y ≡ false
here_by test f xs n y None e is here = absurd (cc)
here_by test f xs n y (Some x) e is here = let one : y ≡ f x = (cc) in ap test one ∙ here x e

each_by : {X : Type 0} (test : X → Bool) (f : X → X) (n : ℕ) (xs : List X) (k : ℕ) (y : X) (b : Bool) → (k == n) ≡ b
    → ((x : X) → numbered xs n ≡ Some x → test (f x) ≡ false) → ((x : X) → (k ≡ n → ⊥) → numbered xs k ≡ Some x → test x ≡ false)
    → numbered (changed f n xs) k ≡ Some y → test y ≡ false
each_by test f n xs k y true e here away is =
    let there : option_map f (numbered xs n) ≡ Some y
    = sym (changed_map f n xs) ∙ ap (numbered (changed f n xs)) (sym (eqb-true k n e)) ∙ is in
    here_by test f xs n y (numbered xs n) refl there here
each_by test f n xs k y false e here away is =
    away y (eqb-false k n e) (sym (changed_away f n k xs (eqb-false k n e)) ∙ is)

pub none_each_changed : {X : Type 0} (test : X → Bool) (f : X → X) (n : ℕ) (xs : List X) → ((x : X) → numbered xs n ≡ Some x → test (f x) ≡ false)
    → ((k : ℕ) (x : X) → (k ≡ n → ⊥) → numbered xs k ≡ Some x → test x ≡ false) → list_any test (changed f n xs) ≡ false
none_each_changed test f n xs here away =
    none_from test (changed f n xs) (λ k y is. each_by test f n xs k y (k == n) refl here (away k) is)

-- a test that agrees on the one that is changed
pub any_changed_at : {X : Type 0} (test : X → Bool) (f : X → X) (n : ℕ) (xs : List X) → ((x : X) → numbered xs n ≡ Some x → test (f x) ≡ test x)
    → list_any test (changed f n xs) ≡ list_any test xs
any_changed_at test f zero xs same = refl
any_changed_at test f (suc i) xs same = any_by test f i xs (slice_get xs i) refl same

-- changed twice
set_twice : {X : Type 0} (xs : List X) (i : ℕ) (y z : X) → slice_set (slice_set xs i y) i z ≡ slice_set xs i z
set_twice [] i y z = refl
set_twice (x ∷ xs) zero y z = refl
set_twice (x ∷ xs) (suc i) y z = ap (λ (l : List _). x ∷ l) (set_twice xs i y z)

twice_by : {X : Type 0} (f g : X → X) (n : ℕ) (xs : List X) (o : Option X) → numbered xs n ≡ o → changed g n (changed f n xs) ≡ changed (λ (x : X). g (f x)) n xs
twice_by f g n xs None e =
    ap (λ (z : Option _). changed g n (changed_if f n xs z)) e ∙ ap (changed_if g n xs) e ∙ sym (ap (changed_if (λ (x : _). g (f x)) n xs) e)
twice_by f g zero xs (Some x) e = absurd (cc)
twice_by f g (suc i) xs (Some x) e =
    ap (λ (z : Option _). changed g (suc i) (changed_if f (suc i) xs z)) e ∙ ap (changed_if g (suc i) (slice_set xs i (f x))) (set_here xs i x (f x) e)
    ∙ set_twice xs i (f x) (g (f x)) ∙ sym (ap (changed_if (λ (x : _). g (f x)) (suc i) xs) e)

pub changed_twice : {X : Type 0} (f g : X → X) (n : ℕ) (xs : List X) → changed g n (changed f n xs) ≡ changed (λ (x : X). g (f x)) n xs
changed_twice f g n xs = twice_by f g n xs (numbered xs n) refl
