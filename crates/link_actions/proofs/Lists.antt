-- Lists and tests.
use Rattle.std.proofs.Common.{◌≡◌, ◌∷◌, ◌++◌, ◌||◌, ap, refl, sym, ◌∙◌, Bool, true, false, List, [], Option, None, Some, ℕ, suc, if◌then◌else◌, filter, length, slice_get}
use Rattle.std.specs.List.{list_any}
use Rattle.std.specs.Option.{option_or}
use Rattle.std.specs.Prelude.{cond}
use Rattle.session_actions.specs.Words.{find_last, last_of, numbered}

-- by the value of a test
pub on_if : {X : Type 0} (P : X → Type 0) (b : Bool) (x y : X) → (b ≡ true → P x) → (b ≡ false → P y) → P (if b then x else y)
on_if P true x y t u = t refl
on_if P false x y t u = u refl

pub if_true : {X : Type 0} (b : Bool) (x y : X) → b ≡ true → (if b then x else y) ≡ x
if_true true x y e = refl
if_true false x y e = absurd (cc)

pub if_false : {X : Type 0} (b : Bool) (x y : X) → b ≡ false → (if b then x else y) ≡ y
if_false false x y e = refl
if_false true x y e = absurd (cc)

pub or_none : (a : Bool) → (a || false) ≡ a
or_none true = refl
or_none false = refl

pub or_swapped : (a b c : Bool) → (a || (b || c)) ≡ (b || (a || c))
or_swapped true true c = refl
or_swapped true false c = refl
or_swapped false true c = refl
or_swapped false false c = refl

-- the last one of a list
at_end : {X : Type 0} (xs : List X) (x : X) → slice_get (xs ++ x ∷ []) (length xs) ≡ Some x
at_end [] x = refl
at_end (y ∷ xs) x = at_end xs x

one_longer : {X : Type 0} (xs : List X) (x : X) → length (xs ++ x ∷ []) ≡ suc (length xs)
one_longer [] x = refl
one_longer (y ∷ xs) x = ap suc (one_longer xs x)

pub last_is : {X : Type 0} (xs : List X) (x : X) → last_of (xs ++ x ∷ []) ≡ Some x
last_is xs x = ap (λ (n : ℕ). numbered (xs ++ x ∷ []) n) (one_longer xs x) ∙ at_end xs x

-- the last one that passes a test
or_assoc : {X : Type 0} (a b c : Option X) → option_or a (option_or b c) ≡ option_or (option_or a b) c
or_assoc None b c = refl
or_assoc (Some x) b c = refl

or_none_left : {X : Type 0} (a : Option X) → option_or a None ≡ a
or_none_left None = refl
or_none_left (Some x) = refl

pub find_last-append : {X : Type 0} (p : X → Bool) (xs ys : List X) → find_last p (xs ++ ys) ≡ option_or (find_last p ys) (find_last p xs)
find_last-append p [] ys = sym (or_none_left (find_last p ys))
find_last-append p (x ∷ xs) ys =
    ap (λ o. option_or o (if p x then Some x else None)) (find_last-append p xs ys)
    ∙ sym (or_assoc (find_last p ys) (find_last p xs) (if p x then Some x else None))

-- a test that only those pass which are kept
any_kept_by : {X : Type 0} (p : X → Bool) (b : Bool) (x : X) (xs kept : List X) → (b ≡ false → p x ≡ false) → list_any p xs ≡ list_any p kept
    → (p x || list_any p xs) ≡ list_any p (cond b (x ∷ kept) kept)
any_kept_by p true x xs kept off e = ap (λ (c : Bool). p x || c) e
any_kept_by p false x xs kept off e = ap (λ (c : Bool). c || list_any p xs) (off refl) ∙ e

pub any_kept : {X : Type 0} (p q : X → Bool) → ((x : X) → q x ≡ false → p x ≡ false) → (xs : List X)
    → list_any p xs ≡ list_any p (filter q xs)
any_kept p q off [] = refl
any_kept p q off (x ∷ xs) = any_kept_by p (q x) x xs (filter q xs) (off x) (any_kept p q off xs)

-- tests that agree
pub any_agree : {X : Type 0} (p q : X → Bool) → ((x : X) → p x ≡ q x) → (xs : List X) → list_any p xs ≡ list_any q xs
any_agree p q same [] = refl
any_agree p q same (x ∷ xs) = ap (λ (b : Bool). b || list_any p xs) (same x) ∙ ap (λ (b : Bool). q x || b) (any_agree p q same xs)

pub none_of : (a b : Bool) → (a || b) ≡ false → (a ≡ false) × (b ≡ false)
none_of false b e = (refl, e)
none_of true b e = absurd (cc)

pub both_if : {X Y : Type 0} (P : X → Y → Type 0) (b : Bool) (x y : X) (u v : Y) → (b ≡ true → P x u) → (b ≡ false → P y v)
    → P (if b then x else y) (if b then u else v)
both_if P true x y u v t o = t refl
both_if P false x y u v t o = o refl
