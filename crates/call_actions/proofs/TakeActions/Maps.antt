-- Lists of which each element was changed in a way that tests do not see.
use Rattle.std.proofs.Common.{◌≡◌, ◌+◌, ◌∷◌, ◌++◌, ◌||◌, ap, refl, ◌∙◌, Bool, true, false, List, [], Option, None, Some, ℕ, zero, suc, cond, filter, fold, map}
use Rattle.std.proofs.lemmas.Option.{slice_get-map}
use Rattle.std.specs.List.{AllByRecursion, list_any}
use Rattle.std.specs.Option.{option_map, option_map_or, option_or}
use Rattle.std.specs.Prelude.{count_by}
use Rattle.session_actions.specs.Words.{first_of, holds, numbered}

pub numbered_each : {X Y : Type 0} (f : X → Y) (xs : List X) (n : ℕ) → numbered (map f xs) n ≡ option_map f (numbered xs n)
numbered_each f xs zero = refl
numbered_each f xs (suc i) = slice_get-map f xs i

pub map_map : {X Y Z : Type 0} (f : X → Y) (g : Y → Z) (xs : List X) → map g (map f xs) ≡ map (λ x. g (f x)) xs
map_map f g [] = refl
map_map f g (x ∷ xs) = ap (λ (l : List _). g (f x) ∷ l) (map_map f g xs)

pub count_from : {X Y : Type 0} (test : Y → Bool) (old : X → Bool) (f : X → Y) → ((x : X) → test (f x) ≡ old x) → (k : ℕ) (xs : List X)
    → fold (λ n y. n + cond (test y) 1 0) k (map f xs) ≡ fold (λ n x. n + cond (old x) 1 0) k xs
count_from test old f same k [] = refl
count_from test old f same k (x ∷ xs) =
    ap (λ (b : Bool). fold (λ n y. n + cond (test y) 1 0) (k + cond b 1 0) (map f xs)) (same x) ∙ count_from test old f same (k + cond (old x) 1 0) xs

pub count_map : {X Y : Type 0} (test : Y → Bool) (old : X → Bool) (f : X → Y) → ((x : X) → test (f x) ≡ old x) → (xs : List X) → count_by test (map f xs) ≡ count_by old xs
count_map test old f same xs = count_from test old f same 0 xs

pub any_map : {X Y : Type 0} (test : Y → Bool) (old : X → Bool) (f : X → Y) → ((x : X) → test (f x) ≡ old x) → (xs : List X) → list_any test (map f xs) ≡ list_any old xs
any_map test old f same [] = refl
any_map test old f same (x ∷ xs) =
    ap (λ (b : Bool). b || list_any test (map f xs)) (same x) ∙ ap (λ (b : Bool). old x || b) (any_map test old f same xs)

pub any_same : {X : Type 0} (test old : X → Bool) → ((x : X) → test x ≡ old x) → (xs : List X) → list_any test xs ≡ list_any old xs
any_same test old same [] = refl
any_same test old same (x ∷ xs) = ap (λ (b : Bool). b || list_any test xs) (same x) ∙ ap (λ (b : Bool). old x || b) (any_same test old same xs)

-- what is kept of the ones that pass
pub kept_if : {X Y Z : Type 0} (f : X → Y) (g : Y → Z) (x : X) (b : Bool) (l : List Y) (l2 : List X) → map g l ≡ map (λ x. g (f x)) l2
    → map g (cond b (f x ∷ l) l) ≡ map (λ x. g (f x)) (cond b (x ∷ l2) l2)
kept_if f g x true l l2 e = ap (λ (z : List _). g (f x) ∷ z) e
kept_if f g x false l l2 e = e

pub kept_map : {X Y Z : Type 0} (test : Y → Bool) (old : X → Bool) (f : X → Y) (g : Y → Z) → (xs : List X) → AllByRecursion (λ (x : X). test (f x) ≡ old x) xs
    → map g (filter test (map f xs)) ≡ map (λ x. g (f x)) (filter old xs)
kept_map test old f g [] same = refl
kept_map test old f g (x ∷ xs) same =
    ap (λ (b : Bool). map g (cond b (f x ∷ filter test (map f xs)) (filter test (map f xs)))) same.0
    ∙ kept_if f g x (old x) (filter test (map f xs)) (filter old xs) (kept_map test old f g xs same.1)

pub all_from : {X : Type 0} (P : X → Type 0) → ((x : X) → P x) → (xs : List X) → AllByRecursion P xs
all_from P each [] = tt
all_from P each (x ∷ xs) = (each x, all_from P each xs)

pub all_by : {X : Type 0} (P Q : X → Type 0) → ((x : X) → P x → Q x) → (xs : List X) → AllByRecursion P xs → AllByRecursion Q xs
all_by P Q turn [] h = tt
all_by P Q turn (x ∷ xs) h = (turn x h.0, all_by P Q turn xs h.1)

pub all_both : {X : Type 0} (P Q R : X → Type 0) → ((x : X) → P x → Q x → R x) → (xs : List X) → AllByRecursion P xs → AllByRecursion Q xs → AllByRecursion R xs
all_both P Q R turn [] h k = tt
all_both P Q R turn (x ∷ xs) h k = (turn x h.0 k.0, all_both P Q R turn xs h.1 k.1)

-- a test of what may not be there
pub holds_map : {X Y : Type 0} (test : Y → Bool) (f : X → Y) (o : Option X) → holds (λ (x : X). test (f x)) o ≡ holds test (option_map f o)
holds_map test f None = refl
holds_map test f (Some x) = refl

pub holds_or : {X : Type 0} (test : X → Bool) (o : Option X) → holds test o ≡ option_map_or test o false
holds_or test None = refl
holds_or test (Some x) = refl

pub holds_same : {X : Type 0} (p q : X → Bool) → ((x : X) → p x ≡ q x) → (o : Option X) → holds p o ≡ holds q o
holds_same p q same None = refl
holds_same p q same (Some x) = same x

-- the first that gives something, of two lists
pub or_both : {X : Type 0} (o p q : Option X) → option_or o (option_or p q) ≡ option_or (option_or o p) q
or_both None p q = refl
or_both (Some x) p q = refl

pub first_append : {X Y : Type 0} (f : X → Option Y) (xs ys : List X) → first_of f (xs ++ ys) ≡ option_or (first_of f xs) (first_of f ys)
first_append f [] ys = refl
first_append f (x ∷ xs) ys = ap (option_or (f x)) (first_append f xs ys) ∙ or_both (f x) (first_of f xs) (first_of f ys)
