-- Lists of attempts and marks, counted.
use Rattle.std.proofs.Common.{◌≡◌, ◌+◌, ◌∷◌, ◌++◌, ◌||◌, ◌⊎◌, inl, inr, ap, arith, refl, ◌∙◌, Bool, false, List, [], Option, None, Some, ℕ, zero, suc, length, map, slice_get}
use Rattle.std.proofs.lemmas.List.Sums.{fold-append}
use Rattle.std.specs.List.{count_by, fold, list_any}
use Rattle.std.specs.Prelude.{cond, slice_set, take}
use Rattle.session_actions.specs.Words.{changed, changed_if}

-- a key that a change leaves as it was
map_set : {X Y : Type 0} (key : X → Y) (xs : List X) (i : ℕ) (x y : X) → slice_get xs i ≡ Some x → key y ≡ key x → map key (slice_set xs i y) ≡ map key xs
map_set key [] i x y e same = refl
map_set key (z ∷ xs) zero x y e same = (let one : x ≡ z = (cc) in ap (λ (k : _). k ∷ map key xs) (same ∙ ap key one))
map_set key (z ∷ xs) (suc i) x y e same = ap (λ (ks : List _). key z ∷ ks) (map_set key xs i x y e same)

map_by : {X Y : Type 0} (key : X → Y) (f : X → X) → ((x : X) → key (f x) ≡ key x) → (i : ℕ) (xs : List X) (o : Option X) → slice_get xs i ≡ o
    → map key (changed_if f (suc i) xs o) ≡ map key xs
map_by key f same i xs None e = refl
map_by key f same i xs (Some x) e = map_set key xs i x (f x) e (same x)

pub map_changed : {X Y : Type 0} (key : X → Y) (f : X → X) → ((x : X) → key (f x) ≡ key x) → (n : ℕ) (xs : List X)
    → map key (changed f n xs) ≡ map key xs
map_changed key f same zero xs = refl
map_changed key f same (suc i) xs = map_by key f same i xs (slice_get xs i) refl

pub map_more : {X Y : Type 0} (key : X → Y) (xs : List X) (x : X) → map key (xs ++ x ∷ []) ≡ map key xs ++ key x ∷ []
map_more key [] x = refl
map_more key (z ∷ xs) x = ap (λ (ks : List _). key z ∷ ks) (map_more key xs x)

-- counts
abbrev pub one_if : Bool → ℕ
one_if b = cond b 1 0

map_from : {X Y : Type 0} (p : Y → Bool) (key : X → Y) (xs : List X) (n : ℕ)
    → fold (λ (m : ℕ) (x : X). m + one_if (p (key x))) n xs ≡ fold (λ (m : ℕ) (y : Y). m + one_if (p y)) n (map key xs)
map_from p key [] n = refl
map_from p key (x ∷ xs) n = map_from p key xs (n + one_if (p (key x)))

pub count_map : {X Y : Type 0} (p : Y → Bool) (key : X → Y) (xs : List X) → count_by (λ (x : X). p (key x)) xs ≡ count_by p (map key xs)
count_map p key xs = map_from p key xs 0

pub count_more : {X : Type 0} (p : X → Bool) (xs : List X) (x : X) → count_by p (xs ++ x ∷ []) ≡ count_by p xs + one_if (p x)
count_more {X = X} p xs x = fold-append (λ (m : ℕ) (y : X). m + one_if (p y)) 0 xs (x ∷ [])

-- no mark more that passes
pub any_unmarked : {X : Type 0} (p : X → Bool) (xs : List X) (x : X) → p x ≡ false → list_any p (xs ++ x ∷ []) ≡ list_any p xs
any_unmarked p [] x e = ap (λ (b : Bool). b || false) e
any_unmarked p (z ∷ xs) x e = ap (λ (b : Bool). p z || b) (any_unmarked p xs x e)

-- one more at the end
pub past : {X : Type 0} (xs : List X) (x y : X) (i : ℕ) → slice_get (xs ++ x ∷ []) i ≡ Some y → (slice_get xs i ≡ Some y) ⊎ ((i ≡ length xs) × (x ≡ y))
past [] x y zero e = inr (refl, (cc))
past [] x y (suc i) e = absurd (cc)
past (z ∷ xs) x y zero e = inl e
past (z ∷ xs) x y (suc i) e =
    elim (past xs x y i e) as (λ q. (slice_get xs i ≡ Some y) ⊎ ((suc i ≡ length (z ∷ xs)) × (x ≡ y)))
    [ inl p ↦ inl p | inr p ↦ inr ((let there : i ≡ length xs = p.0 in omega (arith, there)), p.1) ]

pub kept : {X : Type 0} (xs : List X) (x y : X) (i : ℕ) → slice_get xs i ≡ Some y → slice_get (xs ++ x ∷ []) i ≡ Some y
kept [] x y i e = absurd (cc)
kept (z ∷ xs) x y zero e = e
kept (z ∷ xs) x y (suc i) e = kept xs x y i e

pub take_kept : {X : Type 0} (xs : List X) (x y : X) (i : ℕ) → slice_get xs i ≡ Some y → take (suc i) (xs ++ x ∷ []) ≡ take (suc i) xs
take_kept [] x y i e = absurd (cc)
take_kept (z ∷ xs) x y zero e = refl
take_kept (z ∷ xs) x y (suc i) e = ap (λ (ys : List _). z ∷ ys) (take_kept xs x y i e)

pub take_all : {X : Type 0} (xs : List X) (x : X) → take (suc (length xs)) (xs ++ x ∷ []) ≡ xs ++ x ∷ []
take_all [] x = refl
take_all (z ∷ xs) x = ap (λ (ys : List _). z ∷ ys) (take_all xs x)
