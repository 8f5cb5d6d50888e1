-- Two lists whose elements are the same but for a change: what does not see the change says the same of both.
use Rattle.std.proofs.Common.{◌≡◌, ◌⊎◌, inl, inr, ◌∷◌, ◌&&◌, ap, refl, subst, sym, ◌∙◌, Bool, true, false, List, [], Option, None, Some, ℕ, zero, suc, cond, filter, fold, map, slice_get, slice_set}
use Rattle.std.specs.List.{AllByRecursion, list_all}
use Rattle.session_actions.specs.Words.{changed, changed_if}

abbrev pub IsLike : {X : Type 0} → (X → X) → X → X → Type 0
IsLike f x y = (y ≡ x) ⊎ (y ≡ f x)

abbrev pub Alike : {X : Type 0} → (X → X) → List X → List X → Type 0
Alike f [] [] = Unit {0}
Alike f (x ∷ xs) (y ∷ ys) = IsLike f x y × Alike f xs ys
Alike f _ _ = ⊥

pub alike_self : {X : Type 0} (f : X → X) (xs : List X) → Alike f xs xs
alike_self f [] = tt
alike_self f (x ∷ xs) = (inl refl, alike_self f xs)

alike_set : {X : Type 0} (f : X → X) (xs : List X) (i : ℕ) (x : X) → slice_get xs i ≡ Some x → Alike f xs (slice_set xs i (f x))
alike_set f [] i x e = absurd (cc)
alike_set f (y ∷ xs) zero x e = let same : x ≡ y = (cc) in (inr (ap f same), alike_self f xs)
alike_set f (y ∷ xs) (suc i) x e = (inl refl, alike_set f xs i x e)

alike_by : {X : Type 0} (f : X → X) (xs : List X) (i : ℕ) (o : Option X) → slice_get xs i ≡ o → Alike f xs (changed_if f (suc i) xs o)
alike_by f xs i None e = alike_self f xs
alike_by f xs i (Some x) e = alike_set f xs i x e

pub alike_changed : {X : Type 0} (f : X → X) (n : ℕ) (xs : List X) → Alike f xs (changed f n xs)
alike_changed f zero xs = alike_self f xs
alike_changed f (suc i) xs = alike_by f xs i (slice_get xs i) refl

-- of one element
of_like : {X Y : Type 0} (f : X → X) (g : X → Y) → ((x : X) → g (f x) ≡ g x) → (x y : X) → IsLike f x y → g y ≡ g x
of_like f g same x y (inl e) = ap g e
of_like f g same x y (inr e) = ap g e ∙ same x

pub alike_map : {X Y : Type 0} (f : X → X) (g : X → Y) → ((x : X) → g (f x) ≡ g x) → (xs ys : List X) → Alike f xs ys → map g ys ≡ map g xs
alike_map f g same [] [] h = refl
alike_map f g same (x ∷ xs) (y ∷ ys) h =
    ap (λ (z : _). z ∷ map g ys) (of_like f g same x y h.0) ∙ ap (λ (l : List _). g x ∷ l) (alike_map f g same xs ys h.1)
alike_map f g same [] (y ∷ ys) h = absurd h
alike_map f g same (x ∷ xs) [] h = absurd h

pub alike_fold : {X Z : Type 0} (f : X → X) (g : Z → X → Z) → ((z : Z) (x : X) → g z (f x) ≡ g z x) → (z : Z) (xs ys : List X) → Alike f xs ys → fold g z ys ≡ fold g z xs
alike_fold f g same z [] [] h = refl
alike_fold f g same z (x ∷ xs) (y ∷ ys) h =
    ap (λ (w : _). fold g w ys) (of_like f (g z) (same z) x y h.0) ∙ alike_fold f g same (g z x) xs ys h.1
alike_fold f g same z [] (y ∷ ys) h = absurd h
alike_fold f g same z (x ∷ xs) [] h = absurd h

keep_by : {X : Type 0} (f : X → X) (x y : X) (xs ys : List X) (b : Bool) → IsLike f x y → Alike f xs ys → Alike f (cond b (x ∷ xs) xs) (cond b (y ∷ ys) ys)
keep_by f x y xs ys true one h = (one, h)
keep_by f x y xs ys false one h = h

pub alike_filter : {X : Type 0} (f : X → X) (p : X → Bool) → ((x : X) → p (f x) ≡ p x) → (xs ys : List X) → Alike f xs ys → Alike f (filter p xs) (filter p ys)
alike_filter f p same [] [] h = tt
alike_filter f p same (x ∷ xs) (y ∷ ys) h =
    subst (λ (b : Bool). Alike f (cond (p x) (x ∷ filter p xs) (filter p xs)) (cond b (y ∷ filter p ys) (filter p ys))) (sym (of_like f p same x y h.0))
    (keep_by f x y (filter p xs) (filter p ys) (p x) h.0 (alike_filter f p same xs ys h.1))
alike_filter f p same [] (y ∷ ys) h = absurd h
alike_filter f p same (x ∷ xs) [] h = absurd h

all_like : {X : Type 0} (f : X → X) (P : X → Type 0) → ((x : X) → P x → P (f x)) → (x y : X) → IsLike f x y → P x → P y
all_like f P keeps x y (inl e) h = subst P (sym e) h
all_like f P keeps x y (inr e) h = subst P (sym e) (keeps x h)

pub alike_all : {X : Type 0} (f : X → X) (P : X → Type 0) → ((x : X) → P x → P (f x)) → (xs ys : List X) → Alike f xs ys → AllByRecursion P xs → AllByRecursion P ys
alike_all f P keeps [] [] h all = tt
alike_all f P keeps (x ∷ xs) (y ∷ ys) h all = (all_like f P keeps x y h.0 all.0, alike_all f P keeps xs ys h.1 all.1)
alike_all f P keeps [] (y ∷ ys) h all = absurd h
alike_all f P keeps (x ∷ xs) [] h all = absurd h

-- tests that agree
pub filter_same : {X : Type 0} (p q : X → Bool) → ((x : X) → p x ≡ q x) → (xs : List X) → filter p xs ≡ filter q xs
filter_same p q same [] = refl
filter_same p q same (x ∷ xs) =
    ap (λ (b : Bool). cond b (x ∷ filter p xs) (filter p xs)) (same x) ∙ ap (λ (l : List _). cond (q x) (x ∷ l) l) (filter_same p q same xs)

pub all_same : {X : Type 0} (p q : X → Bool) → ((x : X) → p x ≡ q x) → (xs : List X) → list_all p xs ≡ list_all q xs
all_same p q same [] = refl
all_same p q same (x ∷ xs) = ap (λ (b : Bool). b && list_all p xs) (same x) ∙ ap (λ (b : Bool). q x && b) (all_same p q same xs)

pub fold_same : {X Z : Type 0} (g h : Z → X → Z) → ((z : Z) (x : X) → g z x ≡ h z x) → (z : Z) (xs : List X) → fold g z xs ≡ fold h z xs
fold_same g h same z [] = refl
fold_same g h same z (x ∷ xs) = ap (λ (w : _). fold g w xs) (same z x) ∙ fold_same g h same (h z x) xs
