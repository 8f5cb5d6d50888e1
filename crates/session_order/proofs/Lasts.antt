-- The last of a list that passes a test, where one thing of the list was changed.
use Rattle.std.proofs.Common.{◌≡◌, ◌∷◌, ◌⊎◌, inl, inr, ap, refl, subst, sym, ◌∙◌, Bool, true, false, List, [], Option, None, Some, ℕ, zero, suc, if◌then◌else◌, slice_get}
use Rattle.std.specs.Option.{option_or}
use Rattle.std.specs.Prelude.{slice_set}
use Rattle.session_actions.specs.Words.{changed, changed_if, find_last, holds, numbered}

-- it is the one that it was, or the changed one
abbrev pub IsAsBefore : {X : Type 0} → (X → X) → Option X → Option X → Type 0
IsAsBefore {X = X} f o p = (p ≡ o) ⊎ ((x : X) × (o ≡ Some x) × (p ≡ Some (f x)))

here_by : {X : Type 0} (T : X → Bool) (f : X → X) (y : X) (o : Option X) (b : Bool) → T y ≡ b → T (f y) ≡ b
    → IsAsBefore f (option_or o (if T y then Some y else None)) (option_or o (if T (f y) then Some (f y) else None))
here_by T f y (Some z) b e g = inl refl
here_by T f y None true e g =
    inr (y, ap (λ (b : Bool). if b then Some y else None) e, ap (λ (b : Bool). if b then Some (f y) else None) g)
here_by T f y None false e g =
    inl (ap (λ (b : Bool). if b then Some (f y) else None) g ∙ sym (ap (λ (b : Bool). if b then Some y else None) e))

more_by : {X : Type 0} (f : X → X) (d o p : Option X) → IsAsBefore f o p → IsAsBefore f (option_or o d) (option_or p d)
more_by f d o p (inl e) = inl (ap (λ (q : Option _). option_or q d) e)
more_by f d o p (inr (x, e, g)) = inr (x, ap (λ (q : Option _). option_or q d) e, ap (λ (q : Option _). option_or q d) g)

at_first : {X : Type 0} (T : X → Bool) (f : X → X) → ((x : X) → T (f x) ≡ T x) → (xs : List X) (x y : X) → x ≡ y
    → IsAsBefore f (find_last T (y ∷ xs)) (find_last T (f x ∷ xs))
at_first T f same xs x y e =
    subst (λ (z : _). IsAsBefore f (find_last T (y ∷ xs)) (find_last T (f z ∷ xs))) (sym e) (here_by T f y (find_last T xs) (T y) refl (same y))

last_set : {X : Type 0} (T : X → Bool) (f : X → X) → ((x : X) → T (f x) ≡ T x) → (xs : List X) (i : ℕ) (x : X) → slice_get xs i ≡ Some x
    → IsAsBefore f (find_last T xs) (find_last T (slice_set xs i (f x)))
last_set T f same [] i x e = inl refl
last_set T f same (y ∷ xs) zero x e = at_first T f same xs x y (cc)
last_set T f same (y ∷ xs) (suc i) x e =
    more_by f (if T y then Some y else None) (find_last T xs) (find_last T (slice_set xs i (f x))) (last_set T f same xs i x e)

last_by : {X : Type 0} (T : X → Bool) (f : X → X) → ((x : X) → T (f x) ≡ T x) → (xs : List X) (i : ℕ) (o : Option X) → slice_get xs i ≡ o
    → IsAsBefore f (find_last T xs) (find_last T (changed_if f (suc i) xs o))
last_by T f same xs i None e = inl refl
last_by T f same xs i (Some x) e = last_set T f same xs i x e

pub last_changed : {X : Type 0} (T : X → Bool) (f : X → X) → ((x : X) → T (f x) ≡ T x) → (n : ℕ) (xs : List X)
    → IsAsBefore f (find_last T xs) (find_last T (changed f n xs))
last_changed T f same zero xs = inl refl
last_changed T f same (suc i) xs = last_by T f same xs i (slice_get xs i) refl

-- what does not see the change
pub read_before : {X Y : Type 0} (f : X → X) (h : Option X → Y) → ((x : X) → h (Some (f x)) ≡ h (Some x)) → (o p : Option X) → IsAsBefore f o p → h p ≡ h o
read_before f h same o p (inl e) = ap h e
read_before f h same o p (inr (x, e, g)) = ap h g ∙ same x ∙ sym (ap h e)

-- what the changed one does not pass
pub none_before : {X : Type 0} (f : X → X) (test : X → Bool) → ((x : X) → test (f x) ≡ false) → (o p : Option X) → IsAsBefore f o p
    → holds test o ≡ false → holds test p ≡ false
none_before f test never o p (inl e) none = ap (holds test) e ∙ none
none_before f test never o p (inr (x, e, g)) none = ap (holds test) g ∙ never x

-- the changed one is that of the number
at_by : {X : Type 0} (f : X → X) (x : X) (d o p : Option X) → (p ≡ o) ⊎ ((o ≡ Some x) × (p ≡ Some (f x)))
    → (option_or p d ≡ option_or o d) ⊎ ((option_or o d ≡ Some x) × (option_or p d ≡ Some (f x)))
at_by f x d o p (inl e) = inl (ap (λ (q : Option _). option_or q d) e)
at_by f x d o p (inr e) = inr (ap (λ (q : Option _). option_or q d) e.0, ap (λ (q : Option _). option_or q d) e.1)

at_here : {X : Type 0} (T : X → Bool) (f : X → X) (y : X) (o : Option X) (b : Bool) → T y ≡ b → T (f y) ≡ b
    → (option_or o (if T (f y) then Some (f y) else None) ≡ option_or o (if T y then Some y else None))
    ⊎ ((option_or o (if T y then Some y else None) ≡ Some y) × (option_or o (if T (f y) then Some (f y) else None) ≡ Some (f y)))
at_here T f y (Some z) b e g = inl refl
at_here T f y None true e g = inr (ap (λ (b : Bool). if b then Some y else None) e, ap (λ (b : Bool). if b then Some (f y) else None) g)
at_here T f y None false e g =
    inl (ap (λ (b : Bool). if b then Some (f y) else None) g ∙ sym (ap (λ (b : Bool). if b then Some y else None) e))

at_first_one : {X : Type 0} (T : X → Bool) (f : X → X) → ((x : X) → T (f x) ≡ T x) → (xs : List X) (x y : X) → x ≡ y
    → (find_last T (f x ∷ xs) ≡ find_last T (y ∷ xs)) ⊎ ((find_last T (y ∷ xs) ≡ Some x) × (find_last T (f x ∷ xs) ≡ Some (f x)))
at_first_one T f same xs x y e =
    subst (λ (z : _). (find_last T (f x ∷ xs) ≡ find_last T (z ∷ xs)) ⊎ ((find_last T (z ∷ xs) ≡ Some x) × (find_last T (f x ∷ xs) ≡ Some (f x)))) e
    (at_here T f x (find_last T xs) (T x) refl (same x))

at_set : {X : Type 0} (T : X → Bool) (f : X → X) → ((x : X) → T (f x) ≡ T x) → (xs : List X) (i : ℕ) (x : X) → slice_get xs i ≡ Some x
    → (find_last T (slice_set xs i (f x)) ≡ find_last T xs) ⊎ ((find_last T xs ≡ Some x) × (find_last T (slice_set xs i (f x)) ≡ Some (f x)))
at_set T f same [] i x e = inl refl
at_set T f same (y ∷ xs) zero x e = at_first_one T f same xs x y (cc)
at_set T f same (y ∷ xs) (suc i) x e =
    at_by f x (if T y then Some y else None) (find_last T xs) (find_last T (slice_set xs i (f x))) (at_set T f same xs i x e)

pub last_at : {X : Type 0} (T : X → Bool) (f : X → X) → ((x : X) → T (f x) ≡ T x) → (n : ℕ) (xs : List X) (x : X) → numbered xs n ≡ Some x
    → (find_last T (changed f n xs) ≡ find_last T xs) ⊎ ((find_last T xs ≡ Some x) × (find_last T (changed f n xs) ≡ Some (f x)))
last_at T f same zero xs x e = absurd (cc)
last_at T f same (suc i) xs x e =
    subst (λ (o : Option _). (find_last T (changed_if f (suc i) xs o) ≡ find_last T xs) ⊎ ((find_last T xs ≡ Some x) × (find_last T (changed_if f (suc i) xs o) ≡ Some (f x))))
    (sym e) (at_set T f same xs i x e)
