-- Lists with one thing more, with each thing changed, and with tests that agree of all that is not bad.
use Rattle.std.proofs.Common.{◌≡◌, ◌⊎◌, inl, inr, ◌∷◌, ◌++◌, ◌&&◌, ◌||◌, ap, refl, ◌∙◌, Bool, true, false, List, [], Option, None, Some, ℕ, zero, suc, cond, if◌then◌else◌, filter, map, option_map}
use Rattle.std.proofs.lemmas.Bool.{and_parts, or_from, or_parts}
use Rattle.std.proofs.lemmas.Option.{slice_get-map}
use Rattle.std.specs.List.{list_all, list_any}
use Rattle.std.specs.Option.{option_or}
use Rattle.std.specs.Prelude.{filter_map, fold}
use Rattle.session_actions.specs.Words.{find_last, numbered}

-- one thing more
pub numbered_more : {X : Type 0} (xs : List X) (y x : X) (n : ℕ) → numbered xs n ≡ Some x → numbered (xs ++ y ∷ []) n ≡ Some x
numbered_more xs y x zero e = absurd (cc)
numbered_more [] y x (suc i) e = absurd (cc)
numbered_more (z ∷ xs) y x (suc zero) e = e
numbered_more (z ∷ xs) y x (suc (suc i)) e = numbered_more xs y x (suc i) e

pub numbered_none : {X : Type 0} (xs : List X) (y : X) (n : ℕ) → numbered xs n ≡ None → (numbered (xs ++ y ∷ []) n ≡ None) ⊎ (numbered (xs ++ y ∷ []) n ≡ Some y)
numbered_none xs y zero e = inl refl
numbered_none [] y (suc zero) e = inr refl
numbered_none [] y (suc (suc i)) e = inl refl
numbered_none (z ∷ xs) y (suc zero) e = absurd (cc)
numbered_none (z ∷ xs) y (suc (suc i)) e = numbered_none xs y (suc i) e

pub find_last_more : {X : Type 0} (p : X → Bool) (xs : List X) (y : X) → p y ≡ false → find_last p (xs ++ y ∷ []) ≡ find_last p xs
find_last_more p [] y e = ap (λ (b : Bool). if b then Some y else None) e
find_last_more p (x ∷ xs) y e = ap (λ (o : Option _). option_or o (if p x then Some x else None)) (find_last_more p xs y e)

pub or_no : (b : Bool) → (b || false) ≡ b
or_no true = refl
or_no false = refl

-- tests that agree of what is not bad
pub filter_where : {X : Type 0} (p q bad : X → Bool) → ((x : X) → bad x ≡ false → p x ≡ q x) → (xs : List X) → list_any bad xs ≡ false → filter p xs ≡ filter q xs
filter_where p q bad same [] e = refl
filter_where p q bad same (x ∷ xs) e =
    let parts : (bad x ≡ false) × (list_any bad xs ≡ false) = or_parts (bad x) (list_any bad xs) e in
    ap (λ (b : Bool). cond b (x ∷ filter p xs) (filter p xs)) (same x parts.0)
    ∙ ap (λ (l : List _). cond (q x) (x ∷ l) l) (filter_where p q bad same xs parts.1)

pub any_where : {X : Type 0} (p q bad : X → Bool) → ((x : X) → bad x ≡ false → p x ≡ q x) → (xs : List X) → list_any bad xs ≡ false → list_any p xs ≡ list_any q xs
any_where p q bad same [] e = refl
any_where p q bad same (x ∷ xs) e =
    let parts : (bad x ≡ false) × (list_any bad xs ≡ false) = or_parts (bad x) (list_any bad xs) e in
    ap (λ (b : Bool). b || list_any p xs) (same x parts.0) ∙ ap (λ (b : Bool). q x || b) (any_where p q bad same xs parts.1)

pub any_either : {X : Type 0} (p q : X → Bool) (xs : List X) → list_any p xs ≡ false → list_any q xs ≡ false → list_any (λ (x : X). p x || q x) xs ≡ false
any_either p q [] e f = refl
any_either p q (x ∷ xs) e f =
    let first : (p x ≡ false) × (list_any p xs ≡ false) = or_parts (p x) (list_any p xs) e in
    let second : (q x ≡ false) × (list_any q xs ≡ false) = or_parts (q x) (list_any q xs) f in
    or_from (p x || q x) (list_any (λ (x : _). p x || q x) xs) (or_from (p x) (q x) first.0 second.0) (any_either p q xs first.1 second.1)

-- each thing changed
pub numbered_map : {X Y : Type 0} (h : X → Y) (xs : List X) (n : ℕ) → numbered (map h xs) n ≡ option_map h (numbered xs n)
numbered_map h xs zero = refl
numbered_map h xs (suc i) = slice_get-map h xs i

or_map : {X Y : Type 0} (h : X → Y) (o : Option X) (b : Bool) (x : X)
    → option_or (option_map h o) (if b then Some (h x) else None) ≡ option_map h (option_or o (if b then Some x else None))
or_map h (Some z) b x = refl
or_map h None true x = refl
or_map h None false x = refl

pub find_last_map : {X Y : Type 0} (p : Y → Bool) (q : X → Bool) (h : X → Y) → ((x : X) → p (h x) ≡ q x) → (xs : List X) → find_last p (map h xs) ≡ option_map h (find_last q xs)
find_last_map p q h same [] = refl
find_last_map p q h same (x ∷ xs) =
    ap (λ (b : Bool). option_or (find_last p (map h xs)) (if b then Some (h x) else None)) (same x)
    ∙ ap (λ (o : Option _). option_or o (if q x then Some (h x) else None)) (find_last_map p q h same xs) ∙ or_map h (find_last q xs) (q x) x

pub any_map : {X Y : Type 0} (p : Y → Bool) (q bad : X → Bool) (h : X → Y) → ((x : X) → bad x ≡ false → p (h x) ≡ q x) → (xs : List X) → list_any bad xs ≡ false
    → list_any p (map h xs) ≡ list_any q xs
any_map p q bad h same [] e = refl
any_map p q bad h same (x ∷ xs) e =
    let parts : (bad x ≡ false) × (list_any bad xs ≡ false) = or_parts (bad x) (list_any bad xs) e in
    ap (λ (b : Bool). b || list_any p (map h xs)) (same x parts.0) ∙ ap (λ (b : Bool). q x || b) (any_map p q bad h same xs parts.1)

pub any_map_all : {X Y : Type 0} (p : Y → Bool) (q : X → Bool) (h : X → Y) → ((x : X) → p (h x) ≡ q x) → (xs : List X) → list_any p (map h xs) ≡ list_any q xs
any_map_all p q h same [] = refl
any_map_all p q h same (x ∷ xs) = ap (λ (b : Bool). b || list_any p (map h xs)) (same x) ∙ ap (λ (b : Bool). q x || b) (any_map_all p q h same xs)

map_cond : {X Y : Type 0} (h : X → Y) (b : Bool) (x : X) (xs : List X) → cond b (h x ∷ map h xs) (map h xs) ≡ map h (cond b (x ∷ xs) xs)
map_cond h true x xs = refl
map_cond h false x xs = refl

pub filter_mapped : {X Y : Type 0} (p : Y → Bool) (q bad : X → Bool) (h : X → Y) → ((x : X) → bad x ≡ false → p (h x) ≡ q x) → (xs : List X) → list_any bad xs ≡ false
    → filter p (map h xs) ≡ map h (filter q xs)
filter_mapped p q bad h same [] e = refl
filter_mapped p q bad h same (x ∷ xs) e =
    let parts : (bad x ≡ false) × (list_any bad xs ≡ false) = or_parts (bad x) (list_any bad xs) e in
    ap (λ (b : Bool). cond b (h x ∷ filter p (map h xs)) (filter p (map h xs))) (same x parts.0)
    ∙ ap (λ (l : List _). cond (q x) (h x ∷ l) l) (filter_mapped p q bad h same xs parts.1) ∙ map_cond h (q x) x (filter q xs)

pub fold_map : {X Y Z : Type 0} (f : Z → Y → Z) (g : Z → X → Z) (h : X → Y) → ((z : Z) (x : X) → f z (h x) ≡ g z x) → (z : Z) (xs : List X) → fold f z (map h xs) ≡ fold g z xs
fold_map f g h same z [] = refl
fold_map f g h same z (x ∷ xs) = ap (λ (y : _). fold f y (map h xs)) (same z x) ∙ fold_map f g h same (g z x) xs

pub map_through : {X Y Z : Type 0} (f : Y → Z) (h : X → Y) (g : X → Z) → ((x : X) → f (h x) ≡ g x) → (xs : List X) → map f (map h xs) ≡ map g xs
map_through f h g same [] = refl
map_through f h g same (x ∷ xs) = ap (λ (z : _). z ∷ map f (map h xs)) (same x) ∙ ap (λ (l : List _). g x ∷ l) (map_through f h g same xs)

-- marks that are of a kind
pub fold_where : {X Y : Type 0} (f g : Y → X → Y) (own : X → Bool) → ((y : Y) (x : X) → own x ≡ true → f y x ≡ g y x) → (y : Y) (xs : List X) → list_all own xs ≡ true
    → fold f y xs ≡ fold g y xs
fold_where f g own same y [] e = refl
fold_where f g own same y (x ∷ xs) e =
    let parts : (own x ≡ true) × (list_all own xs ≡ true) = and_parts (own x) (list_all own xs) e in
    ap (λ (z : _). fold f z xs) (same y x parts.0) ∙ fold_where f g own same (g y x) xs parts.1

cons_by : {X Y : Type 0} (x : X) (g h : X → Option Y) (xs : List X) (o : Option Y) → g x ≡ o → h x ≡ o → filter_map g xs ≡ filter_map h xs
    → filter_map g (x ∷ xs) ≡ filter_map h (x ∷ xs)
cons_by x g h xs None e f rest = (cc)
cons_by x g h xs (Some y) e f rest = (cc)

pub filter_map_where : {X Y : Type 0} (g h : X → Option Y) (own : X → Bool) → ((x : X) → own x ≡ true → g x ≡ h x) → (xs : List X) → list_all own xs ≡ true
    → filter_map g xs ≡ filter_map h xs
filter_map_where g h own same [] e = refl
filter_map_where g h own same (x ∷ xs) e =
    let parts : (own x ≡ true) × (list_all own xs ≡ true) = and_parts (own x) (list_all own xs) e in
    cons_by x g h xs (h x) (same x parts.0) refl (filter_map_where g h own same xs parts.1)

pub all_so : {X : Type 0} (own then_ : X → Bool) → ((x : X) → own x ≡ true → then_ x ≡ true) → (xs : List X) → list_all own xs ≡ true → list_all then_ xs ≡ true
all_so own then_ so [] e = refl
all_so own then_ so (x ∷ xs) e =
    let parts : (own x ≡ true) × (list_all own xs ≡ true) = and_parts (own x) (list_all own xs) e in
    ap (λ (b : Bool). b && list_all then_ xs) (so x parts.0) ∙ all_so own then_ so xs parts.1

-- a filter of a filter
module _ {X Y : Type 0} (r : Y → Bool) (v : X → Y) (p : X → Bool) where
  both_by : (b d : Bool) (x : X) (xs ys : List X) → r (v x) ≡ d → filter r (map v xs) ≡ map v ys → filter r (map v (cond b (x ∷ xs) xs)) ≡ map v (cond (b && d) (x ∷ ys) ys)
  both_by false d x xs ys e rest = rest
  both_by true true x xs ys e rest = ap (λ (z : Bool). cond z (v x ∷ filter r (map v xs)) (filter r (map v xs))) e ∙ ap (λ (l : List Y). v x ∷ l) rest
  both_by true false x xs ys e rest = ap (λ (z : Bool). cond z (v x ∷ filter r (map v xs)) (filter r (map v xs))) e ∙ rest

  pub filter_both : (xs : List X) → filter r (map v (filter p xs)) ≡ map v (filter (λ (x : X). p x && r (v x)) xs)
  filter_both [] = refl
  filter_both (x ∷ xs) = both_by (p x) (r (v x)) x (filter p xs) (filter (λ (x : X). p x && r (v x)) xs) refl (filter_both xs)
