-- Lists of which one thing was changed, or that grew: what holds of each thing still does, and what was there still is.
use Rattle.channel_actions.specs.KeptSessions.Kept.{NumbersCountUp}
use Rattle.session_actions.specs.Words.{changed, changed_if, earlier, foremost, last_of, numbered}
use Rattle.session_order.specs.Order.{HasPlaces}
use Rattle.std.proofs.Common.{Bool, List, None, Option, Some, [], ap, arith, cond, false, filter, find, if◌then◌else◌, is_some, length, map, pred, refl, slice_get, slice_set, suc, sym, true, zero, ℕ, ◌++◌, ◌+◌, ◌∙◌, ◌∷◌, ◌≡◌}
use Rattle.std.proofs.lemmas.Bool.{and_from, and_parts}
use Rattle.std.proofs.lemmas.List.Folds.{list_all-append}
use Rattle.std.specs.List.{list_all}
use Rattle.std.specs.Option.{option_map_or}

-- what holds of all
pub all_get : {X : Type 0} (p : X → Bool) (xs : List X) (i : ℕ) (x : X) → list_all p xs ≡ true → slice_get xs i ≡ Some x → p x ≡ true
all_get p [] i x e got = absurd (cc)
all_get p (y ∷ xs) zero x e got = let one : y ≡ x = (cc) in ap p (sym one) ∙ (and_parts (p y) (list_all p xs) e).0
all_get p (y ∷ xs) (suc i) x e got = all_get p xs i x (and_parts (p y) (list_all p xs) e).1 got

pub all_at : {X : Type 0} (p : X → Bool) (xs : List X) (n : ℕ) (x : X) → list_all p xs ≡ true → numbered xs n ≡ Some x → p x ≡ true
all_at p xs zero x e got = absurd (cc)
all_at p xs (suc i) x e got = all_get p xs i x e got

pub all_each : {X : Type 0} (p : X → Bool) (xs : List X) → ((i : ℕ) (x : X) → slice_get xs i ≡ Some x → p x ≡ true) → list_all p xs ≡ true
all_each p [] each = refl
all_each p (x ∷ xs) each = and_from (p x) (list_all p xs) (each zero x refl) (all_each p xs (λ i y got. each (suc i) y got))

pub all_wide : {X : Type 0} (p q : X → Bool) → ((x : X) → p x ≡ true → q x ≡ true) → (xs : List X) → list_all p xs ≡ true → list_all q xs ≡ true
all_wide p q wide [] e = refl
all_wide p q wide (x ∷ xs) e =
    let both : (p x ≡ true) × (list_all p xs ≡ true) = and_parts (p x) (list_all p xs) e in
    and_from (q x) (list_all q xs) (wide x both.0) (all_wide p q wide xs both.1)

all_set : {X : Type 0} (p : X → Bool) (xs : List X) (i : ℕ) (y : X) → list_all p xs ≡ true → p y ≡ true → list_all p (slice_set xs i y) ≡ true
all_set p [] i y e f = e
all_set p (x ∷ xs) zero y e f = and_from (p y) (list_all p xs) f (and_parts (p x) (list_all p xs) e).1
all_set p (x ∷ xs) (suc i) y e f =
    let both : (p x ≡ true) × (list_all p xs ≡ true) = and_parts (p x) (list_all p xs) e in
    and_from (p x) (list_all p (slice_set xs i y)) both.0 (all_set p xs i y both.1 f)

all_if : {X : Type 0} (p : X → Bool) (f : X → X) (n : ℕ) (xs : List X) (o : Option X) → list_all p xs ≡ true → ((x : X) → o ≡ Some x → p (f x) ≡ true)
    → list_all p (changed_if f n xs o) ≡ true
all_if p f n xs None e so = e
all_if p f n xs (Some x) e so = all_set p xs (pred n) (f x) e (so x refl)

pub all_changed : {X : Type 0} (p : X → Bool) (f : X → X) (n : ℕ) (xs : List X) → list_all p xs ≡ true
    → ((x : X) → numbered xs n ≡ Some x → p x ≡ true → p (f x) ≡ true) → list_all p (changed f n xs) ≡ true
all_changed p f n xs e so = all_if p f n xs (numbered xs n) e (λ x got. so x got (all_at p xs n x e got))

pub all_mapped : {X : Type 0} (p : X → Bool) (f : X → X) → ((x : X) → p x ≡ true → p (f x) ≡ true) → (xs : List X) → list_all p xs ≡ true → list_all p (map f xs) ≡ true
all_mapped p f so [] e = refl
all_mapped p f so (x ∷ xs) e =
    let both : (p x ≡ true) × (list_all p xs ≡ true) = and_parts (p x) (list_all p xs) e in
    and_from (p (f x)) (list_all p (map f xs)) (so x both.0) (all_mapped p f so xs both.1)

pub all_more : {X : Type 0} (p : X → Bool) (xs ys : List X) → list_all p xs ≡ true → list_all p ys ≡ true → list_all p (xs ++ ys) ≡ true
all_more p xs ys e f = list_all-append p xs ys ∙ and_from (list_all p xs) (list_all p ys) e f

-- of those that pass a test, of the first of them, and of the foremost
filter_by : {X : Type 0} (p : X → Bool) (b : Bool) (x : X) (ys : List X) → p x ≡ true → list_all p ys ≡ true → list_all p (cond b (x ∷ ys) ys) ≡ true
filter_by p true x ys e f = and_from (p x) (list_all p ys) e f
filter_by p false x ys e f = f

pub all_filter : {X : Type 0} (p q : X → Bool) (xs : List X) → list_all p xs ≡ true → list_all p (filter q xs) ≡ true
all_filter p q [] e = refl
all_filter p q (x ∷ xs) e =
    let both : (p x ≡ true) × (list_all p xs ≡ true) = and_parts (p x) (list_all p xs) e in
    filter_by p (q x) x (filter q xs) both.0 (all_filter p q xs both.1)

found_by : {X : Type 0} (p : X → Bool) (b : Bool) (x : X) (o : Option X) → p x ≡ true → option_map_or p o true ≡ true → option_map_or p (cond b (Some x) o) true ≡ true
found_by p true x o e f = e
found_by p false x o e f = f

pub all_found : {X : Type 0} (p q : X → Bool) (xs : List X) → list_all p xs ≡ true → option_map_or p (find q xs) true ≡ true
all_found p q [] e = refl
all_found p q (x ∷ xs) e =
    let both : (p x ≡ true) × (list_all p xs ≡ true) = and_parts (p x) (list_all p xs) e in
    found_by p (q x) x (find q xs) both.0 (all_found p q xs both.1)

either_of : {X : Type 0} (p : X → Bool) (b : Bool) (x y : X) → p x ≡ true → p y ≡ true → p (if b then y else x) ≡ true
either_of p true x y e f = f
either_of p false x y e f = e

earlier_of : {X : Type 0} (p : X → Bool) (before : X → X → Bool) (x : X) (o : Option X) → p x ≡ true → option_map_or p o true ≡ true → p (earlier before x o) ≡ true
earlier_of p before x None e f = e
earlier_of p before x (Some y) e f = either_of p (before y x) x y e f

pub all_foremost : {X : Type 0} (p : X → Bool) (before : X → X → Bool) (xs : List X) → list_all p xs ≡ true → option_map_or p (foremost before xs) true ≡ true
all_foremost p before [] e = refl
all_foremost p before (x ∷ xs) e =
    let both : (p x ≡ true) × (list_all p xs ≡ true) = and_parts (p x) (list_all p xs) e in
    earlier_of p before x (foremost before xs) both.0 (all_foremost p before xs both.1)

-- what is there stays there
abbrev pub Grows : {X : Type 0} → List X → List X → Type 0
Grows xs ys = (k : ℕ) → is_some (numbered xs k) ≡ true → is_some (numbered ys k) ≡ true

pub grows_not : {X : Type 0} (xs : List X) → Grows xs xs
grows_not xs k e = e

set_there : {X : Type 0} (xs : List X) (i k : ℕ) (z : X) → is_some (slice_get (slice_set xs i z) k) ≡ is_some (slice_get xs k)
set_there [] i k z = refl
set_there (x ∷ xs) zero zero z = refl
set_there (x ∷ xs) zero (suc k) z = refl
set_there (x ∷ xs) (suc i) zero z = refl
set_there (x ∷ xs) (suc i) (suc k) z = set_there xs i k z

set_grows : {X : Type 0} (xs : List X) (i : ℕ) (z : X) → Grows xs (slice_set xs i z)
set_grows xs i z zero e = absurd (cc)
set_grows xs i z (suc k) e = set_there xs i k z ∙ e

if_grows : {X : Type 0} (f : X → X) (n : ℕ) (xs : List X) (o : Option X) → Grows xs (changed_if f n xs o)
if_grows f n xs None = grows_not xs
if_grows f n xs (Some x) = set_grows xs (pred n) (f x)

pub changed_grows : {X : Type 0} (f : X → X) (n : ℕ) (xs : List X) → Grows xs (changed f n xs)
changed_grows f n xs = if_grows f n xs (numbered xs n)

pub get_more : {X : Type 0} (xs ys : List X) (i : ℕ) (x : X) → slice_get xs i ≡ Some x → slice_get (xs ++ ys) i ≡ Some x
get_more [] ys i x e = absurd (cc)
get_more (y ∷ xs) ys zero x e = e
get_more (y ∷ xs) ys (suc i) x e = get_more xs ys i x e

there_more : {X : Type 0} (xs ys : List X) (i : ℕ) (o : Option X) → slice_get xs i ≡ o → is_some o ≡ true → is_some (slice_get (xs ++ ys) i) ≡ true
there_more xs ys i None got e = absurd (cc)
there_more xs ys i (Some x) got e = ap is_some (get_more xs ys i x got)

pub more_grows : {X : Type 0} (xs ys : List X) → Grows xs (xs ++ ys)
more_grows xs ys zero e = absurd (cc)
more_grows xs ys (suc i) e = there_more xs ys i (slice_get xs i) refl e

map_there : {X : Type 0} (f : X → X) (xs : List X) (i : ℕ) → is_some (slice_get (map f xs) i) ≡ is_some (slice_get xs i)
map_there f [] i = refl
map_there f (x ∷ xs) zero = refl
map_there f (x ∷ xs) (suc i) = map_there f xs i

pub mapped_grows : {X : Type 0} (f : X → X) (xs : List X) → Grows xs (map f xs)
mapped_grows f xs zero e = absurd (cc)
mapped_grows f xs (suc i) e = map_there f xs i ∙ e

-- the last one
get_last : {X : Type 0} (xs : List X) (y : X) → slice_get (xs ++ y ∷ []) (length xs) ≡ Some y
get_last [] y = refl
get_last (x ∷ xs) y = get_last xs y

pub there_last : {X : Type 0} (xs : List X) (y : X) → is_some (numbered (xs ++ y ∷ []) (length xs + 1)) ≡ true
there_last xs y =
    let one : length xs + 1 ≡ suc (length xs) = omega arith in ap (λ (k : ℕ). is_some (numbered (xs ++ y ∷ []) k)) one ∙ ap is_some (get_last xs y)

longer : {X : Type 0} (xs : List X) (y : X) → length (xs ++ y ∷ []) ≡ suc (length xs)
longer [] y = refl
longer (x ∷ xs) y = ap (λ (k : ℕ). suc k) (longer xs y)

pub last_more : {X : Type 0} (xs : List X) (y : X) → last_of (xs ++ y ∷ []) ≡ Some y
last_more xs y = ap (numbered (xs ++ y ∷ [])) (longer xs y) ∙ get_last xs y

-- numbers that are places
counted_from : {X : Type 0} (f : X → ℕ) (n : ℕ) (xs : List X) → ((i : ℕ) (x : X) → slice_get xs i ≡ Some x → f x ≡ n + i) → NumbersCountUp n (map f xs)
counted_from f n [] each = tt
counted_from f n (x ∷ xs) each =
    let first : f x ≡ n + 0 = each zero x refl in
    let here : f x ≡ n = omega (arith, first) in
    (here, counted_from f (suc n) xs (λ i y got. (let next : f y ≡ n + suc i = each (suc i) y got in omega (arith, next))))

pub places_counted : {X : Type 0} (f : X → ℕ) (xs : List X) → HasPlaces f xs → NumbersCountUp 1 (map f xs)
places_counted f xs places = counted_from f 1 xs (λ i x got. (let here : f x ≡ suc i = places (suc i) x got in omega (arith, here)))

counted_at : {X : Type 0} (f : X → ℕ) (n : ℕ) (xs : List X) (i : ℕ) (x : X) → NumbersCountUp n (map f xs) → slice_get xs i ≡ Some x → f x ≡ n + i
counted_at f n [] i x e got = absurd (cc)
counted_at f n (y ∷ xs) zero x e got =
    let one : y ≡ x = (cc) in
    let at : f y ≡ n = e.0 in
    let same : f x ≡ n = ap f (sym one) ∙ at in omega (arith, same)
counted_at f n (y ∷ xs) (suc i) x e got = let next : f x ≡ suc n + i = counted_at f (suc n) xs i x e.1 got in omega (arith, next)

pub counted_places : {X : Type 0} (f : X → ℕ) (xs : List X) → NumbersCountUp 1 (map f xs) → HasPlaces f xs
counted_places f xs e zero x got = absurd (cc)
counted_places f xs e (suc i) x got = let at : f x ≡ 1 + i = counted_at f 1 xs i x e got in omega (arith, at)

-- so each is the one of its number
pub own_number : {X : Type 0} (f : X → ℕ) (xs : List X) (i : ℕ) (x : X) → NumbersCountUp 1 (map f xs) → slice_get xs i ≡ Some x → numbered xs (f x) ≡ Some x
own_number f xs i x e got =
    let at : f x ≡ suc i = counted_places f xs e (suc i) x got in ap (numbered xs) at ∙ got

pub all_own : {X : Type 0} (f : X → ℕ) (xs : List X) → NumbersCountUp 1 (map f xs) → list_all (λ (x : X). is_some (numbered xs (f x))) xs ≡ true
all_own f xs e = all_each (λ (x : _). is_some (numbered xs (f x))) xs (λ i x got. ap is_some (own_number f xs i x e got))
