-- Changes of the thing of a number; and what a list has of which none passes a test.
use Rattle.std.proofs.Common.{◌≡◌, ◌<◌, ◌+◌, ◌∷◌, ◌++◌, ◌||◌, ap, arith, refl, sym, ◌∙◌, Bool, false, List, [], Option, None, Some, ℕ, zero, suc, cond, if◌then◌else◌, filter, length, slice_get}
use Rattle.std.proofs.lemmas.Bool.{lt-ltb, or_parts}
use Rattle.std.specs.List.{list_any}
use Rattle.std.specs.Option.{option_map, option_map_or, option_or}
use Rattle.std.specs.Prelude.{count_by, fold, slice_set}
use Rattle.ledger_stamps.specs.Steps as stamps
use Rattle.ledger_stamps.specs.Steps.{changed_at}
use Rattle.session_actions.specs.Words.{changed, changed_if, find_last, numbered}

set_here : {X : Type 0} (xs : List X) (i : ℕ) (x z : X) → slice_get xs i ≡ Some x → slice_get (slice_set xs i z) i ≡ Some z
set_here [] i x z e = absurd (cc)
set_here (y ∷ xs) zero x z e = refl
set_here (y ∷ xs) (suc i) x z e = set_here xs i x z e

set_away : {X : Type 0} (xs : List X) (i j : ℕ) (z : X) → (j ≡ i → ⊥) → slice_get (slice_set xs i z) j ≡ slice_get xs j
set_away [] i j z away = refl
set_away (y ∷ xs) zero zero z away = absurd (away refl)
set_away (y ∷ xs) zero (suc j) z away = refl
set_away (y ∷ xs) (suc i) zero z away = refl
set_away (y ∷ xs) (suc i) (suc j) z away = set_away xs i j z (λ e. away (ap suc e))

-- of a session
pub changed_here : {X : Type 0} (f : X → X) (n : ℕ) (xs : List X) (x : X) → numbered xs n ≡ Some x → numbered (changed f n xs) n ≡ Some (f x)
changed_here f zero xs x e = absurd (cc)
changed_here f (suc i) xs x e = ap (λ (o : Option _). slice_get (changed_if f (suc i) xs o) i) e ∙ set_here xs i x (f x) e

away_by : {X : Type 0} (f : X → X) (i k : ℕ) (xs : List X) (o : Option X) → (k ≡ suc i → ⊥) → numbered (changed_if f (suc i) xs o) k ≡ numbered xs k
away_by f i k xs None away = refl
away_by f i zero xs (Some x) away = refl
away_by f i (suc j) xs (Some x) away = set_away xs i j (f x) (λ e. away (ap suc e))

pub changed_away : {X : Type 0} (f : X → X) (n k : ℕ) (xs : List X) → (k ≡ n → ⊥) → numbered (changed f n xs) k ≡ numbered xs k
changed_away f zero k xs away = refl
changed_away f (suc i) k xs away = away_by f i k xs (slice_get xs i) away

changed_by : {X : Type 0} (f : X → X) (n : ℕ) (xs : List X) (o : Option X) → numbered xs n ≡ o → numbered (changed f n xs) n ≡ option_map f o
changed_by f n xs None e = ap (λ (z : Option _). numbered (changed_if f n xs z) n) e ∙ e
changed_by f n xs (Some x) e = changed_here f n xs x e

pub changed_map : {X : Type 0} (f : X → X) (n : ℕ) (xs : List X) → numbered (changed f n xs) n ≡ option_map f (numbered xs n)
changed_map f n xs = changed_by f n xs (numbered xs n) refl

set_twice : {X : Type 0} (xs : List X) (i : ℕ) (y z : X) → slice_set (slice_set xs i y) i z ≡ slice_set xs i z
set_twice [] i y z = refl
set_twice (x ∷ xs) zero y z = refl
set_twice (x ∷ xs) (suc i) y z = ap (λ (l : List _). x ∷ l) (set_twice xs i y z)

twice_by : {X : Type 0} (f g : X → X) (n : ℕ) (xs : List X) (o : Option X) → numbered xs n ≡ o → changed g n (changed f n xs) ≡ changed (λ (x : X). g (f x)) n xs
twice_by f g n xs None e =
    ap (λ (z : Option _). changed g n (changed_if f n xs z)) e ∙ ap (changed_if g n xs) e ∙ sym (ap (changed_if (λ (x : _). g (f x)) n xs) e)
twice_by f g zero xs (Some x) e = absurd (cc)
twice_by f g (suc i) xs (Some x) e =
    ap (λ (z : Option _). changed g (suc i) (changed_if f (suc i) xs z)) e ∙ ap (changed_if g (suc i) (slice_set xs i (f x))) (set_here xs i x (f x) e)
    ∙ set_twice xs i (f x) (g (f x)) ∙ sym (ap (changed_if (λ (x : _). g (f x)) (suc i) xs) e)

pub changed_twice : {X : Type 0} (f g : X → X) (n : ℕ) (xs : List X) → changed g n (changed f n xs) ≡ changed (λ (x : X). g (f x)) n xs
changed_twice f g n xs = twice_by f g n xs (numbered xs n) refl

-- of the ledger
stamp_get : {X : Type 0} (f : X → X) (xs : List X) (i : ℕ) (x : X) → slice_get xs i ≡ Some x → slice_get (stamps.changed f xs i) i ≡ Some (f x)
stamp_get f [] i x e = absurd (cc)
stamp_get f (y ∷ xs) zero x e = let one : y ≡ x = (cc) in ap (λ (z : _). Some (f z)) one
stamp_get f (y ∷ xs) (suc i) x e = stamp_get f xs i x e

within : {X : Type 0} (xs : List X) (i : ℕ) (x : X) → slice_get xs i ≡ Some x → i < length xs
within [] i x e = absurd (cc)
within (y ∷ xs) zero x e = omega arith
within (y ∷ xs) (suc i) x e = let next : i < length xs = within xs i x e in omega arith

pub stamped_here : {X : Type 0} (f : X → X) (n : ℕ) (xs : List X) (x : X) → numbered xs n ≡ Some x → numbered (changed_at f xs n) n ≡ Some (f x)
stamped_here f zero xs x e = absurd (cc)
stamped_here f (suc i) xs x e =
    ap (λ (b : Bool). slice_get (option_map_or (λ (index : ℕ). stamps.changed f xs index) (if b then Some i else None) xs) i)
    (lt-ltb i (length xs) (within xs i x e)) ∙ stamp_get f xs i x e

-- the last of a list
last_by : {X : Type 0} (xs : List X) (x : X) → slice_get (xs ++ x ∷ []) (length xs) ≡ Some x
last_by [] x = refl
last_by (y ∷ xs) x = last_by xs x

pub numbered_last : {X : Type 0} (xs : List X) (x : X) → numbered (xs ++ x ∷ []) (length xs + 1) ≡ Some x
numbered_last xs x =
    let number : length xs + 1 ≡ suc (length xs) = omega arith in
    ap (numbered (xs ++ x ∷ [])) number ∙ last_by xs x

-- where none passes a wider test
pub filter_none : {X : Type 0} (test wide : X → Bool) → ((x : X) → wide x ≡ false → test x ≡ false) → (xs : List X) → list_any wide xs ≡ false → filter test xs ≡ []
filter_none test wide restricted [] e = refl
filter_none test wide restricted (x ∷ xs) e =
    let parts : (wide x ≡ false) × (list_any wide xs ≡ false) = or_parts (wide x) (list_any wide xs) e in
    ap (λ (b : Bool). cond b (x ∷ filter test xs) (filter test xs)) (restricted x parts.0) ∙ filter_none test wide restricted xs parts.1

pub any_none : {X : Type 0} (test wide : X → Bool) → ((x : X) → wide x ≡ false → test x ≡ false) → (xs : List X) → list_any wide xs ≡ false → list_any test xs ≡ false
any_none test wide restricted [] e = refl
any_none test wide restricted (x ∷ xs) e =
    let parts : (wide x ≡ false) × (list_any wide xs ≡ false) = or_parts (wide x) (list_any wide xs) e in
    ap (λ (b : Bool). b || list_any test xs) (restricted x parts.0) ∙ any_none test wide restricted xs parts.1

pub last_none : {X : Type 0} (test wide : X → Bool) → ((x : X) → wide x ≡ false → test x ≡ false) → (xs : List X) → list_any wide xs ≡ false → find_last test xs ≡ None
last_none test wide restricted [] e = refl
last_none test wide restricted (x ∷ xs) e =
    let parts : (wide x ≡ false) × (list_any wide xs ≡ false) = or_parts (wide x) (list_any wide xs) e in
    ap (λ (o : Option _). option_or o (if test x then Some x else None)) (last_none test wide restricted xs parts.1)
    ∙ ap (λ (b : Bool). if b then Some x else None) (restricted x parts.0)

count_from : {X : Type 0} (test wide : X → Bool) → ((x : X) → wide x ≡ false → test x ≡ false) → (k : ℕ) (xs : List X) → list_any wide xs ≡ false
    → fold (λ n x. n + cond (test x) 1 0) k xs ≡ k
count_from test wide restricted k [] e = refl
count_from test wide restricted k (x ∷ xs) e =
    let parts : (wide x ≡ false) × (list_any wide xs ≡ false) = or_parts (wide x) (list_any wide xs) e in
    let same : k + 0 ≡ k = omega arith in
    ap (λ (b : Bool). fold (λ n y. n + cond (test y) 1 0) (k + cond b 1 0) xs) (restricted x parts.0)
    ∙ ap (λ (j : ℕ). fold (λ n y. n + cond (test y) 1 0) j xs) same ∙ count_from test wide restricted k xs parts.1

pub count_none : {X : Type 0} (test wide : X → Bool) → ((x : X) → wide x ≡ false → test x ≡ false) → (xs : List X) → list_any wide xs ≡ false → count_by test xs ≡ 0
count_none test wide restricted xs e = count_from test wide restricted 0 xs e

-- where none of a list passes a test, the thing of no number does
passes_not : {X : Type 0} (test : X → Bool) (xs : List X) (i : ℕ) (a : X) → list_any test xs ≡ false → slice_get xs i ≡ Some a → test a ≡ false
passes_not test [] i a none e = absurd (cc)
passes_not test (x ∷ xs) zero a none e =
    let parts : (test x ≡ false) × (list_any test xs ≡ false) = or_parts (test x) (list_any test xs) none in
    let one : a ≡ x = (cc) in ap test one ∙ parts.0
passes_not test (x ∷ xs) (suc i) a none e =
    let parts : (test x ≡ false) × (list_any test xs ≡ false) = or_parts (test x) (list_any test xs) none in
    passes_not test xs i a parts.1 e

pub numbered_not : {X : Type 0} (test : X → Bool) (xs : List X) (n : ℕ) (a : X) → list_any test xs ≡ false → numbered xs n ≡ Some a → test a ≡ false
numbered_not test xs zero a none e = absurd (cc)
numbered_not test xs (suc i) a none e = passes_not test xs i a none e
