-- The element of an index, and of a number.
use Rattle.std.proofs.Common.{◌≡◌, ◌∙◌, ℕ, zero, suc, ◌-◌, nat_lt, if◌then◌else◌, Bool, List, [], ◌∷◌, length, refl, ap, sym, inl, inr, arith, slice_set, slice_get, Option, Some, None, Result, Ok, Err, OnOk}
use Rattle.std.specs.Option.{option_map_or}
use Rattle.std.proofs.lemmas.Bool.{cases_Bool, ltb-false}
use Rattle.std.proofs.lemmas.Option.{slice_get_past}
use Rattle.ledger_stamps.specs.Steps.{changed, changed_at, index_at}
use Rattle.channel_core.specs.Tables.{numbered}

-- an element is written back
set_changed : {X : Type 0} (f : X → X) (xs : List X) (k : ℕ) (x y : X) → slice_get xs k ≡ Some x → y ≡ f x → slice_set xs k y ≡ changed f xs k
set_changed f [] k x y is new = refl
set_changed f (z ∷ xs) zero x y is new = let same : x ≡ z = (cc) in ap (λ v. v ∷ xs) (new ∙ ap f same)
set_changed f (z ∷ xs) (suc k) x y is new = ap (λ vs. z ∷ vs) (set_changed f xs k x y is new)

set_same : {X : Type 0} (xs : List X) (k : ℕ) (x y : X) → slice_get xs k ≡ Some x → y ≡ x → slice_set xs k y ≡ xs
set_same [] k x y is new = refl
set_same (z ∷ xs) zero x y is new = let same : x ≡ z = (cc) in ap (λ v. v ∷ xs) (new ∙ same)
set_same (z ∷ xs) (suc k) x y is new = ap (λ vs. z ∷ vs) (set_same xs k x y is new)

set_there : {X : Type 0} (xs : List X) (k : ℕ) (x y : X) → slice_get xs k ≡ Some x → slice_get (slice_set xs k y) k ≡ Some y
set_there [] k x y is = absurd (let no : ⊥ = (cc) in no)
set_there (z ∷ xs) zero x y is = refl
set_there (z ∷ xs) (suc k) x y is = set_there xs k x y is

past : {X : Type 0} (f : X → X) (xs : List X) (k : ℕ) → slice_get xs k ≡ None → changed f xs k ≡ xs
past f [] k is = refl
past f (z ∷ xs) zero is = absurd (let no : ⊥ = (cc) in no)
past f (z ∷ xs) (suc k) is = ap (λ vs. z ∷ vs) (past f xs k is)

-- so is that of a number
written : {X : Type 0} (xs : List X) (k : ℕ) (y : X) → slice_set xs (suc k - 1) y ≡ slice_set xs k y
written xs k y = let e : suc k - 1 ≡ k = omega arith in ap (λ i. slice_set xs i y) e

pub put_changed : {X : Type 0} (f : X → X) (xs : List X) (number : ℕ) (x y : X) → numbered xs number ≡ Some x → y ≡ f x → slice_set xs (number - 1) y ≡ changed_at f xs number
put_changed f xs zero x y is new = absurd (let no : ⊥ = (cc) in no)
put_changed {X} f xs (suc k) x y is new =
    let D : Bool → List X = λ b. option_map_or (λ i. changed f xs i) (if b then Some k else None) xs in
    elim (cases_Bool (nat_lt k (length xs))) [
      | inl inside ↦ written xs k y ∙ set_changed f xs k x y is new ∙ sym (ap D inside)
      | inr out ↦ let e : None ≡ Some x = sym (slice_get_past xs k (ltb-false k (length xs) out)) ∙ is in absurd (let no : ⊥ = (cc) in no)
    ]

pub put_on : {X T E : Type 0} (f : X → X) (xs : List X) (number : ℕ) (x y : X) (r : Result T E) → numbered xs number ≡ Some x → OnOk r (y ≡ f x) → OnOk r (slice_set xs (number - 1) y ≡ changed_at f xs number)
put_on f xs number x y (Ok u) is new = put_changed f xs number x y is new
put_on f xs number x y (Err e) is new = new

pub put_same : {X : Type 0} (xs : List X) (number : ℕ) (x y : X) → numbered xs number ≡ Some x → y ≡ x → slice_set xs (number - 1) y ≡ xs
put_same xs zero x y is new = absurd (let no : ⊥ = (cc) in no)
put_same xs (suc k) x y is new = written xs k y ∙ set_same xs k x y is new

pub put_there : {X : Type 0} (xs : List X) (number : ℕ) (x y : X) → numbered xs number ≡ Some x → numbered (slice_set xs (number - 1) y) number ≡ Some y
put_there xs zero x y is = absurd (let no : ⊥ = (cc) in no)
put_there xs (suc k) x y is = ap (λ l. slice_get l k) (written xs k y) ∙ set_there xs k x y is

-- no element has the number
pub none_changed : {X : Type 0} (f : X → X) (xs : List X) (number : ℕ) → numbered xs number ≡ None → xs ≡ changed_at f xs number
none_changed f xs zero is = refl
none_changed {X} f xs (suc k) is =
    let D : Bool → List X = λ b. option_map_or (λ i. changed f xs i) (if b then Some k else None) xs in
    elim (cases_Bool (nat_lt k (length xs))) [
      | inl inside ↦ sym (past f xs k is) ∙ sym (ap D inside)
      | inr out ↦ sym (ap D out)
    ]

-- an element is written back as it was, or changed, by a test of it
pub put_if : {X T E : Type 0} (p : Option X → Bool) (f : X → X) (xs : List X) (number : ℕ) (x y : X) (r : Result T E) → numbered xs number ≡ Some x
    → OnOk r (y ≡ (if p (Some x) then f x else x)) → OnOk r (slice_set xs (number - 1) y ≡ (if p (numbered xs number) then changed_at f xs number else xs))
put_if {X} p f xs number x y (Ok u) is new =
    let G : Bool → List X = λ b. if b then changed_at f xs number else xs in
    elim (cases_Bool (p (Some x))) [
      | inl passes ↦ put_changed f xs number x y is (new ∙ ap (λ b. if b then f x else x) passes) ∙ sym (ap G (ap p is ∙ passes))
      | inr fails ↦ put_same xs number x y is (new ∙ ap (λ b. if b then f x else x) fails) ∙ sym (ap G (ap p is ∙ fails))
    ]
put_if p f xs number x y (Err e) is new = new
