-- Writing the element of an index.
use Rattle.std.proofs.Common.{◌≡◌, ℕ, zero, suc, ◌<◌, List, [], ◌∷◌, length, refl, ap, sym, ◌∙◌, arith, slice_set, slice_get, get_or, Option, Some, None, Result, Ok, Err, OnOk}
use Rattle.attempt_ledger.specs.declared.ledger.CallSeen.{CallSeen}
use Rattle.ledger_stamps.specs.Steps.{changed, noted_call}

pub set-changed : {X : Type 0} (f : X → X) (xs : List X) (index : ℕ) (x y : X) → index < length xs → x ≡ get_or xs index x → y ≡ f x → slice_set xs index y ≡ changed f xs index
set-changed f [] index x y inside same new = absurd (omega arith)
set-changed f (z ∷ xs) zero x y inside same new = ap (λ v. v ∷ xs) (new ∙ ap f same)
set-changed f (z ∷ xs) (suc index) x y inside same new = ap (λ vs. z ∷ vs) (set-changed f xs index x y (omega arith) same new)

pub noted-at : {E : Type 0} (entry : ℕ) (xs : List CallSeen) (index : ℕ) (x y : CallSeen) (r : Result Unit E) → index < length xs → x ≡ get_or xs index x → OnOk r (y ≡ noted_call entry x) → OnOk r (slice_set xs index y ≡ changed (noted_call entry) xs index)
noted-at entry xs index x y (Ok u) inside same new = set-changed (noted_call entry) xs index x y inside same new
noted-at entry xs index x y (Err e) inside same new = new

-- the same of an element that was read
pub set-got : {X : Type 0} (f : X → X) (xs : List X) (index : ℕ) (x y : X) → slice_get xs index ≡ Some x → y ≡ f x → slice_set xs index y ≡ changed f xs index
set-got f [] index x y got new = absurd (cc)
set-got f (z ∷ xs) zero x y got new = let same : z ≡ x = (cc) in ap (λ v. v ∷ xs) (new ∙ ap f (sym same))
set-got f (z ∷ xs) (suc index) x y got new = ap (λ vs. z ∷ vs) (set-got f xs index x y got new)

pub past_none : {X : Type 0} (f : X → X) (xs : List X) (index : ℕ) → slice_get xs index ≡ None → changed f xs index ≡ xs
past_none f [] index got = refl
past_none f (z ∷ xs) zero got = absurd (cc)
past_none f (z ∷ xs) (suc index) got = ap (λ vs. z ∷ vs) (past_none f xs index got)
