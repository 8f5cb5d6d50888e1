-- The thing of a number is written back, or there is none.
use Rattle.std.proofs.Common.{◌≡◌, ◌∙◌, ℕ, zero, suc, ◌-◌, ap, sym, refl, arith, List, Option, Some, None, Result, Ok, Err, OnOk, slice_set}
use Rattle.session_actions.specs.Words.{changed, changed_if, numbered}

there : {X : Type 0} (f : X → X) (xs : List X) (number : ℕ) (x y : X) → numbered xs number ≡ Some x → y ≡ f x → slice_set xs (number - 1) y ≡ changed_if f number xs (Some x)
there f xs zero x y is new = absurd (let no : ⊥ = (cc) in no)
there f xs (suc k) x y is new =
    let e : suc k - 1 ≡ k = omega arith in
    ap (λ i. slice_set xs i y) e ∙ ap (slice_set xs k) new

pub put_changed : {X : Type 0} (f : X → X) (xs : List X) (number : ℕ) (x y : X) → numbered xs number ≡ Some x → y ≡ f x → slice_set xs (number - 1) y ≡ changed f number xs
put_changed f xs number x y is new = there f xs number x y is new ∙ ap (changed_if f number xs) (sym is)

pub put_on : {X T E : Type 0} (f : X → X) (xs : List X) (number : ℕ) (x y : X) (r : Result T E) → numbered xs number ≡ Some x → OnOk r (y ≡ f x) → OnOk r (slice_set xs (number - 1) y ≡ changed f number xs)
put_on f xs number x y (Ok u) is new = put_changed f xs number x y is new
put_on f xs number x y (Err e) is new = new

pub none_changed : {X : Type 0} (f : X → X) (xs : List X) (number : ℕ) → numbered xs number ≡ None → xs ≡ changed f number xs
none_changed f xs number is = ap (changed_if f number xs) (sym is)
