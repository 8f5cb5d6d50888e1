-- The first of several that gives something.
use Rattle.std.proofs.Common.{◌≡◌, ◌∙◌, ◌<◌, ℕ, zero, suc, List, [], ◌∷◌, Option, None, Some, refl, ap, arith, slice_get}
use Rattle.std.specs.Option.{option_or}
use Rattle.session_actions.specs.Words.{first_of, numbered}

first_at : {X Y : Type 0} (f : X → Option Y) (xs : List X) (i : ℕ) (x : X) (y : Y) → slice_get xs i ≡ Some x → f x ≡ Some y
    → ((j : ℕ) (z : X) → j < i → slice_get xs j ≡ Some z → f z ≡ None) → first_of f xs ≡ Some y
first_at f [] i x y e gives none = absurd (cc)
first_at f (z ∷ xs) zero x y e gives none =
    let one : z ≡ x = (cc) in ap (λ (o : Option _). option_or o (first_of f xs)) (ap f one ∙ gives)
first_at f (z ∷ xs) (suc i) x y e gives none =
    ap (λ (o : Option _). option_or o (first_of f xs)) (none zero z (omega arith) refl)
    ∙ first_at f xs i x y e gives (λ j w below there. none (suc j) w (omega (arith, below)) there)

pub first_numbered : {X Y : Type 0} (f : X → Option Y) (xs : List X) (n : ℕ) (x : X) (y : Y) → numbered xs n ≡ Some x → f x ≡ Some y
    → ((m : ℕ) (z : X) → m < n → numbered xs m ≡ Some z → f z ≡ None) → first_of f xs ≡ Some y
first_numbered f xs zero x y e gives none = absurd (cc)
first_numbered f xs (suc i) x y e gives none = first_at f xs i x y e gives (λ j z below there. none (suc j) z (omega (arith, below)) there)

none_from : {X Y : Type 0} (f : X → Option Y) (xs : List X) → ((j : ℕ) (z : X) → slice_get xs j ≡ Some z → f z ≡ None) → first_of f xs ≡ None
none_from f [] none = refl
none_from f (z ∷ xs) none = ap (λ (o : Option _). option_or o (first_of f xs)) (none zero z refl) ∙ none_from f xs (λ j w there. none (suc j) w there)

pub none_numbered : {X Y : Type 0} (f : X → Option Y) (xs : List X) → ((m : ℕ) (z : X) → numbered xs m ≡ Some z → f z ≡ None) → first_of f xs ≡ None
none_numbered f xs none = none_from f xs (λ j z there. none (suc j) z there)
