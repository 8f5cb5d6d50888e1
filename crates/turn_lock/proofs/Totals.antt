-- Sums over the views of all handles.
use Rattle.std.proofs.Common.{◌≡◌, ℕ, zero, suc, ◌+◌, ◌≤◌, List, [], ◌∷◌, ◌++◌, set, refl, sym, ap, arith}
use mathlib.Core.Option.{some, some-injective, some-ne-none}
use lib.ListN.{get_elem?}
use Rattle.turn_lock.specs.Rule.{total}

module _ {V : Type 0} (f : V → ℕ) where
  pub total-set : (vs : List V) (i : ℕ) (v w : V) → get_elem? vs i ≡ some v → total f (set vs i w) + f v ≡ total f vs + f w
  total-set [] i v w at = absurd (some-ne-none v (sym at))
  total-set (x ∷ xs) zero v w at = let e : f x ≡ f v = ap f (some-injective x v at) in omega (arith, e)
  total-set (x ∷ xs) (suc i) v w at = let e = total-set xs i v w at in omega (arith, e)

  pub total-snoc : (vs : List V) (v : V) → total f (vs ++ v ∷ []) ≡ total f vs + f v
  total-snoc [] v = omega arith
  total-snoc (x ∷ xs) v = let e = total-snoc xs v in omega (arith, e)

  pub at_least : (vs : List V) (i : ℕ) (v : V) → get_elem? vs i ≡ some v → f v ≤ total f vs
  at_least [] i v at = absurd (some-ne-none v (sym at))
  at_least (x ∷ xs) zero v at = let e : f x ≡ f v = ap f (some-injective x v at) in omega (arith, e)
  at_least (x ∷ xs) (suc i) v at = let e = at_least xs i v at in omega (arith, e)

  none_of : (g : V → ℕ) (vs : List V) → ((i : ℕ) (u : V) → get_elem? vs i ≡ some u → g u ≡ 0 → f u ≡ 0) → total g vs ≡ 0 → total f vs ≡ 0
  none_of g [] h z = refl
  none_of g (x ∷ xs) h z = let here : f x ≡ 0 = h 0 x refl (omega arith) in let rest : total f xs ≡ 0 = none_of g xs (λ i u at. h (suc i) u at) (omega arith) in omega (arith, here, rest)

-- where one has all of g, and f is 0 wherever g is, it has all of f
pub total-alone : {V : Type 0} (f g : V → ℕ) (vs : List V) (i : ℕ) (v : V) → get_elem? vs i ≡ some v → total g vs ≡ g v
    → ((j : ℕ) (u : V) → get_elem? vs j ≡ some u → g u ≡ 0 → f u ≡ 0) → total f vs ≡ f v
total-alone f g [] i v at all h = absurd (some-ne-none v (sym at))
total-alone f g (x ∷ xs) zero v at all h = let e = some-injective x v at in let gx : g x ≡ g v = ap g e in let fx : f x ≡ f v = ap f e in
    let rest : total f xs ≡ 0 = none_of f g xs (λ j u t. h (suc j) u t) (omega (arith, gx)) in omega (arith, fx, rest)
total-alone f g (x ∷ xs) (suc i) v at all h = let least = at_least g xs i v at in let none : g x ≡ 0 = omega (arith, least) in let fx : f x ≡ 0 = h 0 x refl none in
    let rest : total f xs ≡ f v = total-alone f g xs i v at (omega (arith, none)) (λ j u t. h (suc j) u t) in omega (arith, fx, rest)
