-- What the sets of std say, in the words of these definitions.
use Rattle.std.proofs.Common.{◌≡◌, ◌∙◌, ℕ, Bool, true, false, cond, not, ◌&&◌, ◌||◌, List, [], ◌∷◌, Some, None, ◌≤◌, refl, ap, sym, arith}
use Rattle.std.specs.List.{filter, find, slice_get}
use Rattle.std.proofs.lemmas.Bool.Decides.{nat_tests}
use Rattle.std.specs.Ordering.{is_gt}
use Rattle.picker_gate.specs.Pairs.{pair_cmp}

pub or_is_cond : (b x : Bool) → cond b true x ≡ b || x
or_is_cond true x = refl
or_is_cond false x = refl

pub and_is_cond : (b x : Bool) → cond b false x ≡ not b && x
and_is_cond true x = refl
and_is_cond false x = refl

-- the first that passes stands before those that pass
pub found_first : {X : Type 0} (p : X → Bool) (xs : List X) → find p xs ≡ slice_get (filter (λ x. p x && not false) xs) 0
found_first p [] = refl
found_first p (x ∷ xs) =
    elim (p x) as (λ b. cond b (Some x) (find p xs) ≡ slice_get (cond (b && not false) (x ∷ filter (λ y. p y && not false) xs) (filter (λ y. p y && not false) xs)) 0)
    [ true ↦ refl | false ↦ found_first p xs ]

pub some_found : {X : Type 0} (p : X → Bool) (xs ys rest : List X) (y : X) → ys ≡ filter (λ x. p x && not false) xs → ys ≡ y ∷ rest → Some y ≡ find p xs
some_found p xs ys rest y all prefix = ap (λ zs. slice_get zs 0) (sym prefix ∙ all) ∙ sym (found_first p xs)

pub none_found : {X : Type 0} (p : X → Bool) (xs ys : List X) → ys ≡ filter (λ x. p x && not false) xs → ys ≡ [] → None ≡ find p xs
none_found p xs ys all empty = ap (λ zs. slice_get zs 0) (sym empty ∙ all) ∙ sym (found_first p xs)

-- what isn't above a pair has a moment no less
pub not_above : (p q : ℕ × ℕ) → is_gt (pair_cmp p q) ≡ false → p.0 ≤ q.0
not_above p q h = grind (arith, nat_tests)
