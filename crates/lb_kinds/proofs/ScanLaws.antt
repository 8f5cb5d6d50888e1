-- A loop that changes each element of a list.
use Rattle.std.proofs.Common.{◌≡◌, ℕ, zero, suc, ◌+◌, ◌<◌, ◌∙◌, List, [], ◌∷◌, ◌++◌, length, map, take, drop, set, get_or, ap, subst, arith}
use Rattle.lb_kinds.specs.declared.marked.Marked.{Marked}

one-more : (f : Marked → Marked) (xs : List Marked) (i : ℕ) (d y : Marked) → i < length xs → y ≡ f (get_or (map f (take i xs) ++ drop i xs) i d) → set (map f (take i xs) ++ drop i xs) i y ≡ map f (take (suc i) xs) ++ drop (suc i) xs
one-more f [] i d y h e = search arith
one-more f (x ∷ xs) zero d y h e = ap (λ (z : Marked). z ∷ xs) e
one-more f (x ∷ xs) (suc i) d y h e = ap (λ (zs : List Marked). f x ∷ zs) (one-more f xs i d y (omega arith) e)

-- one element more of a list is changed
pub changed-more : (f : Marked → Marked) (xs now : List Marked) (i : ℕ) (d y : Marked) → now ≡ map f (take i xs) ++ drop i xs → i < length xs → y ≡ f (get_or now i d) → set now i y ≡ map f (take (i + 1) xs) ++ drop (i + 1) xs
changed-more f xs now i d y e h g =
    let next : suc i ≡ i + 1 = omega arith in
    ap (λ (zs : List Marked). set zs i y) e ∙ subst (λ (n : ℕ). set (map f (take i xs) ++ drop i xs) i y ≡ map f (take n xs) ++ drop n xs) next (one-more f xs i d y h (subst (λ (zs : List Marked). y ≡ f (get_or zs i d)) e g))
