-- What one write makes of the list that a rack is to contracts.
use Rattle.std.proofs.Common.{◌≡◌, ℕ, zero, suc, ◌+◌, ◌≤◌, ◌<◌, ◌∙◌, List, [], ◌∷◌, ◌++◌, length, map, take, drop, set, get_or, refl, ap, sym, subst, arith}
use Rattle.lb_policy.specs.Table.{PolicySeen}
use Rattle.policy_rack.specs.Steps.{changed}

changed-set : {X : Type 0} (seen : X → PolicySeen) (f : PolicySeen → PolicySeen) (xs : List X) (i : ℕ) (d y : X) → seen y ≡ f (seen (get_or xs i d)) → map seen (set xs i y) ≡ changed f (map seen xs) i
changed-set seen f [] i d y e = refl
changed-set seen f (x ∷ xs) zero d y e = ap (λ (p : PolicySeen). p ∷ map seen xs) e
changed-set seen f (x ∷ xs) (suc i) d y e = ap (λ (ps : List PolicySeen). seen x ∷ ps) (changed-set seen f xs i d y e)

-- the policy at a place was changed
pub wrote : {X : Type 0} (seen : X → PolicySeen) (f : PolicySeen → PolicySeen) (xs : List X) (i : ℕ) (x y : X) → x ≡ get_or xs i x → seen y ≡ f (seen x) → map seen (set xs i y) ≡ changed f (map seen xs) i
wrote seen f xs i x y at e = changed-set seen f xs i x y (e ∙ ap (λ z. f (seen z)) at)

-- no policy is there
pub past : {X : Type 0} (seen : X → PolicySeen) (f : PolicySeen → PolicySeen) (xs : List X) (i : ℕ) → length xs ≤ i → map seen xs ≡ changed f (map seen xs) i
past seen f [] i h = refl
past seen f (x ∷ xs) zero h = search arith
past seen f (x ∷ xs) (suc i) h = ap (λ (ps : List PolicySeen). seen x ∷ ps) (past seen f xs i (omega arith))

-- one policy more of all is changed
one-more : (f : PolicySeen → PolicySeen) (ps : List PolicySeen) (i : ℕ) (d q : PolicySeen) → i < length ps → q ≡ f (get_or (map f (take i ps) ++ drop i ps) i d) → set (map f (take i ps) ++ drop i ps) i q ≡ map f (take (suc i) ps) ++ drop (suc i) ps
one-more f [] i d q h e = search arith
one-more f (p ∷ ps) zero d q h e = ap (λ (r : PolicySeen). r ∷ ps) e
one-more f (p ∷ ps) (suc i) d q h e = ap (λ (rs : List PolicySeen). f p ∷ rs) (one-more f ps i d q (omega arith) e)

get_or-map : {X : Type 0} (seen : X → PolicySeen) (xs : List X) (i : ℕ) (d : X) → get_or (map seen xs) i (seen d) ≡ seen (get_or xs i d)
get_or-map seen [] i d = refl
get_or-map seen (x ∷ xs) zero d = refl
get_or-map seen (x ∷ xs) (suc i) d = get_or-map seen xs i d

map-set : {X : Type 0} (seen : X → PolicySeen) (xs : List X) (i : ℕ) (y : X) → map seen (set xs i y) ≡ set (map seen xs) i (seen y)
map-set seen [] i y = refl
map-set seen (x ∷ xs) zero y = refl
map-set seen (x ∷ xs) (suc i) y = ap (λ (ps : List PolicySeen). seen x ∷ ps) (map-set seen xs i y)

pub changed-more : {X : Type 0} (seen : X → PolicySeen) (f : PolicySeen → PolicySeen) (xs : List X) (ps : List PolicySeen) (i : ℕ) (d y : X) → map seen xs ≡ map f (take i ps) ++ drop i ps → i < length ps → seen y ≡ f (seen (get_or xs i d)) → map seen (set xs i y) ≡ map f (take (i + 1) ps) ++ drop (i + 1) ps
changed-more seen f xs ps i d y now within e =
    let next : suc i ≡ i + 1 = omega arith in
    let read : seen y ≡ f (get_or (map seen xs) i (seen d)) = e ∙ ap f (sym (get_or-map seen xs i d)) in
    map-set seen xs i y ∙ ap (λ (qs : List PolicySeen). set qs i (seen y)) now ∙ subst (λ (n : ℕ). set (map f (take i ps) ++ drop i ps) i (seen y) ≡ map f (take n ps) ++ drop n ps) next (one-more f ps i (seen d) (seen y) within (subst (λ (qs : List PolicySeen). seen y ≡ f (get_or qs i (seen d))) now read))
