-- Prefixes of lists.
use Rattle.std.proofs.Common.{List, Some, [], ap, append-nil, append_assoc, arith, length, length-append, refl, slice_get, suc, sym, take, zero, ℕ, ◌++◌, ◌+◌, ◌∙◌, ◌∷◌, ◌≡◌, ◌≤◌}

pub record IsPrefix {X : Type 0} (xs ys : List X) : Type 0 where
  pub rest : List X
  pub is : ys ≡ xs ++ rest

pub prefix_self : {X : Type 0} (xs : List X) → IsPrefix xs xs
prefix_self xs = record { rest = []; is = sym (append-nil xs) }

pub prefix_same : {X : Type 0} (xs ys : List X) → ys ≡ xs → IsPrefix xs ys
prefix_same xs ys e = record { rest = []; is = e ∙ sym (append-nil xs) }

pub prefix_none : {X : Type 0} (ys : List X) → IsPrefix [] ys
prefix_none ys = record { rest = ys; is = refl }

pub prefix_join : {X : Type 0} (xs ys zs : List X) → IsPrefix xs ys → IsPrefix ys zs → IsPrefix xs zs
prefix_join xs ys zs f g = record {
  rest = f.rest ++ g.rest;
  is = g.is ∙ ap (λ (l : List _). l ++ g.rest) f.is ∙ append_assoc xs f.rest g.rest;
}

pub prefix_more : {X : Type 0} (xs ys zs : List X) → IsPrefix xs ys → IsPrefix xs (ys ++ zs)
prefix_more xs ys zs f = record { rest = f.rest ++ zs; is = ap (λ (l : List _). l ++ zs) f.is ∙ append_assoc xs f.rest zs }

pub prefix_of_none : {X : Type 0} (xs ys : List X) → xs ≡ [] → IsPrefix xs ys
prefix_of_none xs ys e = record { rest = ys; is = ap (λ (l : List _). l ++ ys) (sym e) }

-- the first ones
take_prefix : {X : Type 0} (xs rest : List X) → take (length xs) (xs ++ rest) ≡ xs
take_prefix [] rest = refl
take_prefix (x ∷ xs) rest = ap (λ (l : List _). x ∷ l) (take_prefix xs rest)

pub prefix_taken : {X : Type 0} (xs ys : List X) → IsPrefix xs ys → xs ≡ take (length xs) ys
prefix_taken xs ys f = sym (ap (take (length xs)) f.is ∙ take_prefix xs f.rest)

-- one more
next_of : {X : Type 0} (xs rest : List X) (x : X) → slice_get (xs ++ rest) (length xs) ≡ Some x → (more : List X) × (rest ≡ x ∷ more)
next_of [] [] x e = absurd (cc)
next_of [] (y ∷ more) x e = (more, (let one : y ≡ x = (cc) in ap (λ (z : _). z ∷ more) one))
next_of (y ∷ xs) rest x e = next_of xs rest x e

pub prefix_next : {X : Type 0} (xs ys : List X) (x : X) → IsPrefix xs ys → slice_get ys (length xs) ≡ Some x → IsPrefix (xs ++ x ∷ []) ys
prefix_next {X = X} xs ys x f e =
    let r : (more : List X) × (f.rest ≡ x ∷ more) = next_of xs f.rest x (ap (λ (l : List X). slice_get l (length xs)) (sym f.is) ∙ e) in
    record { rest = r.0; is = f.is ∙ ap (λ (l : List X). xs ++ l) r.1 ∙ sym (append_assoc xs (x ∷ []) r.0) }

-- what is in a prefix is in the whole, at its place
pub prefix_at : {X : Type 0} (xs ys : List X) (i : ℕ) (x : X) → IsPrefix xs ys → slice_get xs i ≡ Some x → slice_get ys i ≡ Some x
prefix_at {X = X} xs ys i x f e = ap (λ (l : List X). slice_get l i) f.is ∙ at_more xs f.rest i e
  where
    at_more : (xs rest : List X) (i : ℕ) → slice_get xs i ≡ Some x → slice_get (xs ++ rest) i ≡ Some x
    at_more [] rest i e = absurd (cc)
    at_more (y ∷ xs) rest zero e = e
    at_more (y ∷ xs) rest (suc i) e = at_more xs rest i e

pub inside : {X : Type 0} (xs : List X) (i : ℕ) (x : X) → slice_get xs i ≡ Some x → suc i ≤ length xs
inside [] i x e = absurd (cc)
inside (y ∷ xs) zero x e = omega arith
inside (y ∷ xs) (suc i) x e = let less : suc i ≤ length xs = inside xs i x e in omega (arith, less)

pub prefix_length : {X : Type 0} (xs ys : List X) → IsPrefix xs ys → length xs ≤ length ys
prefix_length {X = X} xs ys f =
    let all : length ys ≡ length xs + length f.rest = ap (λ (l : List X). length l) f.is ∙ length-append xs f.rest in omega (arith, all)

-- a prefix that is as long is the whole
pub prefix_whole : {X : Type 0} (xs ys : List X) → IsPrefix xs ys → length ys ≤ length xs → xs ≡ ys
prefix_whole {X = X} xs ys f less =
    let all : length ys ≡ length xs + length f.rest = ap (λ (l : List X). length l) f.is ∙ length-append xs f.rest in
    let none : length f.rest ≡ 0 = omega (arith, all, less) in
    sym (f.is ∙ ap (λ (l : List X). xs ++ l) (empty f.rest none) ∙ append-nil xs)
  where
    empty : (l : List X) → length l ≡ 0 → l ≡ []
    empty [] e = refl
    empty (y ∷ l) e = absurd (omega (arith, e))
