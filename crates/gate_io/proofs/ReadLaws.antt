-- A read leaves the rest of what it took the prefix of.
use Rattle.std.proofs.Common.{◌≡◌, ℕ, ◌+◌, List, [], ◌∷◌, ◌++◌, length, take, drop, refl, ap, sym, ◌∙◌, arith}
use Rattle.std.proofs.lemmas.List.{take-append-drop, drop-drop}

pub prefix_and_rest : (bytes buffer : List ℕ) (at n : ℕ) → take n buffer ≡ take n (drop at bytes) → drop at bytes ≡ take n buffer ++ drop (at + n) bytes
prefix_and_rest bytes buffer at n e =
    sym (take-append-drop n (drop at bytes))
    ∙ ap (λ (t : List ℕ). t ++ drop n (drop at bytes)) (sym e)
    ∙ ap (λ (t : List ℕ). take n buffer ++ t) (drop-drop n at bytes)

-- a list of no length is empty
nothing : (xs : List ℕ) → length xs ≡ 0 → xs ≡ []
nothing [] e = refl
nothing (x ∷ xs) e = absurd (omega arith)

pub nothing_left : (bytes : List ℕ) (at : ℕ) → length (drop at bytes) ≡ 0 → drop at bytes ≡ []
nothing_left bytes at none = nothing (drop at bytes) none
