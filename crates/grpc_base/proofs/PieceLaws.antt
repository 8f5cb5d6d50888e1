-- The pieces of a text by its first separator.
use Rattle.std.proofs.Common.{◌≡◌, ℕ, List, [], ◌∷◌, ◌++◌, false, ◌==◌, All, ap, ◌∙◌, eq-eqb, refl, arith}
use Rattle.std.proofs.lemmas.Bool.Decides.{nat_tests}
use Rattle.std.proofs.lemmas.List.Splits.{slice_split_none, slice_split_at}
use Rattle.grpc_base.specs.Pieces.{pieces}

-- a byte that is no separator is found to be none
no_separator : (separator b : ℕ) → (b ≡ separator → ⊥) → (b == separator) ≡ false
no_separator separator b other = grind (arith, nat_tests)

-- a text that is parted at its first separator
pub pieces-parted : (separator : ℕ) (text piece rest : List ℕ) → text ≡ piece ++ separator ∷ rest → All (λ b. b ≡ separator → ⊥) piece → pieces separator text ≡ piece ∷ pieces separator rest
pieces-parted separator text piece rest e free =
    ap (pieces separator) e
    ∙ slice_split_at (λ b. b == separator) piece separator rest (λ k h d. no_separator separator _ (free k h d)) (eq-eqb separator separator refl)

-- a text without a separator
pub pieces-whole : (separator : ℕ) (text : List ℕ) → All (λ b. b ≡ separator → ⊥) text → pieces separator text ≡ text ∷ []
pieces-whole separator text free = slice_split_none (λ b. b == separator) text (λ k h d. no_separator separator _ (free k h d))
