-- Dialers that say nothing of the links to come.
use Rattle.std.proofs.Common.{◌≡◌, None, List, [], ◌∷◌, length, map, refl, arith}
use Rattle.gate_io.specs.Links.{untold}

-- four dialers say four times nothing
pub four_untold : {D : Type 0} (dialers : List D) → length dialers ≡ 4 → map (λ (d : D). untold d) dialers ≡ None ∷ None ∷ None ∷ None ∷ []
four_untold (a ∷ b ∷ c ∷ d ∷ []) four = refl
four_untold (a ∷ b ∷ c ∷ d ∷ e ∷ more) four = absurd (omega arith)
four_untold [] four = absurd (omega arith)
four_untold (a ∷ []) four = absurd (omega arith)
four_untold (a ∷ b ∷ []) four = absurd (omega arith)
four_untold (a ∷ b ∷ c ∷ []) four = absurd (omega arith)
