-- Small facts of lists.
use Rattle.std.proofs.Common.{◌≡◌, ℕ, List, [], ◌∷◌, refl, None}
use Rattle.std.specs.Prelude.{slice_get}

pub none_first : (xs : List ℕ) → slice_get xs 0 ≡ None → xs ≡ []
none_first [] e = refl
none_first (x ∷ xs) e = absurd (cc)
