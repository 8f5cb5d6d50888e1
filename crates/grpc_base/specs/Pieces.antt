-- Texts parted at a separator.
use Rattle.std.specs.Prelude.{ℕ, List, [], Option, Some, None, ◌==◌}
use Rattle.std.specs.List.{slice_split}

-- what stands before, between and after the separators of a text: one piece more than there are separators
abbrev pub pieces : ℕ → List ℕ → List (List ℕ)
pieces separator text = slice_split (λ b. b == separator) text

-- the pieces of what stands after a separator, if there is one
abbrev pub pieces_of_rest : ℕ → Option (List ℕ) → List (List ℕ)
pieces_of_rest separator None = []
pieces_of_rest separator (Some rest) = pieces separator rest
