-- Texts on their way to a sink: words after words, and lines that wait until the sink takes them.
use Rattle.std.specs.Prelude.{◌≡◌, ℕ, Option, List, ◌∷◌, ◌++◌, flat_map}
use Rattle.gate_io.specs.Outside.{Appends}

-- each word after a space
abbrev pub spaced : List (List ℕ) → List ℕ
spaced ws = flat_map (λ w. 32 ∷ w) ws

-- a text came after what waited; a prefix of both was taken, and the rest of both waits
pub record Passes (before : Option (List ℕ)) (waited : List ℕ) (after : Option (List ℕ)) (waits text : List ℕ) : Type 0 where
  pub prefix : List ℕ
  pub joined : waited ++ text ≡ prefix ++ waits
  pub taken : Appends before after prefix
