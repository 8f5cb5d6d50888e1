-- How much of an output was written.
use Rattle.std.specs.Prelude.{◌≡◌, ◌⊎◌, ℕ, Option, List}
use Rattle.gate_io.specs.Outside.{Appends, AppendsPrefix}

-- such a text was written whole
abbrev pub WritesAll : (List ℕ → Type 0) → Option (List ℕ) → Option (List ℕ) → Type 0
WritesAll Is taken taken' = (text : List ℕ) × Is text × Appends taken taken' text

-- a prefix of such a text was written
abbrev pub WritesPrefix : (List ℕ → Type 0) → Option (List ℕ) → Option (List ℕ) → Type 0
WritesPrefix Is taken taken' = (text : List ℕ) × Is text × AppendsPrefix taken taken' text

-- nothing was written, or a prefix of such a text
abbrev pub WritesSome : (List ℕ → Type 0) → Option (List ℕ) → Option (List ℕ) → Type 0
WritesSome Is taken taken' = (taken' ≡ taken) ⊎ WritesPrefix Is taken taken'
