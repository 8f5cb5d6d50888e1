-- The places of members in the order of their names, by which the reader finds a name among them.
use Rattle.std.specs.Prelude.{◌≡◌, ℕ, zero, suc, ◌<◌, Bool, false, ◌||◌, List, [], ◌∷◌, length, Result, Ok, Err}
use Rattle.std.specs.List.{All, list_any, insert}
use Rattle.std.specs.List.Sorted.{IsNonDecreasingBy}
use Rattle.std.specs.declared.cmp.Ordering.{Ordering}
use Rattle.std.specs.Ordering.{nat_cmp, ordering_index}
use Rattle.std.specs.Cmp.Lexicographic.{slice_cmp}
use Rattle.std.specs.Str.{bytes_eq}

-- the name at a place, and none after the last
abbrev pub name_at : {V : Type 0} → List (List ℕ × V) → ℕ → List ℕ
name_at [] i = []
name_at (m ∷ ms) zero = m.0
name_at (m ∷ ms) (suc i) = name_at ms i

-- the name among the members, from the start
abbrev pub any_named : {V : Type 0} → List ℕ → List (List ℕ × V) → Bool
any_named name [] = false
any_named name (m ∷ ms) = bytes_eq m.0 name || any_named name ms

-- how the name at a place stands to this one
abbrev pub place_cmp : {V : Type 0} → List (List ℕ × V) → List ℕ → ℕ → Ordering
place_cmp ms name i = slice_cmp nat_cmp (name_at ms i) name

-- each is a place of a member
abbrev pub PlacesAreWithin : {V : Type 0} → List (List ℕ × V) → List ℕ → Type 0
PlacesAreWithin ms order = All (λ i. i < length ms) order

-- no name is left out
abbrev pub HaveAll : {V : Type 0} → List (List ℕ × V) → List ℕ → Type 0
HaveAll ms order = (name : List ℕ) → any_named name ms ≡ list_any (λ i. bytes_eq (name_at ms i) name) order

-- along them, what is below a name comes before what is above it
abbrev pub NamesAreRising : {V : Type 0} → List (List ℕ × V) → List ℕ → Type 0
NamesAreRising ms order = (name : List ℕ) → IsNonDecreasingBy (λ i. ordering_index (place_cmp ms name i)) order

-- the places with one more, unless the search has found its name
abbrev pub placed : Result ℕ ℕ → List ℕ → ℕ → List ℕ
placed (Ok i) order place = order
placed (Err i) order place = insert order i place
