-- A history of entries, the part of it that a handle has seen, and the entries in it that are the handle's own, each with its place.
use Rattle.std.specs.Prelude.{◌≡◌, ℕ, ◌+◌, ◌==◌, ◌≤◌, nat_lt, if◌then◌else◌, List, [], ◌∷◌, ◌++◌, Some, slice_get, length}
use Rattle.atomic_table.specs.Seated.{TableId}

-- which lock it is: its table, and its origin, what of the state under it no turn changes
pub record LockId : Type 0 where
  pub table : TableId
  pub origin : List ℕ

-- a handle as contracts see it: whose lock it is of, the beginning of the history that it has seen, its own entries,
-- its parts of the right to know the whole, and the holders that its claims found
pub record SeatSeen (E : Type 0) : Type 0 where
  pub lock : LockId
  pub seen : List E
  pub own : List (ℕ × E)
  pub parts : ℕ
  pub found : List ℕ

module _ {E : Type 0} where
  -- the history begins with this one
  abbrev pub StartsWith : List E → List E → Type 0
  StartsWith history front = (rest : List E) × (history ≡ front ++ rest)

  -- the entries from place n on, each with its place
  abbrev pub places : ℕ → List E → List (ℕ × E)
  places n [] = []
  places n (e ∷ es) = (n, e) ∷ places (n + 1) es

  -- how often the place x stands among them
  abbrev pub times : ℕ → List (ℕ × E) → ℕ
  times x [] = 0
  times x (p ∷ ps) = (if p.0 == x then 1 else 0) + times x ps

  -- one more, before the first of a greater place
  abbrev pub put_in_order : ℕ × E → List (ℕ × E) → List (ℕ × E)
  put_in_order p [] = p ∷ []
  put_in_order p (q ∷ qs) = if nat_lt p.0 q.0 then p ∷ q ∷ qs else q ∷ put_in_order p qs

  -- both lists as one, by place
  abbrev pub merged : List (ℕ × E) → List (ℕ × E) → List (ℕ × E)
  merged [] qs = qs
  merged (p ∷ ps) qs = put_in_order p (merged ps qs)

  -- each entry stands in the history at its place
  abbrev pub Stands : List E → List (ℕ × E) → Type 0
  Stands history [] = Unit {0}
  Stands history (p ∷ ps) = (slice_get history p.0 ≡ Some p.1) × Stands history ps

  -- the places ascend, from n on
  abbrev pub Ascends : ℕ → List (ℕ × E) → Type 0
  Ascends n [] = Unit {0}
  Ascends n (p ∷ ps) = (n ≤ p.0) × Ascends p.0 ps

-- 1 where the history has the place x, and else 0
abbrev pub once_below : ℕ → ℕ → ℕ
once_below x n = if nat_lt x n then 1 else 0

module _ {E : Type 0} where
  -- Its own entries stand in what it has seen, in order, each once. Where it has every part they are all of that
  pub record Owns (parts : ℕ) (own : List (ℕ × E)) (seen : List E) : Type 0 where
    pub stands : Stands seen own
    pub ascends : Ascends 0 own
    pub once : (x : ℕ) → times x own ≤ 1
    pub whole : parts ≡ 4294967296 → (x : ℕ) → times x own ≡ once_below x (length seen)
