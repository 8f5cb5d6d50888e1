-- Ordered sets of pairs of numbers, each as the list of its pairs from the least on.
use Rattle.std.specs.Prelude.{ℕ, Bool, List, [], ◌∷◌, Option, Some, None, nat_le, if◌then◌else◌}
use Rattle.std.specs.List.{list_any, find}
use Rattle.std.specs.declared.cmp.Ordering.{Ordering}
use Rattle.std.specs.Ordering.{ordering_then, nat_cmp, is_eq, is_lt}

-- pairs stand by their first number, and where that is the same, by their second
abbrev pub pair_cmp : ℕ × ℕ → ℕ × ℕ → Ordering
pair_cmp p q = ordering_then (nat_cmp p.0 q.0) (nat_cmp p.1 q.1)

-- whether they are one pair
abbrev pub is_same : ℕ × ℕ → ℕ × ℕ → Bool
is_same p q = is_eq (pair_cmp p q)

-- whether the second stands after the first
abbrev pub comes_after : ℕ × ℕ → ℕ × ℕ → Bool
comes_after p q = is_lt (pair_cmp p q)

-- whether the pair is one of them
abbrev pub has : List (ℕ × ℕ) → ℕ × ℕ → Bool
has pairs p = list_any (is_same p) pairs

-- the first of them after this pair
abbrev pub next_after : List (ℕ × ℕ) → ℕ × ℕ → Option (ℕ × ℕ)
next_after pairs p = find (comes_after p) pairs

-- of timers, each a moment and a key: the first one, if its moment is at or before this one
abbrev pub first_due : List (ℕ × ℕ) → ℕ → Option (ℕ × ℕ)
first_due [] moment = None
first_due (t ∷ ts) moment = if nat_le t.0 moment then Some t else None

-- of timers: the moment of the first one
abbrev pub next_moment : List (ℕ × ℕ) → Option ℕ
next_moment [] = None
next_moment (t ∷ ts) = Some t.0
