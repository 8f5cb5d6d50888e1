-- A lookup in memory as contracts see it.
use Rattle.std.specs.Prelude.{◌≡◌, ◌⊎◌, ℕ, Option, Some, None, List, [], ◌∷◌}
use Rattle.gate_io.specs.Memory.{FailsNext}
use Rattle.dns_watch.specs.declared.lookup.Looked.{Looked}

-- the IPv4 addresses of each answer to come, the lookups that are to fail, how many were made, how many failed,
-- and the last answer
pub record LookupSeen : Type 0 where
  pub answers : List (List ℕ)
  pub failing : List ℕ
  pub lookups : ℕ
  pub faults : ℕ
  pub last : Option Looked

-- the next lookup finds nothing: it is to fail, or no answer is left
abbrev pub FindsNothing : LookupSeen → Type 0
FindsNothing l = FailsNext l.failing l.lookups ⊎ (l.answers ≡ [])

-- the next lookup finds these IPv4 addresses, and leaves these answers
abbrev pub Finds : LookupSeen → List ℕ → List (List ℕ) → Type 0
Finds l ips left = (FindsNothing l × (ips ≡ []) × (left ≡ l.answers)) ⊎ ((FindsNothing l → ⊥) × (l.answers ≡ ips ∷ left))

-- the next lookup may find these, whatever is left
abbrev pub MayFind : LookupSeen → List ℕ → Type 0
MayFind l ips = (left : List (List ℕ)) × Finds l ips left

-- the IPv4 addresses of an answer, where there is one
abbrev pub ips_of : Option (List ℕ) → List ℕ
ips_of (Some ips) = ips
ips_of None = []

-- a world with a lookup
pub record NamedSeen (W : Type 0) : Type 0 where
  pub world : W
  pub lookup : LookupSeen
