-- What a board keeps beside its list: the numbers of the live ones.
use Rattle.std.specs.Prelude.{ℕ, zero, suc, ◌+◌, ◌≡◌, ◌≤◌, Bool, ◌&&◌, ◌||◌, if◌then◌else◌, Option, Some, None, List, [], ◌∷◌, length}
use Rattle.grpc_base.specs.declared.address.Address.{Address}
use Rattle.grpc_base.specs.Addresses.{has_address}
use Rattle.subchannel.specs.Records.{SubRecord, is_live, next_of}
use Rattle.subchannel.specs.Boards.{numbered, changed_at, sooner, kept_or_shut}

-- the numbers of the live ones of a list whose first one has a number
abbrev pub live_numbers : ℕ → List SubRecord → List ℕ
live_numbers number [] = []
live_numbers number (s ∷ subs) = if is_live s then number ∷ live_numbers (number + 1) subs else live_numbers (number + 1) subs

-- the most that were ever made
abbrev pub made_limit : ℕ
made_limit = 4000000127

pub record IsBoard (live : List ℕ) (subs : List SubRecord) : Type 0 where
  pub numbers : live ≡ live_numbers 1 subs
  pub within : length subs ≤ made_limit

-- the moment at which the clock changes the subchannel of a number
abbrev pub next_of_one : Option SubRecord → Option ℕ
next_of_one None = None
next_of_one (Some s) = next_of s

-- the least of those moments
abbrev pub next_of_numbers : List SubRecord → List ℕ → Option ℕ
next_of_numbers subs [] = None
next_of_numbers subs (number ∷ numbers) = sooner (next_of_one (numbered subs number)) (next_of_numbers subs numbers)

-- a live one whose address is kept
abbrev pub stays : List Address → List Address → SubRecord → Bool
stays current pending s = is_live s && (has_address current s.address || has_address pending s.address)

-- so many numbers from one on
abbrev pub numbers_from : ℕ → ℕ → List ℕ
numbers_from number zero = []
numbers_from number (suc count) = number ∷ numbers_from (number + 1) count

-- the list after each of these numbers was looked at
abbrev pub kept_numbers : List Address → List Address → List ℕ → List SubRecord → List SubRecord
kept_numbers current pending [] subs = subs
kept_numbers current pending (number ∷ numbers) subs =
    kept_numbers current pending numbers (changed_at (kept_or_shut current pending) subs number)
