-- All subchannels that a channel made, by number from 1 in order of first appearance ("gRPC Connectivity Semantics and API").
use Rattle.std.specs.Prelude.{ℕ, zero, suc, ◌≤◌, min, Bool, false, not, ◌&&◌, ◌||◌, ◌==◌, if◌then◌else◌, Option, Some, None, List, [], ◌∷◌, ◌++◌, length, map, filter, slice_get}
use Rattle.std.specs.List.{list_any, position_from}
use Rattle.grpc_base.specs.declared.address.Address.{Address}
use Rattle.grpc_base.specs.Addresses.{has_address}
use Rattle.subchannel.specs.Records.{SubRecord, is_live, new_sub, shut_down, is_due, clocked, next_of}

-- the subchannel of a number
abbrev pub numbered : List SubRecord → ℕ → Option SubRecord
numbered subs zero = None
numbered subs (suc place) = slice_get subs place

-- whether the subchannel of a number passes a test
abbrev pub passes_test : (SubRecord → Bool) → Option SubRecord → Bool
passes_test p None = false
passes_test p (Some s) = p s

abbrev pub passes : (SubRecord → Bool) → List SubRecord → ℕ → Bool
passes p subs number = passes_test p (numbered subs number)

-- whether a subchannel has that number
pub record HasNumber (subs : List SubRecord) (number : ℕ) : Type 0 where
  pub from_one : 1 ≤ number
  pub within : number ≤ length subs

-- the list after something happened to the subchannel at a place
abbrev pub changed : (SubRecord → SubRecord) → List SubRecord → ℕ → List SubRecord
changed f [] place = []
changed f (s ∷ subs) zero = f s ∷ subs
changed f (s ∷ subs) (suc place) = s ∷ changed f subs place

-- the list after something happened to the subchannel of a number; no subchannel has number 0
abbrev pub changed_at : (SubRecord → SubRecord) → List SubRecord → ℕ → List SubRecord
changed_at f subs zero = subs
changed_at f subs (suc place) = changed f subs place

-- the lowest number of a subchannel that passes a test
abbrev pub first_number : (SubRecord → Bool) → List SubRecord → Option ℕ
first_number p subs = position_from p 1 subs

-- a live subchannel of an address
abbrev pub is_live_at : Address → SubRecord → Bool
is_live_at a s = is_live s && (s.address.ip == a.ip) && (s.address.port == a.port)

abbrev pub has_live : List SubRecord → Address → Bool
has_live subs a = list_any (is_live_at a) subs

-- the first change of the clock, by number
abbrev pub clocked_at : ℕ → List SubRecord → Option ℕ → List SubRecord
clocked_at moment subs None = subs
clocked_at moment subs (Some number) = changed_at (clocked moment) subs number

abbrev pub first_clocked : ℕ → List SubRecord → List SubRecord
first_clocked moment subs = clocked_at moment subs (first_number (is_due moment) subs)

-- the sooner of two moments, where there are any
abbrev pub sooner : Option ℕ → Option ℕ → Option ℕ
sooner None b = b
sooner (Some t) None = Some t
sooner (Some t) (Some u) = Some (min t u)

-- the least moment at which the clock changes one
abbrev pub next_of_all : List SubRecord → Option ℕ
next_of_all [] = None
next_of_all (s ∷ subs) = sooner (next_of s) (next_of_all subs)

-- what becomes of a subchannel where these two lists are kept
abbrev pub kept_or_shut : List Address → List Address → SubRecord → SubRecord
kept_or_shut current pending s =
    if is_live s && not (has_address current s.address || has_address pending s.address) then shut_down s else s

-- the addresses of a list that have no live subchannel, but for some others
abbrev pub lacking : List SubRecord → List Address → List Address → List Address
lacking subs others addresses = filter (λ a. not (has_live subs a) && not (has_address others a)) addresses

-- the list after these two lists of addresses are kept: those of neither are shut, new ones come after
abbrev pub kept : List Address → List Address → List SubRecord → List SubRecord
kept current pending subs =
    map (kept_or_shut current pending) subs ++ map new_sub (lacking subs [] current ++ lacking subs current pending)
