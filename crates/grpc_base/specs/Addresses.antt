-- Lists of addresses: in order, none twice, at most 64.
use Rattle.std.specs.Prelude.{◌≤◌, ℕ, ◌/◌, ◌%◌, ◌^◌, decimal, Bool, List, [], ◌∷◌, ◌++◌, length, ◌==◌, ◌&&◌, if◌then◌else◌}
use Rattle.std.specs.List.{Contains, list_any}
use Rattle.grpc_base.specs.declared.address.Address.{Address}
pub use Rattle.grpc_base.specs.Limits.{address_limit}

-- no address stands again after itself
abbrev pub IsWithoutRepeats : List Address → Type 0
IsWithoutRepeats [] = Unit {0}
IsWithoutRepeats (a ∷ rest) = (Contains rest a → ⊥) × IsWithoutRepeats rest

-- what every list of addresses keeps
pub record IsAddressList (addresses : List Address) : Type 0 where
  pub no_repeats : IsWithoutRepeats addresses
  pub within : length addresses ≤ address_limit

-- whether a list has this address
abbrev pub has_address : List Address → Address → Bool
has_address addresses a = list_any (λ b. (b.ip == a.ip) && (b.port == a.port)) addresses

-- the list with an address at its end, unless it is there
abbrev pub with_address : List Address → Address → List Address
with_address addresses a = if has_address addresses a then addresses else addresses ++ a ∷ []

-- an address as four numbers and a port: `a.b.c.d:port`
abbrev pub address_text : Address → List ℕ
address_text a =
    decimal (a.ip / 2 ^ 24) ++ 46 ∷ decimal (a.ip / 2 ^ 16 % 256) ++ 46 ∷ decimal (a.ip / 2 ^ 8 % 256) ++ 46 ∷ decimal (a.ip % 256)
    ++ 58 ∷ decimal a.port
