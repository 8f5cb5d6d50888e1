-- The values that fields spell.
use Rattle.std.specs.Prelude.{ℕ, ◌≤◌, ◌<◌, ◌⊎◌, ◌^◌, List, All}
use Rattle.grpc_base.specs.declared.address.Address.{Address}

-- bytes
abbrev pub IsBytes : List ℕ → Type 0
IsBytes bytes = All (λ b. b < 256) bytes

-- an address with a port
pub record IsAddress (a : Address) : Type 0 where
  pub ip : a.ip < 2 ^ 32
  pub port_low : 1 ≤ a.port
  pub port_high : a.port < 2 ^ 16

-- a byte that is no digit
abbrev pub IsNoDigit : ℕ → Type 0
IsNoDigit b = (b < 48) ⊎ (57 < b)
