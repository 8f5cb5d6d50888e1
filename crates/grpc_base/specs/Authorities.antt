-- The authority that a request names (RFC 9110, section 7.2; gRPC over HTTP/2, "Requests": Authority).
use Rattle.std.specs.Prelude.{◌≤◌, ℕ, Bool, ◌&&◌, nat_le, List, length}
use Rattle.std.specs.List.{AllPass}

-- visible ASCII
abbrev pub is_visible : ℕ → Bool
is_visible b = nat_le 33 b && nat_le b 126

-- an authority: 1 to 259 bytes of visible ASCII; the longest is a host of 253, a colon and a port of five digits
pub record IsAuthority (text : List ℕ) : Type 0 where
  pub not_empty : 1 ≤ length text
  pub within : length text ≤ 259
  pub visible : AllPass is_visible text
