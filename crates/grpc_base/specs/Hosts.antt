-- Names of hosts (RFC 1123, section 2.1; RFC 1035, section 2.3.1).
use Rattle.std.specs.Prelude.{◌≤◌, ℕ, Bool, ◌&&◌, ◌||◌, ◌==◌, nat_eq, nat_le, List, length, codes, IsTrue, All}
use Rattle.std.specs.List.{AllPass, starts_with, ends_with}
use Rattle.grpc_base.specs.Pieces.{pieces}

-- a letter, a digit or a hyphen
abbrev pub is_label_byte : ℕ → Bool
is_label_byte b = (nat_le 97 b && nat_le b 122) || (nat_le 65 b && nat_le b 90) || (nat_le 48 b && nat_le b 57) || (b == 45)

-- a label: 1 to 63 of these, with no hyphen at either end
pub record IsLabel (label : List ℕ) : Type 0 where
  pub not_empty : 1 ≤ length label
  pub within : length label ≤ 63
  pub bytes : AllPass is_label_byte label
  pub no_hyphen_first : IsTrue (starts_with nat_eq label (codes "-")) → ⊥
  pub no_hyphen_last : IsTrue (ends_with nat_eq label (codes "-")) → ⊥

-- a host: labels with dots between them, in 1 to 253 bytes
pub record IsHost (host : List ℕ) : Type 0 where
  pub within : length host ≤ 253
  pub labels : All IsLabel (pieces 46 host)
