-- What the metadata of a request keeps (gRPC over HTTP/2, "Custom-Metadata" and "Header-Name").
use Rattle.std.specs.Prelude.{◌≡◌, ◌≤◌, ℕ, ◌+◌, ◌*◌, ◌/◌, Bool, List, length, codes, nat_eq, nat_le, ◌&&◌, ◌||◌, ◌==◌, IsTrue, if◌then◌else◌, MatchBool}
use Rattle.std.specs.List.{All, AllPass, sum_by, starts_with, ends_with}
use Rattle.grpc_base.specs.declared.fields.Field.{Field}
pub use Rattle.grpc_base.specs.Limits.{meta_limit}

-- a byte of a name: a lower-case letter, a digit, `-`, `_` or `.`
abbrev pub is_meta_name_byte : ℕ → Bool
is_meta_name_byte b = (nat_le 97 b && nat_le b 122) || (nat_le 48 b && nat_le b 57) || (b == 45) || (b == 95) || (b == 46)

-- whether the value of this name is any bytes, sent as base64
abbrev pub is_binary_name : List ℕ → Bool
is_binary_name name = ends_with nat_eq name (codes "-bin")

-- a name that an application may send: none that the protocol itself uses
pub record IsMetaName (name : List ℕ) : Type 0 where
  pub not_empty : 1 ≤ length name
  pub within : length name ≤ 256
  pub bytes : AllPass is_meta_name_byte name
  pub not_grpc : IsTrue (starts_with nat_eq name (codes "grpc-")) → ⊥
  pub not_te : name ≡ codes "te" → ⊥
  pub not_content_type : name ≡ codes "content-type" → ⊥
  pub not_host : name ≡ codes "host" → ⊥
  pub not_connection : name ≡ codes "connection" → ⊥
  pub not_keep_alive : name ≡ codes "keep-alive" → ⊥
  pub not_proxy_connection : name ≡ codes "proxy-connection" → ⊥
  pub not_transfer_encoding : name ≡ codes "transfer-encoding" → ⊥
  pub not_upgrade : name ≡ codes "upgrade" → ⊥

-- a byte of a text value: a space or visible ASCII
abbrev pub is_meta_value_byte : ℕ → Bool
is_meta_value_byte b = nat_le 32 b && nat_le b 126

-- a text value: such bytes, with no space at either end
pub record IsTextValue (value : List ℕ) : Type 0 where
  pub bytes : AllPass is_meta_value_byte value
  pub no_space_first : IsTrue (starts_with nat_eq value (codes " ")) → ⊥
  pub no_space_last : IsTrue (ends_with nat_eq value (codes " ")) → ⊥

-- the value that a name may have
abbrev pub IsMetaValue : List ℕ → List ℕ → Type 0
IsMetaValue name value = MatchBool (is_binary_name name) (Unit {0}) (IsTextValue value)

-- how many bytes a value has on the wire: base64 without padding has four for three
abbrev pub sent_length : List ℕ → List ℕ → ℕ
sent_length name value = if is_binary_name name then (length value * 4 + 2) / 3 else length value

-- the size of one pair as it is sent: name, value and 32 (RFC 7541, section 4.1)
abbrev pub pair_size : Field → ℕ
pair_size f = length f.name + sent_length f.name f.value + 32

abbrev pub meta_size : List Field → ℕ
meta_size pairs = sum_by pair_size pairs

-- one pair of a request
pub record IsPair (f : Field) : Type 0 where
  pub name_is : IsMetaName f.name
  pub value_is : IsMetaValue f.name f.value

-- the metadata of a request
pub record IsRequestMetadata (pairs : List Field) : Type 0 where
  pub pairs_are : All IsPair pairs
  pub within : meta_size pairs ≤ meta_limit
