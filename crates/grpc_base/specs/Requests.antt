-- Requests as contracts see them (gRPC over HTTP/2, "Requests").
use Rattle.std.specs.Prelude.{◌≡◌, ◌≤◌, ℕ, Bool, not, ◌&&◌, ◌==◌, nat_le, nat_lt, if◌then◌else◌, Option, Some, None, List, [], ◌∷◌, ◌++◌, length, IfSome, All}
use Rattle.std.specs.List.{list_all}
use Rattle.std.specs.Str.{bytes_eq}
use Rattle.grpc_base.specs.declared.fields.Field.{Field}
use Rattle.grpc_base.specs.Limits.{duration_limit, path_limit}
use Rattle.grpc_base.specs.Metadata.{IsRequestMetadata}
use Rattle.grpc_base.specs.Pieces.{pieces}

-- what an application asks of the channel with one call
pub record RequestSeen : Type 0 where
  pub path : List ℕ
  pub meta : List Field
  pub wait : Option Bool
  pub timeout : Option ℕ

-- a byte of a service or a method: visible ASCII but for the slash
pub record IsNameByte (b : ℕ) : Type 0 where
  pub visible : 33 ≤ b
  pub ascii : b ≤ 126
  pub no_slash : b ≡ 47 → ⊥

-- a service or a method: not empty, of such bytes
pub record IsName (name : List ℕ) : Type 0 where
  pub not_empty : name ≡ [] → ⊥
  pub visible : All IsNameByte name

-- a path: a slash, a service, a slash, a method, in at most 1,024 bytes
pub record IsPath (path : List ℕ) : Type 0 where
  pub service : List ℕ
  pub method : List ℕ
  pub joined : path ≡ 47 ∷ service ++ 47 ∷ method
  pub service_is : IsName service
  pub method_is : IsName method
  pub within : length path ≤ path_limit

-- whether a text is a service or a method
abbrev pub is_name_byte : ℕ → Bool
is_name_byte b = nat_le 33 b && nat_le b 126 && not (b == 47)

abbrev pub is_name : List ℕ → Bool
is_name name = nat_lt 0 (length name) && list_all is_name_byte name

-- the service and the method of what stands before, between and after the slashes of a path: nothing and both names
abbrev pub names_of_pieces : List (List ℕ) → Option (List ℕ × List ℕ)
names_of_pieces (prefix ∷ service ∷ method ∷ []) = if bytes_eq prefix [] && is_name service && is_name method then Some (service, method) else None
names_of_pieces ps = None

-- the service and the method of a path; nothing exactly where a text is no path
abbrev pub names_of_path : List ℕ → Option (List ℕ × List ℕ)
names_of_path path = if nat_le (length path) path_limit then names_of_pieces (pieces 47 path) else None

-- what every request keeps
pub record IsRequest (r : RequestSeen) : Type 0 where
  pub path_is : IsPath r.path
  pub meta_is : IsRequestMetadata r.meta
  pub timeout_is : IfSome r.timeout (λ t. t ≤ duration_limit)
