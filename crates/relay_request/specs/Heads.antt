-- Which header lists begin a call (gRPC over HTTP/2, "Requests": Request-Headers).
use Rattle.std.specs.Prelude.{ℕ, Bool, true, false, Option, Some, None, is_some, List, [], ◌∷◌, ◌==◌, ◌&&◌, ◌||◌, codes, nat_eq, slice_get, bytes_eq, if◌then◌else◌}
use Rattle.std.specs.List.{list_any, starts_with}
use Rattle.std.specs.Option.{option_map_or}
use Rattle.grpc_base.specs.declared.fields.Field.{Field}
use Rattle.grpc_base.specs.Requests.{names_of_path}
use Rattle.grpc_meta.specs.ResponseFields.{values_of}

abbrev pub is_post : Field → Bool
is_post f = bytes_eq f.name (codes ":method") && bytes_eq f.value (codes "POST")

-- a content type of gRPC: `application/grpc`, alone or followed by `+` or `;`
abbrev pub is_grpc_type : Option (List ℕ) → Bool
is_grpc_type None = false
is_grpc_type (Some value) =
    starts_with nat_eq value (codes "application/grpc")
    && option_map_or (λ b. (b == 43) || (b == 59)) (slice_get value 16) true

-- the first content type counts
abbrev pub has_grpc_type : List Field → Bool
has_grpc_type fields = is_grpc_type (slice_get (values_of (codes "content-type") fields) 0)

-- the values of `:path`: just one, which is the path of a method
abbrev pub one_path : List (List ℕ) → Option (List ℕ)
one_path [] = None
one_path (path ∷ []) = if is_some (names_of_path path) then Some path else None
one_path (path ∷ other ∷ more) = None

-- the path of the call that a header list begins, if it begins one
abbrev pub call_path : List Field → Option (List ℕ)
call_path fields =
    if list_any is_post fields && has_grpc_type fields then one_path (values_of (codes ":path") fields) else None
