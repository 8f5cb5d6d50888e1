-- Which fields of a request are metadata of its call (gRPC over HTTP/2, "Custom-Metadata").
use Rattle.std.specs.Prelude.{ℕ, ◌+◌, Bool, not, ◌&&◌, ◌||◌, Option, Some, None, List, [], ◌∷◌, ◌++◌, length, codes, nat_eq, nat_le, bytes_eq, if◌then◌else◌}
use Rattle.std.specs.List.{list_all, list_any, starts_with, ends_with}
use Rattle.grpc_base.specs.declared.fields.Field.{Field}
use Rattle.grpc_base.specs.Metadata.{is_binary_name, is_meta_name_byte, is_meta_value_byte, meta_limit, meta_size, pair_size}

-- the names that the protocol uses itself
abbrev pub used_names : List (List ℕ)
used_names =
    codes "te" ∷ codes "content-type" ∷ codes "host" ∷ codes "connection" ∷ codes "keep-alive" ∷ codes "proxy-connection"
    ∷ codes "transfer-encoding" ∷ codes "upgrade" ∷ []

-- whether metadata may have this name: 1 to 256 bytes of a name, none of the protocol's
abbrev pub may_name : List ℕ → Bool
may_name name =
    nat_le 1 (length name) && nat_le (length name) 256 && list_all is_meta_name_byte name
    && not (starts_with nat_eq name (codes "grpc-")) && not (list_any (λ n. bytes_eq name n) used_names)

-- whether a text may be a value: visible ASCII and spaces, with no space at either end
abbrev pub may_text : List ℕ → Bool
may_text value =
    list_all is_meta_value_byte value && not (starts_with nat_eq value (codes " ")) && not (ends_with nat_eq value (codes " "))

-- whether it may be a pair; the value of a name that ends in `-bin` is any bytes
abbrev pub may_pair : Field → Bool
may_pair f = may_name f.name && (is_binary_name f.name || may_text f.value)

-- metadata with a pair more: one that it may not have is passed over, and it has room for 14,336 bytes
abbrev pub with_pair : Option (List Field) → Field → Option (List Field)
with_pair None f = None
with_pair (Some meta) f =
    if not (may_pair f) then Some meta
    else if nat_le (meta_size meta + pair_size f) meta_limit then Some (meta ++ f ∷ [])
    else None

-- with all of them, in their order; none where there is no room
abbrev pub metadata_from : Option (List Field) → List Field → Option (List Field)
metadata_from meta [] = meta
metadata_from meta (f ∷ pairs) = metadata_from (with_pair meta f) pairs
