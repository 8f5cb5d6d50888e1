-- What the fields of a response say to the application and to the retry policy.
use Rattle.std.specs.Prelude.{ℕ, Bool, Option, Some, None, List, [], ◌∷◌, ◌==◌, ◌&&◌, not, codes, map, filter, length, nat_eq, nat_lt, nat_le, bytes_eq, if◌then◌else◌}
use Rattle.std.specs.List.{flat_map, list_all, list_any, slice_split, starts_with}
use Rattle.http_header.specs.Token.{is_token_byte, is_value_byte}
use Rattle.grpc_base.specs.declared.fields.Field.{Field}
use Rattle.grpc_base.specs.declared.plan.Pushback.{Pushback}
use Rattle.grpc_base.specs.declared.plan.Pushback.TheVariants as pushback
use Rattle.grpc_base.specs.Metadata.{is_binary_name}
use Rattle.grpc_base.specs.Numbers.{is_number, number_of}
use Rattle.grpc_meta.specs.Base64.{bytes_of_base64}
use Rattle.grpc_meta.specs.RequestFields.{field}

-- the names that the protocol reads itself
abbrev pub protocol_names : List (List ℕ)
protocol_names =
    codes "content-type" ∷ codes "grpc-status" ∷ codes "grpc-message" ∷ codes "grpc-encoding"
    ∷ codes "grpc-accept-encoding" ∷ codes "grpc-retry-pushback-ms" ∷ []

-- whether a name is for the application: no pseudo-header and none of those names
abbrev pub is_for_application : List ℕ → Bool
is_for_application name =
    not (starts_with nat_eq name (codes ":")) && not (list_any (λ n. bytes_eq name n) protocol_names)

-- a byte of a name: one of a token, and no capital (RFC 9113, section 8.2.1)
abbrev pub is_field_name_byte : ℕ → Bool
is_field_name_byte b = is_token_byte b && not (nat_le 65 b && nat_le b 90)

-- whether a name may stand in a header
abbrev pub is_field_name : List ℕ → Bool
is_field_name name = nat_lt 0 (length name) && (nat_le (length name) 65535 && list_all is_field_name_byte name)

-- whether a value may: no byte of it is a control but the tab (RFC 9110, section 5.5)
abbrev pub is_field_value : List ℕ → Bool
is_field_value value = list_all is_value_byte value

-- the pair of a name and of bytes that may be missing
abbrev pub pair_if_read : List ℕ → Option (List ℕ) → List Field
pair_if_read name None = []
pair_if_read name (Some bytes) = field name bytes ∷ []

-- the texts between the commas of a value
abbrev pub between_commas : List ℕ → List (List ℕ)
between_commas value = slice_split (λ b. b == 44) value

-- the pairs of a field whose values are bytes: one for each text between its commas that is base64, and none where
-- it has more than 64 texts (gRPC over HTTP/2, "Binary-Header")
abbrev pub binary_pairs : List ℕ → List ℕ → List Field
binary_pairs name value =
    if nat_lt 64 (length (between_commas value)) then []
    else flat_map (λ text. pair_if_read name (bytes_of_base64 text)) (between_commas value)

-- the pairs of a field that the application gets
abbrev pub pairs_of : Field → List Field
pairs_of f =
    if not (is_for_application f.name && (is_field_name f.name && is_field_value f.value)) then []
    else if is_binary_name f.name then binary_pairs f.name f.value
    else f ∷ []

-- the metadata that the application gets of a header list
abbrev pub shown_of : List Field → List Field
shown_of fields = flat_map pairs_of fields

-- the values of a name, in their order
abbrev pub values_of : List ℕ → List Field → List (List ℕ)
values_of name fields = map (λ f. f.value) (filter (λ f. bytes_eq f.name name) fields)

-- one value: one to ten digits that write at most 2^31 - 1 are milliseconds, and anything else means stop
abbrev pub delay_of : List ℕ → Pushback
delay_of value =
    if is_number value && (nat_le (length value) 10 && nat_le (number_of value) 2147483647)
    then pushback.After (number_of value) else pushback.Stop

-- the values together (gRFC A6, "Pushback")
abbrev pub pushback_of : List (List ℕ) → Pushback
pushback_of [] = pushback.None
pushback_of (value ∷ []) = delay_of value
pushback_of (value ∷ other ∷ more) = pushback.Stop
