-- The header list of a request (gRPC over HTTP/2, "Requests": Request-Headers).
use Rattle.std.specs.Prelude.{ℕ, ◌+◌, ◌-◌, Option, Some, None, List, [], ◌∷◌, ◌++◌, codes, map, length, nat_le, if◌then◌else◌}
use Rattle.std.specs.List.{sum_by}
use Rattle.std.specs.Fmt.{decimal}
use Rattle.grpc_base.specs.declared.fields.Field.{Field}
use Rattle.grpc_base.specs.Metadata.{is_binary_name}
use Rattle.grpc_base.specs.Requests.{RequestSeen}
use Rattle.grpc_meta.specs.Base64.{base64_of}
use Rattle.grpc_meta.specs.Timeouts.{timeout_of}

-- the field of a name and a value
abbrev pub field : List ℕ → List ℕ → Field
field name value = record { name = name; value = value }

-- the time left, where there is a deadline
abbrev pub timeout_fields : Option ℕ → List Field
timeout_fields None = []
timeout_fields (Some left) = field (codes "grpc-timeout") (timeout_of left) ∷ []

-- from the second attempt on: how many there were before it (gRFC A6, "Exposed Retry Metadata")
abbrev pub attempt_fields : ℕ → List Field
attempt_fields number =
    if nat_le number 1 then [] else field (codes "grpc-previous-rpc-attempts") (decimal (number - 1)) ∷ []

-- a pair as it is sent: a value of bytes is base64 without padding (gRPC over HTTP/2, "Binary-Header")
abbrev pub sent : Field → Field
sent f = if is_binary_name f.name then field f.name (base64_of f.value) else f

-- the header list of one attempt
abbrev pub fields_of_request : RequestSeen → List ℕ → Option ℕ → ℕ → List Field
fields_of_request request authority left number =
    (field (codes ":method") (codes "POST") ∷ field (codes ":scheme") (codes "http") ∷ field (codes ":path") request.path
    ∷ field (codes ":authority") authority ∷ [])
    ++ timeout_fields left
    ++ (field (codes "te") (codes "trailers") ∷ field (codes "content-type") (codes "application/grpc") ∷ [])
    ++ attempt_fields number
    ++ map sent request.meta

-- the size of a field: name, value and 32 (RFC 7541, section 4.1)
abbrev pub field_size : Field → ℕ
field_size f = length f.name + length f.value + 32

-- the size of a header list (RFC 9113, section 10.5.1)
abbrev pub list_size : List Field → ℕ
list_size fields = sum_by field_size fields

-- the size up to which a header list fits one frame
abbrev pub list_limit : ℕ
list_limit = 16384

-- the size of the greatest header list: 1448 for method, scheme, a path of 1024 and an authority of 259 bytes. Then 53 for a time left
-- of nine, 102 for `te` and the content type, 68 for ten digits of earlier attempts, and 14336 for the metadata
abbrev pub greatest_list : ℕ
greatest_list = 16007
