-- The header blocks of a response (gRPC over HTTP/2, "Responses").
use Rattle.std.specs.Prelude.{ℕ, ◌-◌, ◌==◌, Bool, List, [], ◌∷◌, ◌++◌, length, codes, map, nat_le, if◌then◌else◌}
use Rattle.std.specs.Fmt.{decimal}
use Rattle.grpc_base.specs.Codes.{code_number}
use Rattle.grpc_base.specs.declared.code.Code.{Code}
use Rattle.grpc_base.specs.declared.fields.Field.{Field}
use Rattle.grpc_meta.specs.RequestFields.{field, sent}
use Rattle.h2_hpack.specs.Encoding.{block_bytes}
use Rattle.h2_hpack.specs.Tables.{field_size}
use Rattle.script_fields.specs.Spelling.{percent_text}

-- what begins a response
abbrev pub head_fields : List Field
head_fields = field (codes ":status") (codes "200") ∷ field (codes "content-type") (codes "application/grpc") ∷ []

-- with its metadata as it is sent
abbrev pub response_fields : List Field → List Field
response_fields meta = head_fields ++ map sent meta

-- the text of a status, where it has one, with what is not visible ASCII escaped
abbrev pub message_fields : List ℕ → List Field
message_fields text = if length text == 0 then [] else field (codes "grpc-message") (percent_text text) ∷ []

-- what ends a response: trailers, or the whole response where no head was given
abbrev pub end_fields : Bool → Code → List ℕ → List Field → List Field
end_fields headed code text meta =
    (if headed then [] else head_fields)
    ++ field (codes "grpc-status") (decimal (code_number code)) ∷ []
    ++ message_fields text
    ++ map sent meta

-- of some fields, from the first one on, each that a list has so much room for; the others are left out
abbrev pub fitting : ℕ → List Field → List Field
fitting room [] = []
fitting room (f ∷ fields) =
    if nat_le (field_size f) room then f ∷ fitting (room - field_size f) fields else fitting room fields

-- the block of the fields for which a header list of at most 16,384 has room (RFC 9113, section 10.5.1)
abbrev pub head_block : List Field → List ℕ
head_block meta = block_bytes (fitting 16384 (response_fields meta))

abbrev pub end_block : Bool → Code → List ℕ → List Field → List ℕ
end_block headed code text meta = block_bytes (fitting 16384 (end_fields headed code text meta))
