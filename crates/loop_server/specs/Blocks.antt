-- The header blocks of an answer (gRPC over HTTP/2, "Responses"; gRFC A6, "Pushback").
use Rattle.std.specs.Prelude.{ℕ, ◌+◌, ◌-◌, Bool, true, false, nat_le, if◌then◌else◌, List, [], ◌∷◌, ◌++◌, length, codes}
use Rattle.std.specs.List.{list_any}
use Rattle.std.specs.Fmt.{decimal}
use Rattle.grpc_base.specs.declared.fields.Field.{Field}
use Rattle.grpc_base.specs.declared.script.AnswerPart.{AnswerPart}
use Rattle.grpc_base.specs.declared.script.AnswerPart.TheVariants as part
use Rattle.h2_hpack.specs.Tables.{field_size}

abbrev pub field : List ℕ → List ℕ → Field
field name value = record { name = name; value = value }

-- what begins a response
abbrev pub head_fields : List Field
head_fields = field (codes ":status") (codes "200") ∷ field (codes "content-type") (codes "application/grpc") ∷ []

abbrev pub is_head : AnswerPart → Bool
is_head part.Head = true
is_head p = false

abbrev pub is_pushback : AnswerPart → Bool
is_pushback (part.Pushback text) = true
is_pushback p = false

-- the field of a pushback, where it fits into so much room; no other part has one
abbrev pub pushback_field : List ℕ → Field
pushback_field text = field (codes "grpc-retry-pushback-ms") text

abbrev pub fits : List ℕ → ℕ → Bool
fits text room = nat_le (field_size (pushback_field text)) room

abbrev pub fields_of : ℕ → AnswerPart → List Field
fields_of room (part.Pushback text) = if fits text room then pushback_field text ∷ [] else []
fields_of room p = []

abbrev pub room_after : ℕ → AnswerPart → ℕ
room_after room (part.Pushback text) = if fits text room then room - field_size (pushback_field text) else room
room_after room p = room

-- the pushbacks among these parts, those that fit
abbrev pub pushback_fields : ℕ → List AnswerPart → List Field
pushback_fields room [] = []
pushback_fields room (p ∷ parts) = fields_of room p ++ pushback_fields (room_after room p) parts

-- their sizes come to no more than this, so the whole list comes to no more than 16,384
abbrev pub pushback_room : ℕ
pushback_room = 16000

-- what ends a response after these parts: trailers, or the whole response where no head is among them
abbrev pub status_fields : List AnswerPart → ℕ → List Field
status_fields before code =
    (if list_any is_head before then [] else head_fields)
    ++ pushback_fields pushback_room before
    ++ field (codes "grpc-status") (decimal code) ∷ []
