-- The header lists of an answer fit one frame.
use Rattle.std.proofs.Common.{◌≡◌, ℕ, ◌<◌, ◌≤◌, ◌+◌, ◌-◌, ◌^◌, Bool, true, false, List, [], ◌∷◌, ◌++◌, length, refl, sym, ◌∙◌, arith, inl, inr}
use Rattle.std.specs.Prelude.{nat_le, ◌&&◌, codes, if◌then◌else◌}
use Rattle.std.specs.List.{list_any}
use Rattle.std.specs.Fmt.{decimal}
use Rattle.std.proofs.lemmas.Bool.{leb-true, le-leb, lt-leb, cases_lt}
use Rattle.std.proofs.lemmas.Fmt.{length-decimal-le}
use Rattle.grpc_base.specs.declared.fields.Field.{Field}
use Rattle.grpc_base.specs.declared.script.AnswerPart.{AnswerPart}
use Rattle.grpc_base.specs.declared.script.AnswerPart.TheVariants as part
use Rattle.h2_hpack.specs.Tables.{field_size, list_size}
use Rattle.loop_server.specs.Blocks.{field, fields_of, fits, head_fields, is_head, pushback_field, pushback_fields, pushback_room, room_after, status_fields}

size_append : (xs ys : List Field) → list_size (xs ++ ys) ≡ list_size xs + list_size ys
size_append [] ys = omega arith
size_append (x ∷ xs) ys = let h = size_append xs ys in omega (arith, h)

pushed_by : (room more : ℕ) (text : List ℕ) (b : Bool) → fits text room ≡ b → more ≤ (if b then room - field_size (pushback_field text) else room) → list_size (if b then pushback_field text ∷ [] else []) + more ≤ room
pushed_by room more text true t h =
    let low = leb-true (field_size (pushback_field text)) room t in omega (arith, low, h)
pushed_by room more text false t h = omega (arith, h)

pushed_within : (room more : ℕ) (p : AnswerPart) → more ≤ room_after room p → list_size (fields_of room p) + more ≤ room
pushed_within room more (part.Pushback text) h = pushed_by room more text (fits text room) refl h
pushed_within room more part.Head h = omega (arith, h)
pushed_within room more (part.Message message) h = omega (arith, h)
pushed_within room more (part.Status code) h = omega (arith, h)
pushed_within room more (part.Reset code) h = omega (arith, h)
pushed_within room more part.Goaway h = omega (arith, h)
pushed_within room more (part.Hold count) h = omega (arith, h)

pushbacks_within : (room : ℕ) (parts : List AnswerPart) → list_size (pushback_fields room parts) ≤ room
pushbacks_within room [] = omega arith
pushbacks_within room (p ∷ parts) =
    let afterwards = pushbacks_within (room_after room p) parts in
    let both = pushed_within room (list_size (pushback_fields (room_after room p) parts)) p afterwards in
    omega (arith, both, size_append (fields_of room p) (pushback_fields (room_after room p) parts))

begins_by : (b : Bool) → list_size (if b then [] else head_fields) ≤ 102
begins_by true = omega arith
begins_by false = omega arith

pub status_within : (before : List AnswerPart) (code : ℕ) → code < 2 ^ 32 → list_size (status_fields before code) ≤ 16384
status_within before code small =
    let begins = begins_by (list_any is_head before) in
    let first = if list_any is_head before then [] else head_fields in
    let middle = pushback_fields pushback_room before in
    let last = field (codes "grpc-status") (decimal code) ∷ [] in
    let pushbacks = pushbacks_within pushback_room before in
    let digits : length (decimal code) ≤ 10 = length-decimal-le 10 code (omega arith) (omega (arith, small)) (omega (arith, small)) in
    omega (arith, size_append (first ++ middle) last, size_append first middle, begins, pushbacks, digits)
