-- The room of a header list says whether one field more is too much.
use Rattle.std.proofs.Common.{◌≡◌, ℕ, ◌+◌, ◌-◌, List, [], ◌∷◌, ◌++◌, refl, arith, cond, nat_le, Some, None, Ok, Err}
use Rattle.std.proofs.lemmas.Bool.{le-leb, lt-leb}
use Rattle.grpc_base.specs.declared.fields.Field.{Field}
use Rattle.h2_hpack.specs.declared.fault.HpackFault.TheVariants.{TooLong}
use Rattle.h2_hpack.specs.Blocks.{with_field}
use Rattle.h2_hpack.specs.Tables.{Table, field_size, list_size, list_limit}
use Rattle.h2_hpack.proofs.TableLemmas.{list_size-append, room_found, no_room}

pub fits : (fields : List Field) (f : Field) (t : Table) (room left : ℕ) → list_size fields + room ≡ list_limit → Some left ≡ cond (nat_le (field_size f) room) (Some (room - field_size f)) None → with_field fields f t ≡ Ok (record { fields = fields ++ f ∷ []; table = t })
fits fields f t room left is found =
    let r = room_found room (field_size f) left found in
    rw (le-leb (list_size (fields ++ f ∷ [])) list_limit (omega (arith, list_size-append fields (f ∷ []), is, r.0))) refl

pub too_long : (fields : List Field) (f : Field) (t : Table) (room : ℕ) → list_size fields + room ≡ list_limit → None ≡ cond (nat_le (field_size f) room) (Some (room - field_size f)) None → with_field fields f t ≡ Err TooLong
too_long fields f t room is found =
    rw (lt-leb (list_size (fields ++ f ∷ [])) list_limit (omega (arith, list_size-append fields (f ∷ []), is, no_room room (field_size f) found))) refl

pub room_left : (fields : List Field) (f : Field) (room left : ℕ) → list_size fields + room ≡ list_limit → Some left ≡ cond (nat_le (field_size f) room) (Some (room - field_size f)) None → list_size (fields ++ f ∷ []) + left ≡ list_limit
room_left fields f room left is found =
    let r = room_found room (field_size f) left found in
    omega (arith, list_size-append fields (f ∷ []), is, r.0, r.1)
