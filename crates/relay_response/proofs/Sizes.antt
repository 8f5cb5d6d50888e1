-- The fields that fit a header list come to no more than its room.
use Rattle.std.proofs.Common.{◌≡◌, ℕ, ◌≤◌, ◌+◌, ◌-◌, ◌<◌, Bool, true, false, List, [], ◌∷◌, ◌++◌, length, refl, sym, ap, append_assoc, ◌∙◌, arith, inl, inr}
use Rattle.std.specs.Prelude.{nat_le, ◌&&◌, if◌then◌else◌}
use Rattle.std.proofs.lemmas.Bool.{leb-true, le-leb, lt-leb, cases_lt}
use Rattle.grpc_base.specs.declared.fields.Field.{Field}
use Rattle.h2_hpack.specs.Encoding.{block_bytes}
use Rattle.h2_hpack.specs.Tables.{field_size, list_size}
use Rattle.h2_hpack.proofs.SizeLemmas.{encoding_is_short}
use Rattle.relay_response.specs.Blocks.{fitting}

within_by : (room : ℕ) (f : Field) (fields : List Field) (b : Bool) → nat_le (field_size f) room ≡ b → ((left : ℕ) → list_size (fitting left fields) ≤ left) → list_size (if b then f ∷ fitting (room - field_size f) fields else fitting room fields) ≤ room
within_by room f fields true t afterwards =
    let fits = leb-true (field_size f) room t in
    let rest = afterwards (room - field_size f) in
    omega (arith, fits, rest)
within_by room f fields false t afterwards = afterwards room

pub fitting_within : (fields : List Field) (room : ℕ) → list_size (fitting room fields) ≤ room
fitting_within [] room = omega arith
fitting_within (f ∷ fields) room = within_by room f fields (nat_le (field_size f) room) refl (λ left. fitting_within fields left)

-- so their block fits a frame
pub fitting_short : (fields : List Field) → length (block_bytes (fitting 16384 fields)) < 16384
fitting_short fields =
    let short = (encoding_is_short (fitting 16384 fields) (fitting_within fields 16384)).most in omega (arith, short)

pub two_more : (xs ys zs : List Field) (a b : Field) → ys ≡ xs ++ a ∷ [] → zs ≡ ys ++ b ∷ [] → zs ≡ xs ++ (a ∷ b ∷ [])
two_more xs ys zs a b first second = second ∙ ap (λ (l : List Field). l ++ b ∷ []) first ∙ append_assoc xs (a ∷ []) (b ∷ [])
