-- How many bytes the encoder writes.
use Rattle.std.proofs.Common.{◌≡◌, ℕ, suc, ◌+◌, ◌-◌, ◌*◌, ◌/◌, ◌^◌, ◌<◌, ◌≤◌, List, [], ◌∷◌, length, refl, ◌∙◌, ap, arith, length-append, Option, Some, None, Ok, inl, inr}
use Rattle.std.proofs.lemmas.Bool.{cases_lt, lt-ltb, le-ltb}
use Rattle.grpc_base.specs.declared.fields.Field.{Field}
use Rattle.h2_hpack.specs.Blocks.{block_of}
use Rattle.h2_hpack.specs.Encoding.{same_name, same_pair, index_where, text_bytes, name_bytes, pair_bytes, field_bytes, block_bytes, size_update_to_zero}
use Rattle.h2_hpack.specs.Integers.{tail_bytes, integer_bytes}
use Rattle.h2_hpack.specs.Laws.{EncodingIsShort}
use Rattle.h2_hpack.specs.Tables.{Table, field_size, fitting, list_size, list_limit, table_resized}
use Rattle.h2_hpack.proofs.RoundTrip.{block_reads, static_at}

one_byte : (most n : ℕ) → n < 128 → length (tail_bytes (suc most) n) ≡ 1
one_byte most n small = rw (lt-ltb n 128 small) refl

two_bytes : (most n : ℕ) → n < 16384 → length (tail_bytes (suc (suc most)) n) ≤ 2
two_bytes most n small =
    elim (cases_lt n 128) [
      | inl less ↦ (let one : length (tail_bytes (suc (suc most)) n) ≡ 1 = one_byte (suc most) n less in omega (arith, one))
      | inr more ↦ (
          let high : n / 128 < 128 = omega (arith, small) in
          let one = one_byte most (n / 128) high in
          rw (le-ltb n 128 more) (omega (arith, one)))
    ]

-- an integer of a prefix of seven bits
length_bytes : (n : ℕ) → n ≤ 16384 → length (integer_bytes 7 0 n) ≤ 3
length_bytes n small =
    elim (cases_lt n 127) [
      | inl less ↦ rw (lt-ltb n 127 less) (omega arith)
      | inr more ↦ (let two = two_bytes 8 (n - 127) (omega (arith, small, more)) in rw (le-ltb n 127 more) (omega (arith, two)))
    ]

-- an index of the static table
index_bytes : (bits mark index : ℕ) → index ≤ 61 → 15 ≤ 2 ^ bits - 1 → length (integer_bytes bits mark index) ≤ 2
index_bytes bits mark index low room =
    elim (cases_lt index (2 ^ bits - 1)) [
      | inl less ↦ rw (lt-ltb index (2 ^ bits - 1) less) (omega arith)
      | inr more ↦ (let one = one_byte 9 (index - (2 ^ bits - 1)) (omega (arith, low)) in rw (le-ltb index (2 ^ bits - 1) more) (omega (arith, one)))
    ]

text_size : (text : List ℕ) → length text ≤ 16384 → length (text_bytes text) ≤ length text + 3
text_size text small = omega (arith, length_bytes (length text) small, length-append (integer_bytes 7 0 (length text)) text)

name_size : (f : Field) → length f.name ≤ 16384 → (o : Option ℕ) → index_where (same_name f.name) ≡ o → length (name_bytes f.name o) ≤ length f.name + 4
name_size f small None named = omega (arith, text_size f.name small)
name_size f small (Some index) named =
    omega (arith, index_bytes 4 0 index (static_at (same_name f.name) index named).low (omega arith))

pair_size : (f : Field) → field_size f ≤ list_limit → (o : Option ℕ) → index_where (same_pair f.name f.value) ≡ o → length (pair_bytes f o) + 25 ≤ field_size f
pair_size f within None found =
    let name : List ℕ = name_bytes f.name (index_where (same_name f.name)) in
    omega (arith, length-append name (text_bytes f.value), name_size f (omega (arith, within)) (index_where (same_name f.name)) refl, text_size f.value (omega (arith, within)))
pair_size f within (Some index) found =
    omega (arith, index_bytes 7 128 index (static_at (same_pair f.name f.value) index found).low (omega arith))

each_size : (fields : List Field) → list_size fields ≤ list_limit → length (block_bytes fields) + 25 * length fields ≤ list_size fields
each_size [] within = omega arith
each_size (f ∷ fields) within =
    let one : length (field_bytes f) + 25 ≤ field_size f = pair_size f (omega (arith, within)) (index_where (same_pair f.name f.value)) refl in
    let rest = each_size fields (omega (arith, within)) in
    let joined : length (block_bytes (f ∷ fields)) ≡ length (field_bytes f) + length (block_bytes fields) = length-append (field_bytes f) (block_bytes fields) in
    omega (arith, one, rest, joined)

most_size : (fields : List Field) → list_size fields ≤ list_limit → length (block_bytes fields) ≤ 16359
most_size [] within = omega arith
most_size (f ∷ fields) within =
    let each = each_size (f ∷ fields) within in
    omega (arith, each, within)

pub encoding_is_short : (fields : List Field) → list_size fields ≤ list_limit → EncodingIsShort fields
encoding_is_short fields within = record { each = each_size fields within; most = most_size fields within }

-- no entry fits a table of no size
nothing_fits : (fields : List Field) → fitting 0 fields ≡ []
nothing_fits [] = refl
nothing_fits (f ∷ fields) = rw (lt-ltb 0 (field_size f) (omega arith)) refl

pub update_is_read : (t : Table) (fields : List Field) → list_size fields ≤ list_limit → block_of t (size_update_to_zero ∷ block_bytes fields) ≡ Ok (record { fields = fields; table = record { entries = []; limit = 0 } })
update_is_read t fields within =
    let empty : table_resized t 0 ≡ record { entries = []; limit = 0 } = ap (λ (es : List Field). record { entries = es; limit = 0 }) (nothing_fits t.entries) in
    ap (λ (s : Table). block_of s (block_bytes fields)) empty ∙ block_reads (record { entries = []; limit = 0 }) fields within
