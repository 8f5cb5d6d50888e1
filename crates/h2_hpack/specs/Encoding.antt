-- What the encoder writes: an index where the static table has the pair, else a literal that no table gets, with
-- the lowest static index that has the name, or with the name itself; no Huffman text (RFC 7541, sections 6.1, 6.2.2).
use Rattle.std.specs.Prelude.{ℕ, ◌&&◌, Bool, false, List, ◌∷◌, ◌++◌, length, flat_map, bytes_eq, Option, Some, None, option_map, unwrap_or, slice_get}
use Rattle.std.specs.List.{position_from}
use Rattle.grpc_base.specs.declared.fields.Field.{Field}
use Rattle.h2_hpack.specs.declared.lookup.StaticMatch.{StaticMatch}
use Rattle.h2_hpack.specs.declared.lookup.StaticMatch.TheVariants.{Pair, Name, Nothing}
use Rattle.h2_hpack.specs.Integers.{integer_bytes}
use Rattle.h2_hpack.specs.StaticTable.{static_table}

abbrev pub same_name : List ℕ → Field → Bool
same_name name entry = bytes_eq entry.name name

abbrev pub same_pair : List ℕ → List ℕ → Field → Bool
same_pair name value entry = bytes_eq entry.name name && bytes_eq entry.value value

-- the lowest static index of an entry that passes a test
abbrev pub index_where : (Field → Bool) → Option ℕ
index_where test = position_from test 1 static_table

-- what the static table has of a field: the pair, or else the name
abbrev pub match_of : Option ℕ → Option ℕ → StaticMatch
match_of (Some index) name = Pair index
match_of None (Some index) = Name index
match_of None None = Nothing

-- whether the static entry at a place, which counts from 0, passes a test
abbrev pub is_at : (Field → Bool) → ℕ → Bool
is_at test place = unwrap_or (option_map test (slice_get static_table place)) false

-- a string as it is
abbrev pub text_bytes : List ℕ → List ℕ
text_bytes text = integer_bytes 7 0 (length text) ++ text

abbrev pub name_bytes : List ℕ → Option ℕ → List ℕ
name_bytes name None = 0 ∷ text_bytes name
name_bytes name (Some i) = integer_bytes 4 0 i

abbrev pub pair_bytes : Field → Option ℕ → List ℕ
pair_bytes f None = name_bytes f.name (index_where (same_name f.name)) ++ text_bytes f.value
pair_bytes f (Some i) = integer_bytes 7 128 i

-- the bytes of a field, and of a header list
abbrev pub field_bytes : Field → List ℕ
field_bytes f = pair_bytes f (index_where (same_pair f.name f.value))

abbrev pub block_bytes : List Field → List ℕ
block_bytes fields = flat_map field_bytes fields

-- a dynamic table size update to 0, which may stand before the fields of a block (section 6.3)
abbrev pub size_update_to_zero : ℕ
size_update_to_zero = 32
