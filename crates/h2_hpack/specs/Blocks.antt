-- Header blocks (RFC 7541, sections 3, 5 and 6): what a block says over a table, or its first fault in reading order.
use Rattle.std.specs.Prelude.{ℕ, zero, suc, Bool, true, false, nat_le, if◌then◌else◌, List, [], ◌∷◌, ◌++◌, length, take, drop, Option, Some, None, option_and_then, ok_or, Result, Ok, Err}
use Rattle.grpc_base.specs.declared.fields.Field.{Field}
use Rattle.h2_hpack.specs.declared.fault.HpackFault.{HpackFault}
use Rattle.h2_hpack.specs.declared.fault.HpackFault.TheVariants.{BadIndex, BadInteger, BadHuffman, BadSize, TooLong}
use Rattle.h2_hpack.specs.declared.kind.Kind.{Kind}
use Rattle.h2_hpack.specs.declared.kind.Kind.TheVariants.{Indexed, LiteralWithIncrementalIndexing, DynamicTableSizeUpdate, LiteralWithoutIndexing, LiteralNeverIndexed}
use Rattle.h2_hpack.specs.Kinds.{kind_of}
use Rattle.h2_hpack.specs.Huffman.{symbols_of}
use Rattle.h2_hpack.specs.Integers.{integer_at}
use Rattle.h2_hpack.specs.Tables.{Table, new_table, list_size, list_limit, table_limit, field_at, table_with, table_resized}

-- what follows where there was no fault
abbrev pub and_then : {A B : Type 0} → Result A HpackFault → (A → Result B HpackFault) → Result B HpackFault
and_then (Ok x) f = f x
and_then (Err e) f = Err e

-- a string as it stands in a block (section 5.2), and what follows it
pub record RawString : Type 0 where
  pub huffman : Bool
  pub bytes : List ℕ
  pub rest : List ℕ

abbrev pub raw_string : Bool → ℕ × List ℕ → Option RawString
raw_string huffman x =
    if nat_le x.0 (length x.1) then Some (record { huffman = huffman; bytes = take x.0 x.1; rest = drop x.0 x.1 })
    else None

-- the string at the start: a flag, a length and so many bytes; none where it is cut off
abbrev pub raw_string_at : List ℕ → Option RawString
raw_string_at [] = None
raw_string_at (first ∷ bytes) = option_and_then (raw_string (nat_le 128 first)) (integer_at 7 first bytes)

abbrev pub text_of : Bool → List ℕ → Option (List ℕ)
text_of true bytes = symbols_of bytes
text_of false bytes = Some bytes

-- the text at the start, and what follows it
abbrev pub text_at : List ℕ → Result (List ℕ × List ℕ) HpackFault
text_at bytes =
    and_then (ok_or (raw_string_at bytes) BadInteger) λ raw.
    and_then (ok_or (text_of raw.huffman raw.bytes) BadHuffman) λ text. Ok (text, raw.rest)

-- the same, after what was read before it
abbrev pub text_after : List ℕ → List ℕ → Result (List ℕ × List ℕ) HpackFault
text_after before bytes = and_then (text_at bytes) λ text. Ok (before ++ text.0, text.1)

-- the integer after a first byte
abbrev pub index_at : ℕ → ℕ → List ℕ → Result (ℕ × List ℕ) HpackFault
index_at bits first bytes = ok_or (integer_at bits first bytes) BadInteger

-- the name by its index, or, where that is 0, as text
abbrev pub name_by : Table → ℕ → List ℕ → Result (List ℕ × List ℕ) HpackFault
name_by t zero bytes = text_at bytes
name_by t (suc i) bytes = and_then (ok_or (field_at t (suc i)) BadIndex) λ f. Ok (f.name, bytes)

-- a literal field, whose name's index has so many bits (section 6.2)
abbrev pub literal_at : Table → ℕ → ℕ → List ℕ → Result (Field × List ℕ) HpackFault
literal_at t bits first bytes =
    and_then (index_at bits first bytes) λ index.
    and_then (name_by t index.0 index.1) λ name.
    and_then (text_at name.1) λ value. Ok (record { name = name.0; value = value.0 }, value.1)

-- a name and a value that both follow as strings
abbrev pub spelled_at : List ℕ → Result (Field × List ℕ) HpackFault
spelled_at bytes =
    and_then (text_at bytes) λ name.
    and_then (text_at name.1) λ value. Ok (record { name = name.0; value = value.0 }, value.1)

-- an indexed field (section 6.1)
abbrev pub indexed_at : Table → ℕ → List ℕ → Result (Field × List ℕ) HpackFault
indexed_at t first bytes =
    and_then (index_at 7 first bytes) λ index.
    and_then (ok_or (field_at t index.0) BadIndex) λ f. Ok (f, index.1)

-- a size within the bound of the table (section 6.3)
abbrev pub within_table : ℕ × List ℕ → Result (ℕ × List ℕ) HpackFault
within_table x = if nat_le x.0 table_limit then Ok x else Err BadSize

abbrev pub size_at : ℕ → List ℕ → Result (ℕ × List ℕ) HpackFault
size_at first bytes = and_then (index_at 5 first bytes) within_table

-- what was read of a block so far: its fields, and the table
pub record Reading : Type 0 where
  pub fields : List Field
  pub table : Table

-- one field more, and the table after it
abbrev pub with_field : List Field → Field → Table → Result Reading HpackFault
with_field fields f t =
    if nat_le (list_size (fields ++ f ∷ [])) list_limit then Ok (record { fields = fields ++ f ∷ []; table = t })
    else Err TooLong

-- a dynamic table size update, before which no field may stand
abbrev pub resized : Reading → ℕ → List ℕ → Result (Reading × List ℕ) HpackFault
resized r first bytes =
    elim r.fields [
      | [] ↦ and_then (size_at first bytes) λ x. Ok (record { fields = []; table = table_resized r.table x.0 }, x.1)
      | f ∷ fields ↦ Err BadSize
    ]

-- a literal that the dynamic table does not get
abbrev pub without_indexing : Reading → ℕ → List ℕ → Result (Reading × List ℕ) HpackFault
without_indexing r first bytes =
    and_then (literal_at r.table 4 first bytes) λ x. and_then (with_field r.fields x.0 r.table) λ next. Ok (next, x.1)

-- what was read with one representation more, and what follows it
abbrev pub next_as : Kind → Reading → ℕ → List ℕ → Result (Reading × List ℕ) HpackFault
next_as Indexed r first bytes =
    and_then (indexed_at r.table first bytes) λ x. and_then (with_field r.fields x.0 r.table) λ next. Ok (next, x.1)
next_as LiteralWithIncrementalIndexing r first bytes =
    and_then (literal_at r.table 6 first bytes) λ x. and_then (with_field r.fields x.0 (table_with r.table x.0)) λ next. Ok (next, x.1)
next_as DynamicTableSizeUpdate r first bytes = resized r first bytes
next_as LiteralWithoutIndexing r first bytes = without_indexing r first bytes
next_as LiteralNeverIndexed r first bytes = without_indexing r first bytes

-- what is read with the rest of a block; each representation takes at least one byte
abbrev pub reading_from : List ℕ → ℕ → Reading → Result Reading HpackFault
reading_from [] most r = Ok r
reading_from (first ∷ bytes) zero r = Ok r
reading_from (first ∷ bytes) (suc most) r =
    and_then (next_as (kind_of first) r first bytes) λ x. reading_from x.1 most x.0

-- the fields of a block and the table after it
abbrev pub block_of : Table → List ℕ → Result Reading HpackFault
block_of t bytes = reading_from bytes (length bytes) (record { fields = []; table = t })

-- a decoder: its table, or the fault that each later block gets
abbrev pub State : Type 0
State = Result Table HpackFault

abbrev pub state_of : Table → Option HpackFault → State
state_of t None = Ok t
state_of t (Some e) = Err e

abbrev pub decoded : State → List ℕ → Result Reading HpackFault
decoded state bytes = and_then state λ t. block_of t bytes

abbrev pub fields_in : Result Reading HpackFault → Result (List Field) HpackFault
fields_in result = and_then result λ r. Ok r.fields

abbrev pub table_in : Result Reading HpackFault → State
table_in result = and_then result λ r. Ok r.table

-- the header lists of blocks in turn from some state on, or the first fault
abbrev pub fields_from : State → List (List ℕ) → Result (List (List Field)) HpackFault
fields_from state [] = Ok []
fields_from state (block ∷ blocks) =
    and_then (decoded state block) λ r.
    and_then (fields_from (Ok r.table) blocks) λ lists. Ok (r.fields ∷ lists)

-- the header lists of all blocks of a connection
abbrev pub fields_of_blocks : List (List ℕ) → Result (List (List Field)) HpackFault
fields_of_blocks blocks = fields_from (Ok new_table) blocks

-- the state after blocks in turn
abbrev pub state_after : State → List (List ℕ) → State
state_after state [] = state
state_after state (block ∷ blocks) = state_after (table_in (decoded state block)) blocks
