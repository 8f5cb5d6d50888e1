-- Header blocks in the terms of RFC 7541: a list of representations, each spelled by an integer and strings
-- (sections 5 and 6), with its effect on the header list and the dynamic table (sections 2.3, 3.2 and 4).
use Rattle.std.specs.Prelude.{◌≡◌, ◌≢◌, ◌<◌, ◌≤◌, ◌⊎◌, ℕ, ◌+◌, ◌-◌, ◌*◌, ◌%◌, ◌^◌, Bool, true, false, List, [], ◌∷◌, ◌++◌, length, Some, None}
use Rattle.grpc_base.specs.declared.fields.Field.{Field}
use Rattle.h2_hpack.specs.declared.fault.HpackFault.{HpackFault}
use Rattle.h2_hpack.specs.declared.fault.HpackFault.TheVariants.{BadIndex, BadInteger, BadHuffman, BadSize, TooLong}
use Rattle.h2_hpack.specs.Blocks.{Reading}
use Rattle.h2_hpack.specs.Huffman.{IsHuffman}
use Rattle.h2_hpack.specs.Tables.{Table, list_size, field_at, table_with, table_resized}

-- the bytes of an integer after a full prefix (section 5.1): all but the last are 128 or more
abbrev pub IsTail : List ℕ → Type 0
IsTail [] = ⊥
IsTail (b ∷ bytes) = ((b < 128) × (bytes ≡ [])) ⊎ ((128 ≤ b) × IsTail bytes)

-- what they add: seven bits of each, the low ones first
abbrev pub tail_value : List ℕ → ℕ
tail_value [] = 0
tail_value (b ∷ bytes) = b % 128 + 128 * tail_value bytes

-- an integer, with `mark` in the bits before its prefix (section 5.1): a prefix that is not full, or a full one and
-- at most five bytes more
pub record IsInteger (bits mark : ℕ) (bytes : List ℕ) (n : ℕ) : Type 0 where
  pub prefix : ℕ
  pub tail : List ℕ
  pub bytes_are : bytes ≡ (mark + prefix) ∷ tail
  pub value : ((prefix < 2 ^ bits - 1) × (tail ≡ []) × (n ≡ prefix)) ⊎ ((prefix ≡ 2 ^ bits - 1) × IsTail tail × (length tail ≤ 5) × (n ≡ prefix + tail_value tail))
  pub within : n ≤ 4294967295

abbrev pub huffman_flag : Bool → ℕ
huffman_flag true = 128
huffman_flag false = 0

-- a string as it stands (section 5.2): whether it is Huffman text, its length, and so many bytes
pub record IsRawString (bytes : List ℕ) (raw : Bool × List ℕ) : Type 0 where
  pub head : List ℕ
  pub bytes_are : bytes ≡ head ++ raw.1
  pub length_is : IsInteger 7 (huffman_flag raw.0) head (length raw.1)

-- what it says
abbrev pub IsText : Bool → List ℕ → List ℕ → Type 0
IsText true bytes text = IsHuffman bytes text
IsText false bytes text = text ≡ bytes

pub record IsString (bytes text : List ℕ) : Type 0 where
  pub huffman : Bool
  pub body : List ℕ
  pub raw : IsRawString bytes (huffman, body)
  pub says : IsText huffman body text

-- how a literal field is added to the dynamic table, or is not (sections 6.2.1 to 6.2.3)
pub data Indexing : Type 0 where
  WithIncrementalIndexing : Indexing
  WithoutIndexing : Indexing
  NeverIndexed : Indexing

-- the name of a literal: an index, or a string
pub data Name : Type 0 where
  NameIndex : ℕ → Name
  NameString : List ℕ → Name

-- a representation (section 6)
pub data Representation : Type 0 where
  Indexed : ℕ → Representation
  Literal : Indexing → Name → List ℕ → Representation
  DynamicTableSizeUpdate : ℕ → Representation

-- the index of a literal's name has so many bits, and these before them: 01, 0000 or 0001
abbrev pub name_bits : Indexing → ℕ
name_bits WithIncrementalIndexing = 6
name_bits WithoutIndexing = 4
name_bits NeverIndexed = 4

abbrev pub name_mark : Indexing → ℕ
name_mark WithIncrementalIndexing = 64
name_mark WithoutIndexing = 0
name_mark NeverIndexed = 16

abbrev pub IsNameIndex : Indexing → List ℕ → ℕ → Type 0
IsNameIndex indexing bytes index = IsInteger (name_bits indexing) (name_mark indexing) bytes index

-- bytes that begin with some x, and what follows it
abbrev pub Begins : {A : Type 0} → (List ℕ → A → Type 0) → List ℕ → A → List ℕ → Type 0
Begins IsOf bytes x rest = (leading : List ℕ) × (bytes ≡ leading ++ rest) × IsOf leading x

abbrev pub NoneBegins : {A : Type 0} → (List ℕ → A → Type 0) → List ℕ → Type 0
NoneBegins {A} IsOf bytes = (x : A) (rest : List ℕ) → Begins IsOf bytes x rest → ⊥

-- how each is spelled; the index 0 says that a string follows
abbrev pub IsName : Indexing → List ℕ → Name → Type 0
IsName indexing bytes (NameIndex index) = IsNameIndex indexing bytes index × (index ≢ 0)
IsName indexing bytes (NameString text) = (name : List ℕ) × Begins (IsNameIndex indexing) bytes 0 name × IsString name text

abbrev pub IsSpelled : List ℕ → Representation → Type 0
IsSpelled bytes (Indexed index) = IsInteger 7 128 bytes index
IsSpelled bytes (Literal indexing name value) = (last : List ℕ) × Begins (IsName indexing) bytes name last × IsString last value
IsSpelled bytes (DynamicTableSizeUpdate size) = IsInteger 5 32 bytes size

-- the name that is meant, and the field (section 2.3.3)
abbrev pub IsNameOf : Table → Name → List ℕ → Type 0
IsNameOf t (NameIndex index) name = (f : Field) × (field_at t index ≡ Some f) × (name ≡ f.name)
IsNameOf t (NameString text) name = name ≡ text

abbrev pub IsFieldOf : Table → Representation → Field → Type 0
IsFieldOf t (Indexed index) f = field_at t index ≡ Some f
IsFieldOf t (Literal indexing name value) f = IsNameOf t name f.name × (f.value ≡ value)
IsFieldOf t (DynamicTableSizeUpdate size) f = ⊥

-- the dynamic table after a field (section 3.2)
abbrev pub table_after : Representation → Table → Field → Table
table_after (Indexed index) t f = t
table_after (Literal WithIncrementalIndexing name value) t f = table_with t f
table_after (Literal WithoutIndexing name value) t f = t
table_after (Literal NeverIndexed name value) t f = t
table_after (DynamicTableSizeUpdate size) t f = t

-- a field goes to the end of the header list, whose sizes come to 16,384 at most
pub record AddsField (x : Representation) (before after : Reading) : Type 0 where
  pub field : Field
  pub is_field : IsFieldOf before.table x field
  pub fields : after.fields ≡ before.fields ++ field ∷ []
  pub table : after.table ≡ table_after x before.table field
  pub within : list_size after.fields ≤ 16384

-- a dynamic table size update stands before every field, and is of 4,096 at most (sections 4.2 and 4.3)
pub record UpdatesSize (size : ℕ) (before after : Reading) : Type 0 where
  pub no_field : before.fields ≡ []
  pub within : size ≤ 4096
  pub fields : after.fields ≡ []
  pub table : after.table ≡ table_resized before.table size

-- the effect of a representation
abbrev pub Effect : Representation → Reading → Reading → Type 0
Effect (Indexed index) before after = AddsField (Indexed index) before after
Effect (Literal indexing name value) before after = AddsField (Literal indexing name value) before after
Effect (DynamicTableSizeUpdate size) before after = UpdatesSize size before after

-- representations one after the other, what follows them, and what was read before and after them
abbrev pub Reads : List Representation → List ℕ → Reading → List ℕ → Reading → Type 0
Reads [] bytes before rest after = (bytes ≡ rest) × (before ≡ after)
Reads (x ∷ more) bytes before rest after = (next : List ℕ) × (middle : Reading) × Begins IsSpelled bytes x next × Effect x before middle × Reads more next middle rest after

-- a header block: representations and nothing else
abbrev pub IsBlock : Table → List ℕ → Reading → Type 0
IsBlock t block after = (xs : List Representation) × Reads xs block (record { fields = []; table = t }) [] after

-- the bits before the prefix of the first byte
pub record StartsWith (bits mark : ℕ) (bytes : List ℕ) : Type 0 where
  pub first : ℕ
  pub rest : List ℕ
  pub bytes_are : bytes ≡ first ∷ rest
  pub least : mark ≤ first
  pub most : first < mark + 2 ^ bits

-- a representation that can be read, whose field makes the header list too long
pub record IsTooLong (before : Reading) (bytes : List ℕ) : Type 0 where
  pub representation : Representation
  pub rest : List ℕ
  pub spelled : Begins IsSpelled bytes representation rest
  pub field : Field
  pub is_field : IsFieldOf before.table representation field
  pub above : 16384 < list_size (before.fields ++ field ∷ [])

-- why no indexed field can be read
abbrev pub IndexedFault : Reading → List ℕ → HpackFault → Type 0
IndexedFault before bytes BadInteger = NoneBegins (IsInteger 7 128) bytes
IndexedFault before bytes BadIndex = (index : ℕ) × (rest : List ℕ) × Begins (IsInteger 7 128) bytes index rest × (field_at before.table index ≡ None)
IndexedFault before bytes TooLong = IsTooLong before bytes
IndexedFault before bytes _ = ⊥

-- a string has to follow: for the name after the index 0, and for the value after the name
abbrev pub StringFollows : Indexing → Reading → List ℕ → List ℕ → Type 0
StringFollows indexing before bytes rest = Begins (IsNameIndex indexing) bytes 0 rest ⊎ ((name : Name) × (text : List ℕ) × Begins (IsName indexing) bytes name rest × IsNameOf before.table name text)

-- a string that is there, but is no Huffman text
abbrev pub HuffmanFault : List ℕ → Type 0
HuffmanFault bytes = (body : List ℕ) × (rest : List ℕ) × Begins IsRawString bytes (true, body) rest × ((text : List ℕ) → IsHuffman body text → ⊥)

-- why no literal can be read
abbrev pub LiteralFault : Indexing → Reading → List ℕ → HpackFault → Type 0
LiteralFault indexing before bytes BadInteger = NoneBegins (IsNameIndex indexing) bytes ⊎ ((rest : List ℕ) × StringFollows indexing before bytes rest × NoneBegins IsRawString rest)
LiteralFault indexing before bytes BadIndex = (index : ℕ) × (rest : List ℕ) × Begins (IsNameIndex indexing) bytes index rest × (index ≢ 0) × (field_at before.table index ≡ None)
LiteralFault indexing before bytes BadHuffman = (rest : List ℕ) × StringFollows indexing before bytes rest × HuffmanFault rest
LiteralFault indexing before bytes TooLong = IsTooLong before bytes
LiteralFault indexing before bytes _ = ⊥

-- why no dynamic table size update can be read
abbrev pub SizeFault : Reading → List ℕ → HpackFault → Type 0
SizeFault before bytes BadInteger = (before.fields ≡ []) × NoneBegins (IsInteger 5 32) bytes
SizeFault before bytes BadSize = (before.fields ≢ []) ⊎ ((size : ℕ) × (rest : List ℕ) × Begins (IsInteger 5 32) bytes size rest × (4096 < size))
SizeFault before bytes _ = ⊥

-- why the representation that begins some bytes cannot be read
abbrev pub Fault : Reading → List ℕ → HpackFault → Type 0
Fault before bytes e =
    (StartsWith 7 128 bytes × IndexedFault before bytes e)
    ⊎ ((indexing : Indexing) × StartsWith (name_bits indexing) (name_mark indexing) bytes × LiteralFault indexing before bytes e)
    ⊎ (StartsWith 5 32 bytes × SizeFault before bytes e)

-- a block with a fault: that of the first representation that cannot be read
abbrev pub IsFaulty : Table → List ℕ → HpackFault → Type 0
IsFaulty t block e = (xs : List Representation) × (rest : List ℕ) × (middle : Reading) × Reads xs block (record { fields = []; table = t }) rest middle × Fault middle rest e
