-- The dynamic table (RFC 7541, sections 2.3 and 4): entries from the newest on, as many as fit.
use Rattle.std.specs.Prelude.{◌≡◌, ◌≤◌, ℕ, zero, suc, ◌+◌, ◌-◌, nat_lt, if◌then◌else◌, List, [], ◌∷◌, ◌++◌, length, slice_get, Option, None}
use Rattle.grpc_base.specs.declared.fields.Field.{Field}
use Rattle.h2_hpack.specs.StaticTable.{static_table}

-- the size of a field: its name, its value and 32 (section 4.1)
abbrev pub field_size : Field → ℕ
field_size f = length f.name + length f.value + 32

abbrev pub list_size : List Field → ℕ
list_size [] = 0
list_size (f ∷ fields) = field_size f + list_size fields

-- the sizes of a block's fields come to no more than this
abbrev pub list_limit : ℕ
list_limit = 16384

-- the most that a table may be, and its size at first
abbrev pub table_limit : ℕ
table_limit = 4096

-- the dynamic table: its entries, the newest one first, and the size in force
pub record Table : Type 0 where
  pub entries : List Field
  pub limit : ℕ

-- what every table keeps: its size is that of its entries, and within the limit
pub record IsWithinLimit (entries : List Field) (size limit : ℕ) : Type 0 where
  pub size_is : size ≡ list_size entries
  pub within : size ≤ limit
  pub limit_is : limit ≤ table_limit

abbrev pub new_table : Table
new_table = record { entries = []; limit = table_limit }

-- the newest entries that fit into so much room
abbrev pub fitting : ℕ → List Field → List Field
fitting room [] = []
fitting room (f ∷ fields) = if nat_lt room (field_size f) then [] else f ∷ fitting (room - field_size f) fields

-- the table with a field added (section 4.4)
abbrev pub table_with : Table → Field → Table
table_with t f = record { entries = fitting t.limit (f ∷ t.entries); limit = t.limit }

-- the table after a dynamic table size update (section 4.3)
abbrev pub table_resized : Table → ℕ → Table
table_resized t limit = record { entries = fitting limit t.entries; limit = limit }

-- the field of an index: from 1 on in the static table, then in the dynamic one (section 2.3.3)
abbrev pub field_at : Table → ℕ → Option Field
field_at t zero = None
field_at t (suc i) = slice_get (static_table ++ t.entries) i
