-- What the definitions of this crate promise of each other.
use Rattle.std.specs.Prelude.{◌≡◌, ◌≤◌, ◌<◌, ◌↔◌, ℕ, ◌-◌, ◌*◌, ◌^◌, ◌+◌, true, List, [], ◌∷◌, ◌++◌, length, map, replicate, Some, Ok, Err}
use Rattle.std.specs.List.{AllByRecursion, range_with_len}
use Rattle.grpc_base.specs.declared.fields.Field.{Field}
use Rattle.h2_hpack.specs.declared.fault.HpackFault.{HpackFault}
use Rattle.h2_hpack.specs.Blocks.{Reading, block_of, and_then, decoded, fields_in, fields_of_blocks, state_after}
use Rattle.h2_hpack.specs.Encoding.{block_bytes, size_update_to_zero}
use Rattle.h2_hpack.specs.Huffman.{SymbolCode, symbol_codes, is_free, of_length, code_of, end_of_string, symbols_of, IsHuffman}
use Rattle.h2_hpack.specs.Representations.{IsBlock, IsFaulty}
use Rattle.h2_hpack.specs.Tables.{Table, new_table, list_size, list_limit}

-- the plain program reads a text exactly where it is Huffman text, and reads its symbols
abbrev pub HuffmanIsExact : Type 0
HuffmanIsExact = (bytes symbols : List ℕ) → (symbols_of bytes ≡ Some symbols) ↔ IsHuffman bytes symbols

-- what codes take of all bit strings of 30 bits
abbrev pub share : List SymbolCode → ℕ
share [] = 0
share (c ∷ cs) = 2 ^ (30 - length c.bits) + share cs

-- how many codes have 5 bits, 6 bits and so on up to 30
abbrev pub code_counts : List ℕ
code_counts = 10 ∷ 26 ∷ 32 ∷ 6 ∷ 0 ∷ 5 ∷ 3 ∷ 2 ∷ 6 ∷ 2 ∷ 3 ∷ 0 ∷ 0 ∷ 0 ∷ 3 ∷ 8 ∷ 13 ∷ 26 ∷ 29 ∷ 12 ∷ 4 ∷ 15 ∷ 19 ∷ 29 ∷ 0 ∷ 4 ∷ []

-- the 257 codes: no one begins another one, together they take all bit strings, and the last one is thirty ones
pub record CodeIsWhole : Type 0 where
  pub counts : map (λ n. length (of_length n)) (range_with_len 5 26) ≡ code_counts
  pub last : code_of end_of_string ≡ replicate 30 1
  pub free : is_free symbol_codes ≡ true
  pub complete : share symbol_codes ≡ 2 ^ 30

-- a block says what its representations say, and its fault is that of the first one that cannot be read
abbrev pub BlocksAreRepresentations : Type 0
BlocksAreRepresentations = (t : Table) (block : List ℕ) → AllByRecursion (λ b. b < 256) block → ((after : Reading) → (block_of t block ≡ Ok after) ↔ IsBlock t block after) × ((e : HpackFault) → (block_of t block ≡ Err e) ↔ IsFaulty t block e)

-- a decoder reads what the encoder writes, whatever its table, which stays as it was
abbrev pub EncodingIsRead : Type 0
EncodingIsRead = (t : Table) (fields : List Field) → list_size fields ≤ list_limit → block_of t (block_bytes fields) ≡ Ok (record { fields = fields; table = t })

-- nor where the block begins with a table size update to 0, after which the table is empty and stays so
abbrev pub UpdateIsRead : Type 0
UpdateIsRead = (t : Table) (fields : List Field) → list_size fields ≤ list_limit → block_of t (size_update_to_zero ∷ block_bytes fields) ≡ Ok (record { fields = fields; table = record { entries = []; limit = 0 } })

-- each field is written with 25 bytes less than its size, or fewer, so a whole list with 16,359 at most
pub record EncodingIsShort (fields : List Field) : Type 0 where
  pub each : length (block_bytes fields) + 25 * length fields ≤ list_size fields
  pub most : length (block_bytes fields) ≤ 16359

-- the header lists of all blocks so far and of one more are those so far and what the state after them gives
abbrev pub BlocksInTurn : Type 0
BlocksInTurn = (blocks : List (List ℕ)) (block : List ℕ) → fields_of_blocks (blocks ++ block ∷ []) ≡ and_then (fields_of_blocks blocks) (λ lists. and_then (fields_in (decoded (state_after (Ok new_table) blocks) block)) (λ fields. Ok (lists ++ fields ∷ [])))
