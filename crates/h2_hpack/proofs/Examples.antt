-- The definitions, computed on examples from outside.
use Rattle.std.specs.Prelude.{◌≡◌, [], ◌∷◌, Some, Ok, Err, refl}
use Rattle.h2_hpack.specs.declared.fault.HpackFault.TheVariants.{BadIndex, BadInteger, BadHuffman, BadSize}
use Rattle.h2_hpack.specs.Blocks.{block_of}
use Rattle.h2_hpack.specs.Huffman.{symbol_codes, code_lengths}
use Rattle.h2_hpack.specs.Integers.{integer_at}
use Rattle.h2_hpack.specs.StaticTable.{static_table, entry}
use Rattle.h2_hpack.specs.Tables.{new_table}

-- 1337 with a prefix of five bits (RFC 7541, appendix C.1.2)
integer_1337 : integer_at 5 0x1f (0x9a ∷ 0x0a ∷ []) ≡ Some (1337, [])
integer_1337 = refl

-- a first request, with a Huffman text (appendix C.4.1)
first_request : block_of new_table (0x82 ∷ 0x86 ∷ 0x84 ∷ 0x41 ∷ 0x8c ∷ 0xf1 ∷ 0xe3 ∷ 0xc2 ∷ 0xe5 ∷ 0xf2 ∷ 0x3a ∷ 0x6b ∷ 0xa0 ∷ 0xab ∷ 0x90 ∷ 0xf4 ∷ 0xff ∷ []) ≡ Ok (record {
  fields = entry ":method" "GET" ∷ entry ":scheme" "http" ∷ entry ":path" "/" ∷ entry ":authority" "www.example.com" ∷ [];
  table = record { entries = entry ":authority" "www.example.com" ∷ []; limit = 4096 };
})
unfolding static_table symbol_codes code_lengths
first_request = refl

-- `:status 302`, added to the table
status_302 : block_of new_table (0x48 ∷ 0x82 ∷ 0x64 ∷ 0x02 ∷ []) ≡ Ok (record {
  fields = entry ":status" "302" ∷ [];
  table = record { entries = entry ":status" "302" ∷ []; limit = 4096 };
})
unfolding static_table symbol_codes code_lengths
status_302 = refl

-- an integer of six bytes after its prefix, the end of string in a text, index 0, and an update after a field
six_bytes : block_of new_table (0x00 ∷ 0x7f ∷ 0x80 ∷ 0x80 ∷ 0x80 ∷ 0x80 ∷ 0x80 ∷ 0x01 ∷ []) ≡ Err BadInteger
six_bytes = refl

end_in_text : block_of new_table (0x00 ∷ 0x84 ∷ 0xff ∷ 0xff ∷ 0xff ∷ 0xff ∷ 0x00 ∷ []) ≡ Err BadHuffman
unfolding symbol_codes code_lengths
end_in_text = refl

index_zero : block_of new_table (0x80 ∷ []) ≡ Err BadIndex
index_zero = refl

late_update : block_of new_table (0x82 ∷ 0x20 ∷ []) ≡ Err BadSize
unfolding static_table
late_update = refl
