-- The Huffman code of RFC 7541, section 5.2 and appendix B, from the lengths of its codes alone.
use Rattle.std.specs.Prelude.{◌≡◌, ◌≤◌, ◌<◌, ℕ, zero, suc, ◌+◌, ◌-◌, ◌*◌, ◌/◌, ◌%◌, ◌^◌, Bool, true, false, ◌&&◌, not, ◌==◌, nat_le, if◌then◌else◌, List, [], ◌∷◌, ◌++◌, length, filter, find, flat_map, replicate, Option, Some, None, option_map, unwrap_or, bytes_eq}
use Rattle.std.specs.List.{list_all, enumerate_from, range_with_len, AllByRecursion}

-- how many bits the code of each symbol has: of 0 to 255, sixteen a line, and of the end of string
unfoldable pub code_lengths : List ℕ
code_lengths =
    13 ∷ 23 ∷ 28 ∷ 28 ∷ 28 ∷ 28 ∷ 28 ∷ 28 ∷ 28 ∷ 24 ∷ 30 ∷ 28 ∷ 28 ∷ 30 ∷ 28 ∷ 28 ∷
    28 ∷ 28 ∷ 28 ∷ 28 ∷ 28 ∷ 28 ∷ 30 ∷ 28 ∷ 28 ∷ 28 ∷ 28 ∷ 28 ∷ 28 ∷ 28 ∷ 28 ∷ 28 ∷
    6 ∷ 10 ∷ 10 ∷ 12 ∷ 13 ∷ 6 ∷ 8 ∷ 11 ∷ 10 ∷ 10 ∷ 8 ∷ 11 ∷ 8 ∷ 6 ∷ 6 ∷ 6 ∷
    5 ∷ 5 ∷ 5 ∷ 6 ∷ 6 ∷ 6 ∷ 6 ∷ 6 ∷ 6 ∷ 6 ∷ 7 ∷ 8 ∷ 15 ∷ 6 ∷ 12 ∷ 10 ∷
    13 ∷ 6 ∷ 7 ∷ 7 ∷ 7 ∷ 7 ∷ 7 ∷ 7 ∷ 7 ∷ 7 ∷ 7 ∷ 7 ∷ 7 ∷ 7 ∷ 7 ∷ 7 ∷
    7 ∷ 7 ∷ 7 ∷ 7 ∷ 7 ∷ 7 ∷ 7 ∷ 7 ∷ 8 ∷ 7 ∷ 8 ∷ 13 ∷ 19 ∷ 13 ∷ 14 ∷ 6 ∷
    15 ∷ 5 ∷ 6 ∷ 5 ∷ 6 ∷ 5 ∷ 6 ∷ 6 ∷ 6 ∷ 5 ∷ 7 ∷ 7 ∷ 6 ∷ 6 ∷ 6 ∷ 5 ∷
    6 ∷ 7 ∷ 6 ∷ 5 ∷ 5 ∷ 6 ∷ 7 ∷ 7 ∷ 7 ∷ 7 ∷ 7 ∷ 15 ∷ 11 ∷ 14 ∷ 13 ∷ 28 ∷
    20 ∷ 22 ∷ 20 ∷ 20 ∷ 22 ∷ 22 ∷ 22 ∷ 23 ∷ 22 ∷ 23 ∷ 23 ∷ 23 ∷ 23 ∷ 23 ∷ 24 ∷ 23 ∷
    24 ∷ 24 ∷ 22 ∷ 23 ∷ 24 ∷ 23 ∷ 23 ∷ 23 ∷ 23 ∷ 21 ∷ 22 ∷ 23 ∷ 22 ∷ 23 ∷ 23 ∷ 24 ∷
    22 ∷ 21 ∷ 20 ∷ 22 ∷ 22 ∷ 23 ∷ 23 ∷ 21 ∷ 23 ∷ 22 ∷ 22 ∷ 24 ∷ 21 ∷ 22 ∷ 23 ∷ 23 ∷
    21 ∷ 21 ∷ 22 ∷ 21 ∷ 23 ∷ 22 ∷ 23 ∷ 23 ∷ 20 ∷ 22 ∷ 22 ∷ 22 ∷ 23 ∷ 22 ∷ 22 ∷ 23 ∷
    26 ∷ 26 ∷ 20 ∷ 19 ∷ 22 ∷ 23 ∷ 22 ∷ 25 ∷ 26 ∷ 26 ∷ 26 ∷ 27 ∷ 27 ∷ 26 ∷ 24 ∷ 25 ∷
    19 ∷ 21 ∷ 26 ∷ 27 ∷ 27 ∷ 26 ∷ 27 ∷ 24 ∷ 21 ∷ 21 ∷ 26 ∷ 26 ∷ 28 ∷ 27 ∷ 27 ∷ 27 ∷
    20 ∷ 24 ∷ 20 ∷ 21 ∷ 22 ∷ 21 ∷ 21 ∷ 23 ∷ 22 ∷ 22 ∷ 25 ∷ 25 ∷ 24 ∷ 24 ∷ 26 ∷ 23 ∷
    26 ∷ 27 ∷ 26 ∷ 26 ∷ 27 ∷ 27 ∷ 27 ∷ 27 ∷ 27 ∷ 28 ∷ 27 ∷ 27 ∷ 27 ∷ 27 ∷ 27 ∷ 26 ∷
    30 ∷ []

-- the symbol that no text may have
abbrev pub end_of_string : ℕ
end_of_string = 256

-- a symbol and the bits of its code, the first one first
pub record SymbolCode : Type 0 where
  pub symbol : ℕ
  pub bits : List ℕ

-- a number on so many bits, the highest one first
abbrev pub number_bits : ℕ → ℕ → List ℕ
number_bits zero n = []
number_bits (suc k) n = n / 2 ^ k % 2 ∷ number_bits k n

-- the symbols with codes of one length, from the lowest up, each with that length
abbrev pub of_length : ℕ → List (ℕ × ℕ)
of_length n = filter (λ x. x.1 == n) (enumerate_from 0 code_lengths)

-- each code is the one before plus 1, shifted left by as many bits as the codes grow; the first is 0
abbrev pub codes_from : ℕ → ℕ → List (ℕ × ℕ) → List SymbolCode
codes_from next len [] = []
codes_from next len (x ∷ more) =
    let number = next * 2 ^ (x.1 - len) in
    record { symbol = x.0; bits = number_bits x.1 number } ∷ codes_from (number + 1) x.1 more

-- the canonical code: by length, and within a length by symbol
unfoldable pub symbol_codes : List SymbolCode
symbol_codes = codes_from 0 0 (flat_map of_length (range_with_len 0 31))

-- the bits of a symbol's code
abbrev pub code_of : ℕ → List ℕ
code_of s = unwrap_or (option_map (λ c. c.bits) (find (λ c. c.symbol == s) symbol_codes)) []

-- whether the second list begins with the first
abbrev pub is_prefix : List ℕ → List ℕ → Bool
is_prefix [] ys = true
is_prefix (x ∷ xs) [] = false
is_prefix (x ∷ xs) (y ∷ ys) = (x == y) && is_prefix xs ys

-- no code of a list begins another one of it
abbrev pub is_free : List SymbolCode → Bool
is_free [] = true
is_free (c ∷ cs) = list_all (λ d. not (is_prefix c.bits d.bits) && not (is_prefix d.bits c.bits)) cs && is_free cs

-- the bits of a byte, the highest one first
abbrev pub byte_bits : ℕ → List ℕ
byte_bits b =
    b / 128 % 2 ∷ b / 64 % 2 ∷ b / 32 % 2 ∷ b / 16 % 2 ∷ b / 8 % 2 ∷ b / 4 % 2 ∷ b / 2 % 2 ∷ b % 2 ∷ []

-- Huffman text: the codes of its symbols, joined, are its bits before at most seven padding ones;
-- the end of string is none of the symbols
pub record IsHuffman (bytes symbols : List ℕ) : Type 0 where
  pub padding : ℕ
  pub short : padding ≤ 7
  pub joined : flat_map byte_bits bytes ≡ flat_map code_of symbols ++ replicate padding 1
  pub known : AllByRecursion (λ s. s < 256) symbols

-- the same as a plain program, which collects bits until they are a code; `held` are those since the last one

-- whether bits that are left over are padding
abbrev pub is_padding : List ℕ → Bool
is_padding bits = nat_le (length bits) 7 && list_all (λ b. b == 1) bits

-- the code that these bits are
abbrev pub code_with : List ℕ → Option SymbolCode
code_with bits = find (λ c. bytes_eq c.bits bits) symbol_codes

-- a symbol before what follows it; none where it is the end of string
abbrev pub before_rest : ℕ → Option (List ℕ) → Option (List ℕ)
before_rest s rest = if s == end_of_string then None else option_map (λ ss. s ∷ ss) rest

abbrev pub symbols_from : List ℕ → List ℕ → Option (List ℕ)
symbols_from held [] = if is_padding held then Some [] else None
symbols_from held (b ∷ bits) =
    elim (code_with (held ++ b ∷ [])) [
      | None ↦ symbols_from (held ++ b ∷ []) bits
      | Some c ↦ before_rest c.symbol (symbols_from [] bits)
    ]

-- the symbols of Huffman text, or none
abbrev pub symbols_of : List ℕ → Option (List ℕ)
symbols_of bytes = symbols_from [] (flat_map byte_bits bytes)
