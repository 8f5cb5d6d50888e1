-- How the fields of scripts and reports are spelled, in both alike.
use Rattle.std.specs.Prelude.{ℕ, ◌+◌, ◌/◌, ◌%◌, ◌^◌, not, Option, Some, None, List, [], ◌∷◌, ◌++◌, map, codes, decimal, if◌then◌else◌, nat_le, ◌&&◌, ◌==◌, flat_map}
use Rattle.std.specs.List.{join_with_byte}
pub use Rattle.grpc_base.specs.Addresses.{address_text}
use Rattle.grpc_base.specs.Pieces.{pieces}
pub use Rattle.grpc_base.specs.Waits.{wait_text}
use Rattle.grpc_base.specs.declared.address.Address.{Address}
use Rattle.grpc_base.specs.declared.fields.Field.{Field}

-- words with one space between
abbrev pub words : List (List ℕ) → List ℕ
words ws = join_with_byte 32 ws

-- the fields of a line: what stands between its spaces
abbrev pub fields : List ℕ → List (List ℕ)
fields line = pieces 32 line

-- what stands for nothing
abbrev pub dash : List ℕ
dash = codes "-"

-- a number where there is one
abbrev pub number_or_dash : Option ℕ → List ℕ
number_or_dash None = dash
number_or_dash (Some n) = decimal n

-- a digit below 16 in lower and in upper case
abbrev pub lower_digit : ℕ → ℕ
lower_digit d = if nat_le d 9 then 48 + d else 87 + d

abbrev pub upper_digit : ℕ → ℕ
upper_digit d = if nat_le d 9 then 48 + d else 55 + d

-- bytes in hex, two lower-case digits for each
abbrev pub hex_digits : List ℕ → List ℕ
hex_digits bytes = flat_map (λ b. lower_digit (b / 16) ∷ lower_digit (b % 16) ∷ []) bytes

-- bytes in hex, a dash where there are none
abbrev pub hex_or_dash : List ℕ → List ℕ
hex_or_dash [] = dash
hex_or_dash (b ∷ bytes) = hex_digits (b ∷ bytes)

-- the eight bytes of a word, the highest first
abbrev pub word_bytes : ℕ → List ℕ
word_bytes w =
    (w / 2 ^ 56) % 256 ∷ (w / 2 ^ 48) % 256 ∷ (w / 2 ^ 40) % 256 ∷ (w / 2 ^ 32) % 256
    ∷ (w / 2 ^ 24) % 256 ∷ (w / 2 ^ 16) % 256 ∷ (w / 2 ^ 8) % 256 ∷ w % 256 ∷ []

-- a text: visible ASCII but for the percent sign stands for itself, any other byte is written as % and two digits
abbrev pub percent_byte : ℕ → List ℕ
percent_byte b = if nat_le 33 b && nat_le b 126 && not (b == 37) then b ∷ [] else 37 ∷ upper_digit (b / 16) ∷ upper_digit (b % 16) ∷ []

-- the empty text is a dash, and a dash is %2D
abbrev pub percent_text : List ℕ → List ℕ
percent_text [] = dash
percent_text (b ∷ []) = if b == 45 then codes "%2D" else percent_byte b
percent_text (b ∷ (c ∷ rest)) = flat_map percent_byte (b ∷ (c ∷ rest))

-- addresses with commas, a dash where there are none
abbrev pub addresses_text : List Address → List ℕ
addresses_text [] = dash
addresses_text (a ∷ rest) = join_with_byte 44 (map address_text (a ∷ rest))

-- metadata: names with their values in hex, with commas, a dash where there is none
abbrev pub pair_text : Field → List ℕ
pair_text f = f.name ++ 58 ∷ hex_digits f.value

abbrev pub meta_text : List Field → List ℕ
meta_text [] = dash
meta_text (f ∷ fields) = join_with_byte 44 (map pair_text (f ∷ fields))

-- a service config in hex, where there is one
abbrev pub config_hex : Option (List ℕ) → List ℕ
config_hex None = dash
config_hex (Some bytes) = hex_digits bytes
