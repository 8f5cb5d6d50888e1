-- A number, byte by byte (RFC 8259, section 6).
use Rattle.std.specs.Prelude.{ℕ, Bool, ◌||◌, ◌==◌, if◌then◌else◌}
pub use Rattle.std.specs.Char.{is_ascii_digit as is_digit}
use Rattle.json_text.specs.declared.number.Part.{Part}
use Rattle.json_text.specs.declared.number.Part.TheVariants as part
use Rattle.json_text.specs.declared.number.NumberByte.{NumberByte}
use Rattle.json_text.specs.declared.number.NumberByte.TheVariants as byte

abbrev pub is_e : ℕ → Bool
is_e b = (b == 101) || (b == 69)

abbrev pub is_sign : ℕ → Bool
is_sign b = (b == 43) || (b == 45)

-- after a 0 that begins the number, or after its digits: a point, an exponent, or no more of it
abbrev pub after_whole : ℕ → NumberByte
after_whole b = if b == 46 then byte.Inside part.Point else if is_e b then byte.Inside part.Mark else byte.After

-- what a byte is, after the part of the number that stands before it
abbrev pub number_byte : Part → ℕ → NumberByte
number_byte part.Minus b =
    if b == 48 then byte.Inside part.Zero else if is_digit b then byte.Inside part.Whole else byte.Wrong
number_byte part.Zero b = after_whole b
number_byte part.Whole b = if is_digit b then byte.Inside part.Whole else after_whole b
number_byte part.Point b = if is_digit b then byte.Inside part.Fraction else byte.Wrong
number_byte part.Fraction b =
    if is_digit b then byte.Inside part.Fraction else if is_e b then byte.Inside part.Mark else byte.After
number_byte part.Mark b =
    if is_sign b then byte.Inside part.Sign else if is_digit b then byte.Exponent else byte.Wrong
number_byte part.Sign b = if is_digit b then byte.Exponent else byte.Wrong
