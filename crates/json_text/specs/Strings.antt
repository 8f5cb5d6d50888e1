-- A string, byte by byte (RFC 8259, section 7), in UTF-8 (RFC 3629, section 4).
use Rattle.std.specs.Prelude.{ℕ, ◌+◌, ◌*◌, ◌-◌, ◌%◌, Bool, ◌&&◌, ◌||◌, ◌==◌, nat_le, nat_lt, if◌then◌else◌, List, [], ◌∷◌, ◌++◌, Option, Some, None}
use Rattle.std.specs.Char.{encode_utf8, digit_value}
use Rattle.json_text.specs.declared.string.Spot.{Spot}
use Rattle.json_text.specs.declared.string.Spot.TheVariants as spot
use Rattle.json_text.specs.declared.string.StringByte.{StringByte}
use Rattle.json_text.specs.declared.string.StringByte.TheVariants as byte
use Rattle.json_text.specs.declared.string.Read.{Read}
use Rattle.json_text.specs.declared.string.Quoted.{Quoted}
use Rattle.json_text.specs.declared.string.QuotedNext.{QuotedNext}
use Rattle.json_text.specs.declared.string.QuotedNext.TheVariants as next

abbrev pub is_between : ℕ → ℕ → ℕ → Bool
is_between low high b = nat_le low b && nat_le b high

-- the first byte of a character of several bytes: which byte may follow, and how many after that one
abbrev pub lead_byte : ℕ → StringByte
lead_byte b =
    if is_between 194 223 b then byte.Plain (spot.Tail 128 191 0)
    else if b == 224 then byte.Plain (spot.Tail 160 191 1)
    else if b == 237 then byte.Plain (spot.Tail 128 159 1)
    else if is_between 225 239 b then byte.Plain (spot.Tail 128 191 1)
    else if b == 240 then byte.Plain (spot.Tail 144 191 2)
    else if is_between 241 243 b then byte.Plain (spot.Tail 128 191 2)
    else if b == 244 then byte.Plain (spot.Tail 128 143 2)
    else byte.Wrong

-- a byte between two characters
abbrev pub first_byte : ℕ → StringByte
first_byte b =
    if b == 34 then byte.Closing
    else if b == 92 then byte.Inside spot.Escape
    else if nat_lt b 32 then byte.Wrong
    else if nat_lt b 128 then byte.Plain spot.Between
    else lead_byte b

-- a further byte of a character
abbrev pub tail_byte : ℕ → ℕ → ℕ → ℕ → StringByte
tail_byte low high more b =
    if is_between low high b then (if more == 0 then byte.Plain spot.Between else byte.Plain (spot.Tail 128 191 (more - 1)))
    else byte.Wrong

-- the byte after a backslash
abbrev pub escaped_byte : ℕ → StringByte
escaped_byte b =
    if (b == 34) || (b == 92) || (b == 47) then byte.Escaped b
    else if b == 98 then byte.Escaped 8
    else if b == 102 then byte.Escaped 12
    else if b == 110 then byte.Escaped 10
    else if b == 114 then byte.Escaped 13
    else if b == 116 then byte.Escaped 9
    else if b == 117 then byte.Inside (spot.Hex 3 0)
    else byte.Wrong

-- the value of a hexadecimal digit
abbrev pub hex_digit : ℕ → Option ℕ
hex_digit b = if nat_lt (digit_value b) 16 then Some (digit_value b) else None

-- one of the four digits of an escape, with the value of those before it (below 65,536), and how many follow
abbrev pub hex_byte : ℕ → ℕ → Option ℕ → StringByte
hex_byte left value None = byte.Wrong
hex_byte left value (Some d) =
    if left == 0 then byte.Escaped ((value * 16 + d) % 65536) else byte.Inside (spot.Hex (left - 1) ((value * 16 + d) % 65536))

abbrev pub string_byte : Spot → ℕ → StringByte
string_byte spot.Between b = first_byte b
string_byte (spot.Tail low high more) b = tail_byte low high more b
string_byte spot.Escape b = escaped_byte b
string_byte (spot.Hex left value) b = hex_byte left value (hex_digit b)

-- U+FFFD, as which a half of a pair reads that stands alone
abbrev pub replacement : List ℕ
replacement = 239 ∷ 191 ∷ 189 ∷ []

abbrev pub is_high : ℕ → Bool
is_high unit = is_between 55296 56319 unit

abbrev pub is_low : ℕ → Bool
is_low unit = is_between 56320 57343 unit

-- the character of two halves, each of which has ten bits of it
abbrev pub pair_of : ℕ → ℕ → ℕ
pair_of high low = 65536 + high % 1024 * 1024 + low % 1024

-- what was read of a string: its characters, and the first half of a pair that may still be completed
abbrev pub nothing_read : Read
nothing_read = record { text = []; high = None }

-- the characters, with a half that waits standing alone
abbrev pub settled_by : List ℕ → Option ℕ → List ℕ
settled_by text None = text
settled_by text (Some h) = text ++ replacement

abbrev pub settled : Read → List ℕ
settled r = settled_by r.text r.high

-- one byte more, as it stands
abbrev pub with_byte : Read → ℕ → Read
with_byte r b = record { text = settled r ++ b ∷ []; high = None }

-- one escaped code unit more, which is no second half of a pair
abbrev pub with_other : List ℕ → ℕ → Read
with_other text unit =
    if is_high unit then record { text = text; high = Some unit }
    else if is_low unit then record { text = text ++ replacement; high = None }
    else record { text = text ++ encode_utf8 unit; high = None }

-- one escaped code unit more
abbrev pub joined : List ℕ → Option ℕ → ℕ → Read
joined text None unit = with_other text unit
joined text (Some h) unit =
    if is_low unit then record { text = text ++ encode_utf8 (pair_of h unit); high = None }
    else with_other (text ++ replacement) unit

abbrev pub with_unit : Read → ℕ → Read
with_unit r unit = joined r.text r.high unit

abbrev pub next_by : Read → ℕ → StringByte → QuotedNext
next_by read b (byte.Inside s) = next.Continues (record { spot = s; read = read })
next_by read b (byte.Plain s) = next.Continues (record { spot = s; read = with_byte read b })
next_by read b (byte.Escaped unit) = next.Continues (record { spot = spot.Between; read = with_unit read unit })
next_by read b byte.Closing = next.Closed (settled read)
next_by read b byte.Wrong = next.Wrong

-- one byte more of a string
abbrev pub quoted_next : Quoted → ℕ → QuotedNext
quoted_next q b = next_by q.read b (string_byte q.spot b)

-- after the opening quote
abbrev pub opened_quote : Quoted
opened_quote = record { spot = spot.Between; read = nothing_read }
