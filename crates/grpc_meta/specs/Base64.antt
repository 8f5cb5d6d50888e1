-- Values of bytes as base64 (gRPC over HTTP/2, "Binary-Header"; RFC 4648).
use Rattle.std.specs.Prelude.{◌≡◌, ◌⊎◌, ◌==◌, ◌%◌, ℕ, true, false, List, Option, codes, length, if◌then◌else◌}
use Rattle.base64.specs.Engines.{standard, standard_no_pad}
use Rattle.base64.specs.GeneralPurpose.{decoded_of}
use Rattle.base64.specs.Rfc4648.{encode}

-- the 64 symbols (RFC 4648, section 4, table 1)
abbrev pub symbols : List ℕ
symbols = codes "ABCDEFGHIJKLMNOPQRSTUVWXYZabcdefghijklmnopqrstuvwxyz0123456789+/"

-- the base64 of some bytes without padding
abbrev pub base64_of : List ℕ → List ℕ
base64_of bytes = encode symbols 61 false bytes

-- and with all of its padding, up to a whole number of groups of four
abbrev pub padded_base64_of : List ℕ → List ℕ
padded_base64_of bytes = encode symbols 61 true bytes

-- a text spells these bytes: it is their base64, without padding or with all of it; unused bits are 0
abbrev pub SpellsBytes : List ℕ → List ℕ → Type 0
SpellsBytes text bytes = (text ≡ base64_of bytes) ⊎ (text ≡ padded_base64_of bytes)

-- the bytes that a text spells, where it spells any: what reads whole groups of four wants padding where bytes are
-- missing, and what reads other texts wants none. That these are the bytes of `SpellsBytes` is a law.
unfoldable pub bytes_of_base64 : List ℕ → Option (List ℕ)
bytes_of_base64 text = if length text % 4 == 0 then decoded_of standard text else decoded_of standard_no_pad text
