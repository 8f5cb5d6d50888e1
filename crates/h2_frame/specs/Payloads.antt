-- What the payloads of frames say (RFC 9113, section 6).
use Rattle.std.specs.Prelude.{ℕ, ◌+◌, ◌-◌, ◌*◌, ◌/◌, ◌%◌, List, [], ◌∷◌, ◌++◌, length, take, drop, slice_index_or, if◌then◌else◌, flat_map}
use Rattle.h2_frame.specs.declared.payload.Setting.{Setting}
use Rattle.h2_frame.specs.Frames.{FrameSeen, fields_size, is_padded, bytes_32}

-- how many bytes of padding a payload ends with (sections 6.1 and 6.2)
abbrev pub padding_of : FrameSeen → ℕ
padding_of f = if is_padded f.kind f.flags then slice_index_or f.payload 0 0 else 0

-- the payload without its Pad Length, its priority fields and its padding
abbrev pub content_of : FrameSeen → List ℕ
content_of f =
    let fields = fields_size f.kind f.flags in
    take (length f.payload - fields - padding_of f) (drop fields f.payload)

-- a number of four bytes at a place of a payload, the highest byte first
abbrev pub number_at : ℕ → List ℕ → ℕ
number_at place payload =
    slice_index_or payload place 0 * 16777216 + slice_index_or payload (place + 1) 0 * 65536
    + slice_index_or payload (place + 2) 0 * 256 + slice_index_or payload (place + 3) 0

-- the error code of RST_STREAM (section 6.4)
abbrev pub reset_code : List ℕ → ℕ
reset_code payload = number_at 0 payload

-- the settings of SETTINGS, an identifier of two bytes and a value of four each (section 6.5.1)
abbrev pub settings_in : List ℕ → List Setting
settings_in (a ∷ b ∷ c ∷ d ∷ e ∷ f ∷ rest) =
    record { identifier = a * 256 + b; value = c * 16777216 + d * 65536 + e * 256 + f } ∷ settings_in rest
settings_in _ = []

-- the word of PING, eight bytes (section 6.7)
abbrev pub ping_word : List ℕ → ℕ
ping_word payload = number_at 0 payload * 4294967296 + number_at 4 payload

-- the last stream of GOAWAY, after a reserved bit, and its error code (section 6.8)
abbrev pub last_stream : List ℕ → ℕ
last_stream payload = number_at 0 payload % 2147483648

abbrev pub goaway_code : List ℕ → ℕ
goaway_code payload = number_at 4 payload

-- the increment of WINDOW_UPDATE, after a reserved bit (section 6.9)
abbrev pub increment : List ℕ → ℕ
increment payload = number_at 0 payload % 2147483648

-- the bytes of a number of 64 bits, the highest first
abbrev pub bytes_64 : ℕ → List ℕ
bytes_64 n = bytes_32 (n / 4294967296) ++ bytes_32 (n % 4294967296)

-- the bytes of settings
abbrev pub setting_bytes : Setting → List ℕ
setting_bytes s = s.identifier / 256 ∷ s.identifier % 256 ∷ bytes_32 s.value

abbrev pub settings_bytes : List Setting → List ℕ
settings_bytes settings = flat_map setting_bytes settings
