-- Frames: what nine bytes of header and a payload say, and the rules that one frame keeps by itself (RFC 9113, sections 4 and 6).
use Rattle.std.specs.Prelude.{◌≡◌, ℕ, ◌+◌, ◌-◌, ◌*◌, ◌/◌, ◌%◌, Bool, true, false, List, [], ◌∷◌, ◌++◌, length, nat_lt, nat_le, ◌&&◌, ◌||◌, ◌==◌, not, IsTrue, if◌then◌else◌, bit_and}
-- (a payload has at most the first value of SETTINGS_MAX_FRAME_SIZE, section 6.5.2)
pub use Rattle.grpc_base.specs.Limits.{payload_limit}
use Rattle.h2_frame.specs.Numbers.{data_type, headers_type, priority_type, rst_stream_type, settings_type, ping_type, goaway_type, window_update_type, continuation_type, ack_flag, padded_flag, priority_flag}

-- what a frame says
pub record FrameSeen : Type 0 where
  pub kind : ℕ
  pub flags : ℕ
  pub stream : ℕ
  pub payload : List ℕ

-- a number of 24 bits, the highest byte first
abbrev pub number_24 : ℕ → ℕ → ℕ → ℕ
number_24 a b c = a * 65536 + b * 256 + c

-- a number of 31 bits after a reserved bit, which is ignored (section 4.1)
abbrev pub number_31 : ℕ → ℕ → ℕ → ℕ → ℕ
number_31 a b c d = a % 128 * 16777216 + b * 65536 + c * 256 + d

-- whether a flag is set
abbrev pub has_flag : ℕ → ℕ → Bool
has_flag flags flag = not (bit_and flags flag == 0)

-- whether the payload begins with a Pad Length field (sections 6.1 and 6.2)
abbrev pub is_padded : ℕ → ℕ → Bool
is_padded kind flags = ((kind == data_type) || (kind == headers_type)) && has_flag flags padded_flag

-- whether the payload has priority fields (section 6.2)
abbrev pub has_priority : ℕ → ℕ → Bool
has_priority kind flags = (kind == headers_type) && has_flag flags priority_flag

-- how many bytes these fields take: one for Pad Length, five for the priority
abbrev pub fields_size : ℕ → ℕ → ℕ
fields_size kind flags = (if is_padded kind flags then 1 else 0) + (if has_priority kind flags then 5 else 0)

-- the lengths that a frame type allows (sections 6.3 to 6.5 and 6.7 to 6.9)
abbrev pub kind_allows_length : ℕ → ℕ → Bool
kind_allows_length kind len =
    if kind == priority_type then len == 5
    else if (kind == rst_stream_type) || (kind == window_update_type) then len == 4
    else if kind == settings_type then len % 6 == 0
    else if kind == ping_type then len == 8
    else if kind == goaway_type then nat_le 8 len
    else true

-- the lengths that the flags allow: an acknowledgement of settings is empty, and the fields have room (sections 6.1, 6.2 and 6.5)
abbrev pub flags_allow_length : ℕ → ℕ → ℕ → Bool
flags_allow_length kind flags len =
    if kind == settings_type then not (has_flag flags ack_flag) || (len == 0)
    else nat_le (fields_size kind flags) len

-- the frame types that speak of the connection as a whole (sections 6.5, 6.7 and 6.8)
abbrev pub is_of_connection : ℕ → Bool
is_of_connection kind = (kind == settings_type) || (kind == ping_type) || (kind == goaway_type)

-- the frame types that speak of one stream (sections 6.1 to 6.4 and 6.10)
abbrev pub is_of_stream : ℕ → Bool
is_of_stream kind =
    (kind == data_type) || (kind == headers_type) || (kind == priority_type) || (kind == rst_stream_type) || (kind == continuation_type)

-- the streams that a frame type allows
abbrev pub kind_allows_stream : ℕ → ℕ → Bool
kind_allows_stream kind stream =
    if is_of_connection kind then stream == 0 else if is_of_stream kind then not (stream == 0) else true

-- whether the padding is longer than what the payload has left over its fields (sections 6.1 and 6.2)
abbrev pub is_overpadded : ℕ → ℕ → ℕ → List ℕ → Bool
is_overpadded kind flags len [] = false
is_overpadded kind flags len (pad ∷ rest) = is_padded kind flags && nat_lt (len - fields_size kind flags) pad

-- whether a window of the connection is to grow by nothing (section 6.9)
abbrev pub is_zero_update : ℕ → ℕ → List ℕ → Bool
is_zero_update kind stream (a ∷ b ∷ c ∷ d ∷ rest) = (kind == window_update_type) && (stream == 0) && (number_31 a b c d == 0)
is_zero_update kind stream _ = false

-- the rules whose breach is a PROTOCOL_ERROR: streams, padding, increments
abbrev pub keeps_protocol : FrameSeen → Bool
keeps_protocol f =
    kind_allows_stream f.kind f.stream
    && not (is_overpadded f.kind f.flags (length f.payload) f.payload)
    && not (is_zero_update f.kind f.stream f.payload)

-- the rules whose breach is a FRAME_SIZE_ERROR: lengths
abbrev pub keeps_sizes : FrameSeen → Bool
keeps_sizes f =
    nat_le (length f.payload) payload_limit
    && kind_allows_length f.kind (length f.payload)
    && flags_allow_length f.kind f.flags (length f.payload)

-- the rules that one frame keeps by itself
abbrev pub is_allowed : FrameSeen → Bool
is_allowed f = keeps_protocol f && keeps_sizes f

-- the bytes are a header of nine bytes and the payload whose length it has (section 4.1)
abbrev pub Spells : List ℕ → FrameSeen → Type 0
Spells (a ∷ b ∷ c ∷ kind ∷ flags ∷ p ∷ q ∷ r ∷ s ∷ payload) f =
    (length payload ≡ number_24 a b c)
    × (f ≡ record { kind = kind; flags = flags; stream = number_31 p q r s; payload = payload })
Spells _ f = ⊥

-- the bytes are this frame, whole
pub record IsFrame (bytes : List ℕ) (f : FrameSeen) : Type 0 where
  pub spells : Spells bytes f
  pub allowed : IsTrue (is_allowed f)

-- the bytes of a number of 24 bits and of one of 32, the highest first
abbrev pub bytes_24 : ℕ → List ℕ
bytes_24 n = n / 65536 ∷ n / 256 % 256 ∷ n % 256 ∷ []

abbrev pub bytes_32 : ℕ → List ℕ
bytes_32 n = n / 16777216 ∷ n / 65536 % 256 ∷ n / 256 % 256 ∷ n % 256 ∷ []

-- the nine bytes that a sender writes before a payload of so many bytes, the reserved bit unset
abbrev pub header_bytes : ℕ → ℕ → ℕ → ℕ → List ℕ
header_bytes len kind flags stream = bytes_24 len ++ kind ∷ flags ∷ bytes_32 stream

-- the bytes that a sender writes for a frame
abbrev pub written : FrameSeen → List ℕ
written f = header_bytes (length f.payload) f.kind f.flags f.stream ++ f.payload
