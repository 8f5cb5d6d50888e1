-- What some bytes are as frames: a frame at their start, a proper prefix of one, or a fault, reported at the earliest byte (RFC 9113, sections 4.1 and 4.2).
use Rattle.std.specs.Prelude.{◌≡◌, ◌<◌, ◌≤◌, ◌⊎◌, ℕ, zero, suc, ◌+◌, ◌*◌, ◌%◌, Bool, true, false, Option, Some, None, List, [], ◌∷◌, ◌++◌, length, take, drop, nat_lt, nat_le, ◌&&◌, IsTrue, if◌then◌else◌, MatchOption}
use Rattle.std.specs.List.{AllByRecursion}
use Rattle.grpc_base.specs.ErrorCodes.{protocol_error, frame_size_error}
use Rattle.h2_frame.specs.Frames.{FrameSeen, IsFrame, Spells, keeps_protocol, keeps_sizes, payload_limit, kind_allows_length, flags_allow_length, kind_allows_stream, is_of_connection, is_overpadded, is_zero_update}

-- some bytes more make these bytes a frame
pub record IsProperPrefix (bytes : List ℕ) : Type 0 where
  pub next : ℕ
  pub more : List ℕ
  pub are_bytes : AllByRecursion (λ b. b < 256) (next ∷ more)
  pub frame : FrameSeen
  pub is_frame : IsFrame (bytes ++ next ∷ more) frame

-- these bytes are no frame, however they go on
abbrev pub IsDead : List ℕ → Type 0
IsDead bytes = (more : List ℕ) (f : FrameSeen) → IsFrame (bytes ++ more) f → ⊥

-- however they go on, what they say breaks one of these rules
abbrev pub Breaks : (FrameSeen → Bool) → List ℕ → Type 0
Breaks keeps bytes = (more : List ℕ) (f : FrameSeen) → Spells (bytes ++ more) f → IsTrue (keeps f) → ⊥

-- some bytes more make them say what keeps these rules
pub record CanKeep (keeps : FrameSeen → Bool) (bytes : List ℕ) : Type 0 where
  pub more : List ℕ
  pub are_bytes : AllByRecursion (λ b. b < 256) more
  pub frame : FrameSeen
  pub spells : Spells (bytes ++ more) frame
  pub kept : IsTrue (keeps frame)

-- the code of the first rule that they break: those of a PROTOCOL_ERROR stand before those of a FRAME_SIZE_ERROR
abbrev pub IsCode : List ℕ → ℕ → Type 0
IsCode bytes code =
    ((code ≡ protocol_error) × Breaks keeps_protocol bytes)
    ⊎ ((code ≡ frame_size_error) × Breaks keeps_sizes bytes × CanKeep keeps_protocol bytes)

-- the fault of some bytes: the first place at which they are no frame, however they go on, and its code
pub record IsFault (bytes : List ℕ) (code : ℕ) : Type 0 where
  pub place : ℕ
  pub within : place ≤ length bytes
  pub earliest : (n : ℕ) → n < place → IsProperPrefix (take n bytes)
  pub dead : IsDead (take place bytes)
  pub code_is : IsCode (take place bytes) code

-- the same as a table that computes: what the bytes are, one byte after the other
pub data Reading : Type 0 where
  Whole : FrameSeen → ℕ → Reading
  Partial : Reading
  Fault : ℕ → Reading

-- whether it is a fault
abbrev pub is_fault : Reading → Bool
is_fault (Fault code) = true
is_fault _ = false

-- after nine bytes of header: its payload, and what follows it
abbrev pub reading_of_payload : ℕ → ℕ → ℕ → ℕ → List ℕ → Reading
reading_of_payload len kind flags stream rest =
    if is_overpadded kind flags len rest then Fault protocol_error
    else if is_zero_update kind stream rest then Fault protocol_error
    else if nat_le len (length rest) then
    Whole (record { kind = kind; flags = flags; stream = stream; payload = take len rest }) (9 + len)
    else Partial

-- the ninth byte, the last of the stream's number, whose higher ones make up `high`
abbrev pub reading_9 : ℕ → ℕ → ℕ → ℕ → List ℕ → Reading
reading_9 len kind flags high [] = Partial
reading_9 len kind flags high (s ∷ rest) =
    if kind_allows_stream kind (high + s) then reading_of_payload len kind flags (high + s) rest else Fault protocol_error

abbrev pub reading_8 : ℕ → ℕ → ℕ → ℕ → List ℕ → Reading
reading_8 len kind flags high [] = Partial
reading_8 len kind flags high (r ∷ rest) =
    if is_of_connection kind && nat_lt 0 (high + r * 256) then Fault protocol_error
    else reading_9 len kind flags (high + r * 256) rest

abbrev pub reading_7 : ℕ → ℕ → ℕ → ℕ → List ℕ → Reading
reading_7 len kind flags high [] = Partial
reading_7 len kind flags high (q ∷ rest) =
    if is_of_connection kind && nat_lt 0 (high + q * 65536) then Fault protocol_error
    else reading_8 len kind flags (high + q * 65536) rest

abbrev pub reading_6 : ℕ → ℕ → ℕ → List ℕ → Reading
reading_6 len kind flags [] = Partial
reading_6 len kind flags (p ∷ rest) =
    if is_of_connection kind && nat_lt 0 (p % 128 * 16777216) then Fault protocol_error
    else reading_7 len kind flags (p % 128 * 16777216) rest

abbrev pub reading_5 : ℕ → ℕ → List ℕ → Reading
reading_5 len kind [] = Partial
reading_5 len kind (flags ∷ rest) =
    if flags_allow_length kind flags len then reading_6 len kind flags rest else Fault frame_size_error

abbrev pub reading_4 : ℕ → List ℕ → Reading
reading_4 len [] = Partial
reading_4 len (kind ∷ rest) = if kind_allows_length kind len then reading_5 len kind rest else Fault frame_size_error

-- the third byte, the last of the length, whose higher ones make up `high`
abbrev pub reading_3 : ℕ → List ℕ → Reading
reading_3 high [] = Partial
reading_3 high (c ∷ rest) = if nat_lt payload_limit (high + c) then Fault frame_size_error else reading_4 (high + c) rest

abbrev pub reading_2 : ℕ → List ℕ → Reading
reading_2 high [] = Partial
reading_2 high (b ∷ rest) =
    if nat_lt payload_limit (high + b * 256) then Fault frame_size_error else reading_3 (high + b * 256) rest

-- what the bytes are
abbrev pub reading_of : List ℕ → Reading
reading_of [] = Partial
reading_of (a ∷ rest) =
    if nat_lt payload_limit (a * 65536) then Fault frame_size_error else reading_2 (a * 65536) rest

-- the bytes are these frames, one after the other, and then the rest
abbrev pub AreFrames : List ℕ → List FrameSeen → List ℕ → Type 0
AreFrames bytes [] rest = bytes ≡ rest
AreFrames bytes (f ∷ frames) rest =
    (text : List ℕ) × (afterwards : List ℕ) × (bytes ≡ text ++ afterwards) × IsFrame text f × AreFrames afterwards frames rest

-- the frames that a text begins with, and its rest: a proper prefix of a frame, or at fault
pub record IsReading (bytes : List ℕ) (frames : List FrameSeen) (rest : List ℕ) (fault : Option ℕ) : Type 0 where
  pub prefix : AreFrames bytes frames rest
  pub back : MatchOption fault (IsProperPrefix rest) (λ code. IsFault rest code)

-- the same as functions: with a bound on the frames, since each takes bytes away
abbrev pub frames_after : Reading → (ℕ → List FrameSeen) → List FrameSeen
frames_after (Whole f len) afterwards = f ∷ afterwards len
frames_after Partial afterwards = []
frames_after (Fault code) afterwards = []

abbrev pub frames_within : ℕ → List ℕ → List FrameSeen
frames_within zero bytes = []
frames_within (suc bound) bytes = frames_after (reading_of bytes) (λ len. frames_within bound (drop len bytes))

abbrev pub rest_after : Reading → List ℕ → (ℕ → List ℕ) → List ℕ
rest_after (Whole f len) bytes afterwards = afterwards len
rest_after Partial bytes afterwards = bytes
rest_after (Fault code) bytes afterwards = bytes

abbrev pub rest_within : ℕ → List ℕ → List ℕ
rest_within zero bytes = bytes
rest_within (suc bound) bytes = rest_after (reading_of bytes) bytes (λ len. rest_within bound (drop len bytes))

-- the frames that a text begins with
abbrev pub frames_of : List ℕ → List FrameSeen
frames_of bytes = frames_within (length bytes) bytes

-- what follows them
abbrev pub rest_of : List ℕ → List ℕ
rest_of bytes = rest_within (length bytes) bytes

-- the fault of bytes that begin with no frame
abbrev pub fault_reported : Reading → Option ℕ
fault_reported (Whole f len) = None
fault_reported Partial = None
fault_reported (Fault code) = Some code

abbrev pub fault_of : List ℕ → Option ℕ
fault_of bytes = fault_reported (reading_of bytes)

-- how many bytes show the fault of these: the fewest of their first bytes that are at fault, or all where none are
abbrev pub fault_place_from : ℕ → ℕ → List ℕ → ℕ
fault_place_from zero place bytes = place
fault_place_from (suc more) place bytes =
    if is_fault (reading_of (take place bytes)) then place else fault_place_from more (suc place) bytes

abbrev pub fault_place : List ℕ → ℕ
fault_place bytes = fault_place_from (length bytes) 0 bytes
