-- What a server's link makes of a piece: the client's preface, one frame, or the fault of its bytes.
use Rattle.std.specs.Prelude.{◌≡◌, ◌<◌, ℕ, suc, ◌+◌, ◌-◌, ◌==◌, Bool, true, false, if◌then◌else◌, Option, Some, None, List, [], ◌∷◌, ◌++◌, length}
use Rattle.grpc_base.specs.ErrorCodes.{protocol_error}
use Rattle.h2_frame.specs.Readings.{Reading, Whole, Partial, Fault, reading_of, fault_place}
use Rattle.h2_server.specs.declared.news.RequestNews.{RequestNews}
use Rattle.h2_server.specs.Steps.{reported, broke}
use Rattle.h2_server.specs.Wire.{Wire, Report, Seen}

-- "PRI * HTTP/2.0", "SM": what a client sends first (RFC 9113, section 3.4)
abbrev pub preface_bytes : List ℕ
preface_bytes =
    80 ∷ 82 ∷ 73 ∷ 32 ∷ 42 ∷ 32 ∷ 72 ∷ 84 ∷ 84 ∷ 80 ∷ 47 ∷ 50 ∷ 46 ∷ 48 ∷ 13 ∷ 10 ∷ 13 ∷ 10 ∷ 83 ∷ 77 ∷ 13 ∷ 10 ∷ 13 ∷ 10 ∷ []

-- how many of the first bytes are those of a text
abbrev pub agreed : List ℕ → List ℕ → ℕ
agreed [] bytes = 0
agreed (t ∷ text) [] = 0
agreed (t ∷ text) (b ∷ bytes) = if b == t then suc (agreed text bytes) else 0

-- the preface, less than it, or another text, which breaks the link at its first byte that is another
abbrev pub preface_by : Wire → ℕ → ℕ → Option (ℕ × Report)
preface_by w size same =
    if same == 24 then Some (24, record { wire = w; news = None })
    else if same == size then None
    else Some (same + 1, broke protocol_error)

abbrev pub preface_prefix : Wire → List ℕ → Option (ℕ × Report)
preface_prefix w bytes = preface_by w (length bytes) (agreed preface_bytes bytes)

-- a frame and what it does, or a fault, which breaks the link; nothing where the bytes are less than a frame
abbrev pub frame_by : Wire → List ℕ → Reading → Option (ℕ × Report)
frame_by w bytes Partial = None
frame_by w bytes (Whole f len) = Some (len, reported w f)
frame_by w bytes (Fault code) = Some (fault_place bytes, broke code)

abbrev pub frame_prefix : Wire → List ℕ → Option (ℕ × Report)
frame_prefix w bytes = frame_by w bytes (reading_of bytes)

-- what is at the start of some bytes, and how many bytes show it
abbrev pub prefix_of : Bool → Wire → List ℕ → Option (ℕ × Report)
prefix_of prefaced w bytes = if prefaced then frame_prefix w bytes else preface_prefix w bytes

-- bytes that show nothing yet: less than the preface, or less than a frame
abbrev pub IsPart : Bool → List ℕ → Type 0
IsPart true bytes = reading_of bytes ≡ Partial
IsPart false bytes = (agreed preface_bytes bytes ≡ length bytes) × (length bytes < 24)

pub record Receiving : Type 0 where
  -- how many bytes of the piece are taken
  pub taken : ℕ
  pub link : Seen
  pub news : Option RequestNews

abbrev pub received_with : Seen → List ℕ → Option (ℕ × Report) → Receiving
received_with l piece None = record { taken = length piece; link = record l { rest = l.rest ++ piece }; news = None }
received_with l piece (Some x) = record {
  taken = x.0 - length l.rest;
  link = record { prefaced = true; wire = x.1.wire; rest = [] };
  news = x.1.news;
}

-- at most the preface, one frame, or a fault, of a link's rest and a piece
abbrev pub handled : Seen → List ℕ → Receiving
handled l piece = received_with l piece (prefix_of l.prefaced l.wire (l.rest ++ piece))

-- what is reported of a piece of which so many bytes were taken before
abbrev pub received_after : ℕ → Receiving → Receiving
received_after len h = record { taken = len + h.taken; link = h.link; news = h.news }
