-- What a link is notified of a piece: at most one frame, or the fault of its bytes.
use Rattle.std.specs.Prelude.{ℕ, ◌+◌, ◌-◌, Option, Some, None, List, [], ◌++◌, length}
use Rattle.h2_frame.specs.Readings.{Reading, Whole, Partial, Fault, reading_of, fault_place}
use Rattle.h2_link.specs.declared.news.LinkNews.{LinkNews}
use Rattle.h2_link.specs.Steps.{reported, broke}
use Rattle.h2_link.specs.Wire.{Wire, Report, Seen}

-- what is at the start of some bytes, and how many bytes show it: a whole frame and what it does, or a fault, which
-- breaks the link; nothing where they are less than a frame
abbrev pub prefix_as : Wire → List ℕ → Reading → Option (ℕ × Report)
prefix_as w bytes Partial = None
prefix_as w bytes (Whole f len) = Some (len, reported w f)
prefix_as w bytes (Fault code) = Some (fault_place bytes, broke w code)

abbrev pub prefix_of : Wire → List ℕ → Option (ℕ × Report)
prefix_of w bytes = prefix_as w bytes (reading_of bytes)

pub record Receiving : Type 0 where
  -- how many bytes of the piece are taken
  pub taken : ℕ
  pub link : Seen
  pub news : List LinkNews

abbrev pub received_with : Seen → List ℕ → Option (ℕ × Report) → Receiving
received_with l piece None = record { taken = length piece; link = record { wire = l.wire; rest = l.rest ++ piece }; news = [] }
received_with l piece (Some x) =
    record { taken = x.0 - length l.rest; link = record { wire = x.1.wire; rest = [] }; news = x.1.news }

-- at most one frame, or its fault, of a link's rest and a piece
abbrev pub handled : Seen → List ℕ → Receiving
handled l piece = received_with l piece (prefix_of l.wire (l.rest ++ piece))

-- what is received of a piece of which so many bytes were taken before
abbrev pub received_after : ℕ → Receiving → Receiving
received_after len h = record { taken = len + h.taken; link = h.link; news = h.news }
