-- What a server's link is to its callers.
use Rattle.std.specs.Prelude.{ℕ, ◌+◌, Bool, false, Option, None, List, [], ◌∷◌, length, Ok}
use Rattle.h2_hpack.specs.Blocks as hpack
use Rattle.h2_hpack.specs.Tables.{new_table}
use Rattle.h2_server.specs.declared.control.Control.{Control}
use Rattle.h2_server.specs.declared.control.Control.TheVariants.{Settings}
use Rattle.h2_server.specs.declared.live.LiveStream.{LiveStream}
use Rattle.h2_server.specs.declared.news.RequestNews.{RequestNews}

-- what came of a header block: the stream of its HEADERS, whether they had END_STREAM, and its bytes so far
pub record Block : Type 0 where
  pub number : ℕ
  pub ends : Bool
  pub bytes : List ℕ

-- a link after whole frames and calls
pub record Wire : Type 0 where
  -- the code with which it is broken
  pub broken : Option ℕ
  -- whether the client's first SETTINGS came (RFC 9113, section 3.4)
  pub ready : Bool
  -- the streams that are not closed, in the order of their opening
  pub live : List LiveStream
  -- the last stream that the client opened, 0 for none
  pub last : ℕ
  -- the client's SETTINGS_INITIAL_WINDOW_SIZE (section 6.5.2)
  pub initial : ℕ
  -- how many bytes of DATA the client still takes on the whole connection
  pub window : ℕ
  -- the frames that wait to be sent whatever the windows
  pub queue : List Control
  -- whether the next header block is to begin with a dynamic table size update
  pub resizes : Bool
  -- the header block that CONTINUATION is to complete
  pub block : Option Block
  -- the table of the client's header blocks
  pub table : hpack.State

-- with what came of the next frame, or of the client's preface, which is the first thing that it sends (section 3.4)
pub record Seen : Type 0 where
  -- whether the preface came
  pub prefaced : Bool
  pub wire : Wire
  pub rest : List ℕ

-- the windows at first (section 6.9.2)
abbrev pub first_window : ℕ
first_window = 65535

-- no window may pass 2^31-1 (section 6.9.1)
abbrev pub largest_window : ℕ
largest_window = 2147483647

-- a link on which nothing happened, but that it may be broken
abbrev pub blank : Option ℕ → Wire
blank broken = record {
  broken = broken;
  ready = false;
  live = [];
  last = 0;
  initial = first_window;
  window = first_window;
  queue = [];
  resizes = false;
  block = None;
  table = Ok new_table;
}

-- a new link: the server's SETTINGS are to be sent
abbrev pub fresh_wire : Wire
fresh_wire = record (blank None) { queue = Settings ∷ [] }

-- a new link before any byte
abbrev pub fresh : Seen
fresh = record { prefaced = false; wire = fresh_wire; rest = [] }

-- what a link is after a frame, and what it reports
pub record Report : Type 0 where
  pub wire : Wire
  pub news : Option RequestNews
