-- What a link is to its callers.
use Rattle.std.specs.Prelude.{ℕ, ◌+◌, Bool, false, Option, None, Some, List, [], length, Ok}
use Rattle.h2_hpack.specs.Blocks as hpack
use Rattle.h2_hpack.specs.Tables.{new_table}
use Rattle.h2_link.specs.declared.control.Control.TheVariants.{Preface}
use Rattle.h2_link.specs.declared.live.LiveStream.{LiveStream}
use Rattle.h2_link.specs.declared.news.LinkNews.{LinkNews}
use Rattle.h2_link.specs.Queues.{Queue, new_queue, queued}

-- what came of a header block: the stream of its HEADERS, whether they had END_STREAM, and its bytes so far
pub record Block : Type 0 where
  pub number : ℕ
  pub ends : Bool
  pub bytes : List ℕ

-- a link after whole frames and calls
pub record Wire : Type 0 where
  -- how many bytes the whole frames had
  pub read : ℕ
  -- the code with which it is broken
  pub broken : Option ℕ
  -- whether the peer's first SETTINGS came, and whether its GOAWAY did
  pub ready : Bool
  pub retiring : Bool
  -- the tags that have no stream yet, in rising order
  pub waiting : List ℕ
  -- the streams whose attempts have not ended, in the order of their opening
  pub live : List LiveStream
  -- how many streams were opened
  pub opened : ℕ
  -- the peer's SETTINGS_MAX_CONCURRENT_STREAMS and SETTINGS_INITIAL_WINDOW_SIZE (RFC 9113, section 6.5.2)
  pub limit : Option ℕ
  pub initial : ℕ
  -- how many bytes of DATA the peer still takes on the whole connection
  pub window : ℕ
  pub queue : Queue
  -- whether the next header block is to begin with a dynamic table size update
  pub resizes : Bool
  -- the header block that CONTINUATION is to complete
  pub block : Option Block
  -- the table of the peer's header blocks
  pub table : hpack.State

-- with the bytes of the next frame that have come
pub record Seen : Type 0 where
  pub wire : Wire
  pub rest : List ℕ

-- the windows at first (RFC 9113, section 6.9.2)
abbrev pub first_window : ℕ
first_window = 65535

-- no window may pass 2^31-1 (section 6.9.1)
abbrev pub largest_window : ℕ
largest_window = 2147483647

-- a link on which nothing happened, but that so many bytes were read, and that it may be broken
abbrev pub blank : ℕ → Option ℕ → Wire
blank read broken = record {
  read = read;
  broken = broken;
  ready = false;
  retiring = false;
  waiting = [];
  live = [];
  opened = 0;
  limit = None;
  initial = first_window;
  window = first_window;
  queue = new_queue;
  resizes = false;
  block = None;
  table = Ok new_table;
}

-- a new link: the preface is to be sent
abbrev pub fresh_wire : Wire
fresh_wire = record (blank 0 None) { queue = queued new_queue Preface }

-- what a link is after a frame, and what it reports
pub record Report : Type 0 where
  pub wire : Wire
  pub news : List LinkNews

-- how many bytes of input a link holds
abbrev pub block_bytes : Option Block → ℕ
block_bytes None = 0
block_bytes (Some block) = length block.bytes

abbrev pub kept_bytes : Seen → ℕ
kept_bytes l = length l.rest + block_bytes l.wire.block
