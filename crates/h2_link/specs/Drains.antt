-- What a link sends, in which order (RFC 9113, sections 3.4, 5.1.2 and 6.9).
use Rattle.std.specs.Prelude.{◌≡◌, ◌<◌, ◌≤◌, ℕ, ◌+◌, ◌-◌, ◌*◌, ◌^◌, ◌==◌, Bool, true, false, nat_lt, not, ◌&&◌, ◌||◌, if◌then◌else◌, min, Option, Some, None, List, [], ◌∷◌, ◌++◌, length, take, drop, map, flat_map, slice_get, slice_set, pos, ◌-ℤ◌}
use Rattle.grpc_base.specs.declared.fields.Field.{Field}
use Rattle.h2_frame.specs.declared.payload.Setting.{Setting}
use Rattle.h2_frame.specs.Frames.{FrameSeen, written}
use Rattle.h2_frame.specs.Sent.{data_frame, headers_frame, ping_ack, ping_frame, rst_stream_frame, settings_ack, settings_frame, window_update_frame}
use Rattle.h2_hpack.specs.Encoding.{block_bytes, size_update_to_zero}
use Rattle.h2_stream.specs.Stream.{or_zero}
use Rattle.h2_link.specs.declared.control.Control.{Control}
use Rattle.h2_link.specs.declared.control.Control.TheVariants.{Preface, SettingsAck, Ping, PingAck, LinkUpdate, StreamUpdate, Reset}
use Rattle.h2_link.specs.declared.live.LiveStream.{LiveStream}
use Rattle.h2_link.specs.declared.send.Share.{Share}
use Rattle.h2_link.specs.Feeds.{Line, fed}
use Rattle.h2_link.specs.LinkErrors.{send_window}
use Rattle.h2_link.specs.Queues.{unqueued}
use Rattle.h2_link.specs.Wire.{Wire}

-- "PRI * HTTP/2.0", "SM" (section 3.4)
abbrev pub preface_bytes : List ℕ
preface_bytes =
    80 ∷ 82 ∷ 73 ∷ 32 ∷ 42 ∷ 32 ∷ 72 ∷ 84 ∷ 84 ∷ 80 ∷ 47 ∷ 50 ∷ 46 ∷ 48 ∷ 13 ∷ 10 ∷ 13 ∷ 10 ∷ 83 ∷ 77 ∷ 13 ∷ 10 ∷ 13 ∷ 10 ∷ []

-- the client's settings: no push (2), header lists of at most 16,384 bytes (6)
abbrev pub client_settings : List Setting
client_settings = record { identifier = 2; value = 0 } ∷ record { identifier = 6; value = 16384 } ∷ []

-- what is sent as one: the preface with the client's SETTINGS, or a frame
pub data Outgoing : Type 0 where
  Opening : Outgoing
  AFrame : FrameSeen → Outgoing

abbrev pub octets_of : Outgoing → List ℕ
octets_of Opening = preface_bytes ++ written (settings_frame client_settings)
octets_of (AFrame f) = written f

abbrev pub outgoing : Control → Outgoing
outgoing Preface = Opening
outgoing (SettingsAck resizes) = AFrame settings_ack
outgoing (Ping word) = AFrame (ping_frame word)
outgoing (PingAck word) = AFrame (ping_ack word)
outgoing (LinkUpdate by) = AFrame (window_update_frame 0 by)
outgoing (StreamUpdate stream by) = AFrame (window_update_frame stream by)
outgoing (Reset stream code) = AFrame (rst_stream_frame stream code)

-- what is sent next, and the link and the lines after it
pub record Sent : Type 0 where
  pub frame : Outgoing
  pub wire : Wire
  pub lines : ℕ → Line

-- first the queued frames; the acknowledgement of SETTINGS_HEADER_TABLE_SIZE makes the next header block begin with an update
abbrev pub resizes_after : Control → Bool → Bool
resizes_after (SettingsAck resizes) before = before || resizes
resizes_after _ before = before

abbrev pub sent_control : Wire → (ℕ → Line) → Control → Sent
sent_control w g c = record {
  frame = outgoing c;
  wire = record w { queue = unqueued w.queue; resizes = resizes_after c w.resizes };
  lines = g;
}

-- then HEADERS of the least tag that waits, while the peer allows one stream more and numbers are left
abbrev pub is_below : ℕ → Option ℕ → Bool
is_below count None = true
is_below count (Some limit) = nat_lt count limit

abbrev pub may_open : Wire → Bool
may_open w = not w.retiring && is_below (length w.live) w.limit && nat_lt w.opened (2 ^ 30)

abbrev pub opens : Wire → Option ℕ
opens w = if may_open w then slice_get w.waiting 0 else None

-- a header block, after an update of the dynamic table's size to 0 where that is owed (RFC 7541, section 6.3)
abbrev pub head_block : Bool → List Field → List ℕ
head_block resizes fields = (if resizes then size_update_to_zero ∷ [] else []) ++ block_bytes fields

abbrev pub stream_opened : Wire → ℕ → LiveStream
stream_opened w tag = record { number = 2 * w.opened + 1; tag = tag; head = false; finished = false; credit = pos 0 }

abbrev pub sent_head : Wire → (ℕ → Line) → ℕ → Sent
sent_head w g tag = record {
  frame = AFrame (headers_frame (2 * w.opened + 1) (head_block w.resizes (g tag).fields));
  wire = record w { waiting = drop 1 w.waiting; live = w.live ++ stream_opened w tag ∷ []; opened = w.opened + 1; resizes = false };
  lines = g;
}

-- then DATA of the lowest stream that may send. How many bytes, and whether END_STREAM: as many as 16,384, both windows and
-- what is left allow, and END_STREAM exactly if nothing is left over them and nothing will be added; an empty frame only
-- for its END_STREAM
abbrev pub least_of : ℕ → ℕ → LiveStream → ℕ → ℕ
least_of window initial s left = min (min 16384 window) (min (or_zero (send_window initial s)) left)

abbrev pub share_as : ℕ → ℕ → Bool → Option (ℕ × Bool)
share_as len left finished =
    let ends = finished && (len == left) in
    if nat_lt 0 len || ends then Some (len, ends) else None

abbrev pub share_of : ℕ → ℕ → LiveStream → ℕ → Bool → Option (ℕ × Bool)
share_of window initial s left finished =
    if s.finished then None else share_as (least_of window initial s left) left finished

-- a stream that may send: its place, itself, how many bytes, and whether END_STREAM
abbrev pub share_or : ℕ → LiveStream → Option (ℕ × Bool) → Option Share → Option Share
share_or place s None other = other
share_or place s (Some x) other = Some (record { place = place; stream = s; len = x.0; ends = x.1 })

abbrev pub sender : ℕ → ℕ → (ℕ → Line) → ℕ → List LiveStream → Option Share
sender window initial g place [] = None
sender window initial g place (s ∷ streams) =
    share_or place s (share_of window initial s (length (g s.tag).left) (g s.tag).finished)
    (sender window initial g (place + 1) streams)

abbrev pub sent_data : Wire → (ℕ → Line) → Share → Sent
sent_data w g x = record {
  frame = AFrame (data_frame x.stream.number (take x.len (g x.stream.tag).left) x.ends);
  wire = record w {
    window = w.window - x.len;
    live = slice_set w.live x.place (record x.stream { finished = x.ends; credit = x.stream.credit -ℤ pos x.len });
  };
  lines = fed g x.stream.tag x.len;
}

abbrev pub next_data : Wire → (ℕ → Line) → Option Share → Option Sent
next_data w g None = None
next_data w g (Some x) = Some (sent_data w g x)

abbrev pub next_head : Wire → (ℕ → Line) → Option ℕ → Option Sent
next_head w g (Some tag) = Some (sent_head w g tag)
next_head w g None = next_data w g (sender w.window w.initial g 0 w.live)

abbrev pub next_control : Wire → (ℕ → Line) → Option Control → Option Sent
next_control w g (Some c) = Some (sent_control w g c)
next_control w g None = next_head w g (opens w)

-- what stands next to be sent
abbrev pub next : Wire → (ℕ → Line) → Option Sent
next w g = next_control w g (slice_get w.queue.items 0)

-- these, each the next at its time, lead from one link and its lines to the other
abbrev pub Sends : Wire → (ℕ → Line) → List Outgoing → Wire → (ℕ → Line) → Type 0
Sends w g [] w2 g2 = (w2 ≡ w) × (g2 ≡ g)
Sends w g (f ∷ fs) w2 g2 = (s : Sent) × (next w g ≡ Some s) × (f ≡ s.frame) × Sends s.wire s.lines fs w2 g2

-- a drain with so much room: whole frames, as many as fit
pub record Drains (room : ℕ) (w : Wire) (g : ℕ → Line) (octets : List ℕ) (w2 : Wire) (g2 : ℕ → Line) : Type 0 where
  pub frames : List Outgoing
  pub sends : Sends w g frames w2 g2
  pub whole : octets ≡ flat_map octets_of frames
  pub fits : length octets ≤ room
  -- it stops where nothing may be sent, or where the next does not fit
  pub stops : (s : Sent) → next w2 g2 ≡ Some s → room < length octets + length (octets_of s.frame)

-- the tags whose streams were opened between two states, each with the number of its stream
abbrev pub named : LiveStream → ℕ × ℕ
named s = (s.tag, s.number)

abbrev pub opened_between : Wire → Wire → List (ℕ × ℕ)
opened_between w w2 = map named (drop (length w.live) w2.live)
