-- What a server's link sends: queued frames, and HEADERS, DATA and RST_STREAM of its streams (RFC 9113, section 6).
use Rattle.std.specs.Prelude.{ℕ, ◌-◌, ◌==◌, Bool, false, nat_lt, ◌&&◌, ◌||◌, if◌then◌else◌, min, Option, Some, None, option_map, List, [], ◌∷◌, ◌++◌, length, take, drop, slice_get, slice_set, pos, ◌-ℤ◌}
use Rattle.h2_frame.specs.Frames.{written}
use Rattle.h2_frame.specs.Sent.{data_frame, rst_stream_frame}
use Rattle.h2_hpack.specs.Encoding.{size_update_to_zero}
use Rattle.h2_stream.specs.Stream.{or_zero}
use Rattle.h2_server.specs.declared.control.Control.{Control}
use Rattle.h2_server.specs.declared.control.Control.TheVariants.{SettingsAck}
use Rattle.h2_server.specs.declared.effect.Effect.TheVariants.{Closes}
use Rattle.h2_server.specs.declared.live.LiveStream.{LiveStream}
use Rattle.h2_server.specs.declared.share.Share.{Share}
use Rattle.h2_server.specs.Frames.{control_frame, goaway_frame, response_headers}
use Rattle.h2_server.specs.LinkErrors.{send_window}
use Rattle.h2_server.specs.Steps.{found_from, is_answering, is_numbered, response_effect, live_after, with_effect}
use Rattle.h2_server.specs.Wire.{Wire}

-- the bytes that are sent, and the link after them
pub record Sent : Type 0 where
  pub wire : Wire
  pub octets : List ℕ

-- nothing is sent
abbrev pub nothing : Wire → Sent
nothing w = record { wire = w; octets = [] }

-- the first queued frame; the acknowledgement of SETTINGS_HEADER_TABLE_SIZE makes the next header block begin with an update
abbrev pub resizes_after : Control → Bool → Bool
resizes_after (SettingsAck resizes) before = before || resizes
resizes_after _ before = before

abbrev pub control_sent : Wire → Control → Sent
control_sent w c = record {
  wire = record w { queue = drop 1 w.queue; resizes = resizes_after c w.resizes };
  octets = written (control_frame c);
}

abbrev pub next_control : Wire → Option Sent
next_control w = option_map (control_sent w) (slice_get w.queue 0)

-- a header block of a response, after an update of the dynamic table's size to 0 where that is owed (RFC 7541, section
-- 6.3); a stream that is closed, or whose response has ended, sends nothing
abbrev pub block_bytes : Bool → List ℕ → List ℕ
block_bytes resizes block = (if resizes then size_update_to_zero ∷ [] else []) ++ block

abbrev pub block_sent_at : Wire → List ℕ → Bool → Option (ℕ × LiveStream) → Sent
block_sent_at w block ends None = nothing w
block_sent_at w block ends (Some x) = record {
  wire = record w { live = live_after x.0 (response_effect x.1 ends) w.live; resizes = false };
  octets = written (response_headers x.1.number (block_bytes w.resizes block) ends);
}

abbrev pub block_sent : Wire → ℕ → List ℕ → Bool → Sent
block_sent w stream block ends = block_sent_at w block ends (found_from (is_answering stream) 0 w.live)

-- DATA: as many bytes as 16,384, both windows and what is left allow, and END_STREAM exactly if nothing is left over them
-- and nothing will be added; an empty frame only for its END_STREAM
abbrev pub least_of : ℕ → ℕ → LiveStream → ℕ → ℕ
least_of window initial s left = min (min 16384 window) (min (or_zero (send_window initial s)) left)

abbrev pub share_as : ℕ → ℕ → Bool → Option Share
share_as len left finished =
    let ends = finished && (len == left) in
    if nat_lt 0 len || ends then Some (record { len = len; ends = ends }) else None

-- what a stream may send of so many bytes that are left
abbrev pub share_at : Wire → ℕ → Bool → Option (ℕ × LiveStream) → Option Share
share_at w left finished None = None
share_at w left finished (Some x) = share_as (least_of w.window w.initial x.1 left) left finished

abbrev pub share_of : Wire → ℕ → ℕ → Bool → Option Share
share_of w stream left finished = share_at w left finished (found_from (is_answering stream) 0 w.live)

abbrev pub spent : LiveStream → ℕ → LiveStream
spent s len = record s { credit = s.credit -ℤ pos len }

abbrev pub data_sent_at : Wire → List ℕ → Option (ℕ × LiveStream) → Option Share → Sent
data_sent_at w left None o = nothing w
data_sent_at w left (Some x) None = nothing w
data_sent_at w left (Some x) (Some share) = record {
  wire = record w {
    window = w.window - share.len;
    live = live_after x.0 (response_effect (spent x.1 share.len) share.ends) w.live;
  };
  octets = written (data_frame x.1.number (take share.len left) share.ends);
}

abbrev pub data_sent : Wire → ℕ → List ℕ → Bool → Sent
data_sent w stream left finished =
    data_sent_at w left (found_from (is_answering stream) 0 w.live) (share_of w stream (length left) finished)

-- RST_STREAM of a stream that is not closed, which closes it (section 6.4)
abbrev pub reset_sent_at : Wire → ℕ → Option (ℕ × LiveStream) → Sent
reset_sent_at w code None = nothing w
reset_sent_at w code (Some x) =
    record { wire = with_effect w x.0 x.1.number Closes; octets = written (rst_stream_frame x.1.number code) }

abbrev pub reset_sent : Wire → ℕ → ℕ → Sent
reset_sent w stream code = reset_sent_at w code (found_from (is_numbered stream) 0 w.live)

-- GOAWAY with the last stream that the client opened (section 6.8)
abbrev pub goaway_bytes : Wire → ℕ → List ℕ
goaway_bytes w code = written (goaway_frame w.last code)
