-- Nobody has to believe these steps: what the code does at a frame, one definition for each function.
use Rattle.std.specs.Prelude.{ℕ, ◌+◌, ◌==◌, Bool, true, false, nat_lt, not, ◌||◌, ◌&&◌, if◌then◌else◌, min, Option, Some, None, List, [], ◌∷◌, ◌++◌, length, slice_set, pos, ◌+ℤ◌, Result, Ok, Err}
use Rattle.std.specs.List.{remove}
use Rattle.grpc_base.specs.declared.fields.Field.{Field}
use Rattle.grpc_base.specs.ErrorCodes.{enhance_your_calm}
use Rattle.h2_frame.specs.Frames.{FrameSeen, has_flag}
use Rattle.h2_frame.specs.Numbers.{data_type, headers_type, rst_stream_type, settings_type, ping_type, window_update_type, continuation_type, ack_flag, end_stream_flag, end_headers_flag}
use Rattle.h2_frame.specs.Payloads.{content_of, settings_in, increment, ping_word, reset_code}
use Rattle.h2_hpack.specs.Blocks as hpack
use Rattle.h2_hpack.specs.Blocks.{decoded, fields_in, table_in}
use Rattle.h2_hpack.specs.declared.fault.HpackFault.{HpackFault}
use Rattle.h2_server.specs.declared.control.Control.{Control}
use Rattle.h2_server.specs.declared.control.Control.TheVariants.{SettingsAck, PingAck, LinkUpdate, StreamUpdate, Reset}
use Rattle.h2_server.specs.declared.effect.Effect.{Effect}
use Rattle.h2_server.specs.declared.effect.Effect.TheVariants.{Continues, Closes, Faults}
use Rattle.h2_server.specs.declared.live.LiveStream.{LiveStream}
use Rattle.h2_server.specs.declared.news.RequestNews.{RequestNews}
use Rattle.h2_server.specs.declared.news.RequestNews.TheVariants as news
use Rattle.h2_server.specs.LinkErrors.{link_error, hpack_error, is_long}
use Rattle.h2_server.specs.Settings.{with_settings}
use Rattle.h2_server.specs.StreamErrors.{trailers_error, window_error}
use Rattle.h2_server.specs.Wire.{Block, Wire, Report, blank}

-- the first stream that passes a test, with its place
abbrev pub found_from : (LiveStream → Bool) → ℕ → List LiveStream → Option (ℕ × LiveStream)
found_from p place [] = None
found_from p place (s ∷ streams) = if p s then Some (place, s) else found_from p (place + 1) streams

abbrev pub is_numbered : ℕ → LiveStream → Bool
is_numbered number s = s.number == number

-- whose request has not ended
abbrev pub is_asking : ℕ → LiveStream → Bool
is_asking number s = (s.number == number) && not s.ended

-- whose response has not ended
abbrev pub is_answering : ℕ → LiveStream → Bool
is_answering number s = (s.number == number) && not s.finished

-- what something does to a stream for it alone, where it is no error
abbrev pub unless : Option ℕ → Effect → Effect
unless None e = e
unless (Some code) e = Faults code

-- END_STREAM of the client, or none
abbrev pub request_effect : LiveStream → Bool → Effect
request_effect s end =
    if not end then Continues s else if s.finished then Closes else Continues (record s { ended = true })

-- END_STREAM of the server, or none
abbrev pub response_effect : LiveStream → Bool → Effect
response_effect s end =
    if not end then Continues s else if s.ended then Closes else Continues (record s { finished = true })

abbrev pub trailers_effect : LiveStream → Bool → Effect
trailers_effect s end = unless (trailers_error end) (request_effect s end)

abbrev pub window_effect : ℕ → LiveStream → ℕ → Effect
window_effect initial s by = unless (window_error initial s by) (Continues (record s { credit = s.credit +ℤ pos by }))

-- the streams and the queue after it
abbrev pub live_after : ℕ → Effect → List LiveStream → List LiveStream
live_after place (Continues s) live = slice_set live place s
live_after place Closes live = remove live place
live_after place (Faults code) live = remove live place

abbrev pub queue_after : ℕ → Effect → List Control → List Control
queue_after number (Continues s) q = q
queue_after number Closes q = q
queue_after number (Faults code) q = q ++ Reset number code ∷ []

abbrev pub with_effect : Wire → ℕ → ℕ → Effect → Wire
with_effect w place number e = record w { live = live_after place e w.live; queue = queue_after number e w.queue }

-- the news of something about a stream, where it is no stream error
abbrev pub news_of : ℕ → Option RequestNews → Effect → Option RequestNews
news_of number other (Continues s) = other
news_of number other Closes = other
news_of number other (Faults code) = Some (news.Fault number code)

-- a whole header list: one that opens a stream, or trailers
abbrev pub new_stream : ℕ → Bool → LiveStream
new_stream number end = record { number = number; ended = end; finished = false; credit = pos 0 }

abbrev pub opened : Wire → List Field → ℕ → Bool → Report
opened w fields number end = record {
  wire = record w { live = w.live ++ new_stream number end ∷ []; last = number };
  news = Some (news.Fields number fields end);
}

abbrev pub trailed : Wire → List Field → Bool → Option (ℕ × LiveStream) → Report
trailed w fields end None = record { wire = w; news = None }
trailed w fields end (Some x) =
    let e = trailers_effect x.1 end in record {
      wire = with_effect w x.0 x.1.number e;
      news = news_of x.1.number (Some (news.Fields x.1.number fields end)) e;
    }

abbrev pub listed : Wire → List Field → ℕ → Bool → Report
listed w fields number end =
    if nat_lt w.last number then opened w fields number end
    else trailed w fields end (found_from (is_asking number) 0 w.live)

abbrev pub list_read : Wire → Block → hpack.State → Result (List Field) HpackFault → Result Report ℕ
list_read w block table (Err e) = Err (hpack_error e)
list_read w block table (Ok fields) =
    if is_long block.bytes then Err enhance_your_calm
    else Ok (listed (record w { table = table }) fields block.number block.ends)

-- a whole header block
abbrev pub block_read : Wire → Block → Result Report ℕ
block_read w block = list_read w block (table_in (decoded w.table block.bytes)) (fields_in (decoded w.table block.bytes))

abbrev pub opened_by : FrameSeen → Block
opened_by f = record { number = f.stream; ends = has_flag f.flags end_stream_flag; bytes = content_of f }

-- a header block that CONTINUATION is to complete
abbrev pub block_held : Wire → Block → Result Report ℕ
block_held w block =
    if is_long block.bytes then Err enhance_your_calm
    else Ok (record { wire = record w { block = Some block }; news = None })

abbrev pub headers_reported : Wire → FrameSeen → Result Report ℕ
headers_reported w f =
    if has_flag f.flags end_headers_flag then block_read w (opened_by f) else block_held w (opened_by f)

abbrev pub continuation_reported : Wire → FrameSeen → Option Block → Result Report ℕ
continuation_reported w f None = Ok (record { wire = w; news = None })
continuation_reported w f (Some b) =
    let block : Block = record b { bytes = b.bytes ++ f.payload } in
    if has_flag f.flags end_headers_flag then block_read (record w { block = None }) block
    else block_held (record w { block = None }) block

-- DATA that counts so many bytes: both windows are given back at once
abbrev pub link_updated : ℕ → List Control → List Control
link_updated len q = if len == 0 then q else q ++ LinkUpdate len ∷ []

abbrev pub stream_updated : ℕ → ℕ → Bool → List Control → List Control
stream_updated number len end q = if end || (len == 0) then q else q ++ StreamUpdate number len ∷ []

abbrev pub data_reported : Wire → FrameSeen → Option (ℕ × LiveStream) → Report
data_reported w f None = record { wire = record w { queue = link_updated (length f.payload) w.queue }; news = None }
data_reported w f (Some x) =
    let end = has_flag f.flags end_stream_flag in record {
      wire = with_effect (record w { queue = stream_updated x.1.number (length f.payload) end (link_updated (length f.payload) w.queue) }) x.0 x.1.number (request_effect x.1 end);
      news = Some (news.Data x.1.number (content_of f) end);
    }

abbrev pub reset_reported : Wire → ℕ → Option (ℕ × LiveStream) → Report
reset_reported w code None = record { wire = w; news = None }
reset_reported w code (Some x) =
    record { wire = with_effect w x.0 x.1.number Closes; news = Some (news.Reset x.1.number code) }

abbrev pub window_reported : Wire → ℕ → Option (ℕ × LiveStream) → Report
window_reported w by None = record { wire = w; news = None }
window_reported w by (Some x) =
    let e = window_effect w.initial x.1 by in
    record { wire = with_effect w x.0 x.1.number e; news = news_of x.1.number None e }

abbrev pub update_reported : Wire → FrameSeen → Report
update_reported w f =
    if f.stream == 0 then record { wire = record w { window = min (w.window + increment f.payload) 4294967295 }; news = None }
    else window_reported w (increment f.payload) (found_from (is_numbered f.stream) 0 w.live)

abbrev pub settings_reported : Wire → FrameSeen → Report
settings_reported w f =
    if has_flag f.flags ack_flag then record { wire = w; news = None }
    else
    (let t = with_settings (record { initial = w.initial; resizes = false }) (settings_in f.payload) in
    record { wire = record w { ready = true; initial = t.initial; queue = w.queue ++ SettingsAck t.resizes ∷ [] }; news = None })

abbrev pub ping_reported : Wire → FrameSeen → Report
ping_reported w f =
    if has_flag f.flags ack_flag then record { wire = w; news = None }
    else record { wire = record w { queue = w.queue ++ PingAck (ping_word f.payload) ∷ [] }; news = None }

-- a frame without a header block, by its type
abbrev pub plain_reported : Wire → FrameSeen → Report
plain_reported w f =
    if f.kind == data_type then data_reported w f (found_from (is_asking f.stream) 0 w.live)
    else if f.kind == rst_stream_type then reset_reported w (reset_code f.payload) (found_from (is_numbered f.stream) 0 w.live)
    else if f.kind == settings_type then settings_reported w f
    else if f.kind == ping_type then ping_reported w f
    else if f.kind == window_update_type then update_reported w f
    else record { wire = w; news = None }

-- a frame that breaks no rule of the link, but that its header block may turn out to be bad
abbrev pub applied : Wire → FrameSeen → Result Report ℕ
applied w f =
    if f.kind == headers_type then headers_reported w f
    else if f.kind == continuation_type then continuation_reported w f w.block
    else Ok (plain_reported w f)

-- the link is broken: nothing of it is kept
abbrev pub broke : ℕ → Report
broke code = record { wire = blank (Some code); news = Some (news.Broken code) }

abbrev pub outcome : Result Report ℕ → Report
outcome (Ok t) = t
outcome (Err code) = broke code

abbrev pub judged : Wire → FrameSeen → Option ℕ → Report
judged w f (Some code) = broke code
judged w f None = outcome (applied w f)

-- a whole frame
abbrev pub reported : Wire → FrameSeen → Report
reported w f = judged w f (link_error w f)
