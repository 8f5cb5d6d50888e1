-- Nobody has to believe these steps: what the code does at a frame and at a call, one definition for each function.
use Rattle.std.specs.Prelude.{ℕ, ◌+◌, ◌==◌, Bool, true, false, nat_lt, not, ◌||◌, if◌then◌else◌, min, Option, Some, None, is_some, List, [], ◌∷◌, ◌++◌, length, map, filter, slice_set, pos, ◌+ℤ◌, Result, Ok, Err}
use Rattle.std.specs.Ordering.{nat_cmp}
use Rattle.std.specs.List.{remove}
use Rattle.std.specs.BTreeSet.{insert_key}
use Rattle.std.specs.Set.{remove_key}
use Rattle.std.specs.BTreeMap.{is_at}
use Rattle.grpc_base.specs.declared.fields.Field.{Field}
use Rattle.grpc_base.specs.ErrorCodes.{cancel, enhance_your_calm}
use Rattle.h2_frame.specs.Frames.{FrameSeen, has_flag}
use Rattle.h2_frame.specs.Numbers.{data_type, headers_type, rst_stream_type, settings_type, ping_type, goaway_type, window_update_type, continuation_type, ack_flag, end_stream_flag, end_headers_flag}
use Rattle.h2_frame.specs.Payloads.{content_of, settings_in, increment, last_stream, ping_word, reset_code}
use Rattle.h2_hpack.specs.Blocks as hpack
use Rattle.h2_hpack.specs.Blocks.{decoded, fields_in, table_in}
use Rattle.h2_hpack.specs.declared.fault.HpackFault.{HpackFault}
use Rattle.h2_link.specs.declared.control.Control.TheVariants.{SettingsAck, Ping, PingAck, LinkUpdate, StreamUpdate}
use Rattle.h2_link.specs.declared.effect.Effect.{Effect}
use Rattle.h2_link.specs.declared.effect.Effect.TheVariants.{Continues, Ends, Faults}
use Rattle.h2_link.specs.declared.live.LiveStream.{LiveStream}
use Rattle.h2_link.specs.declared.news.LinkNews.{LinkNews}
use Rattle.h2_link.specs.declared.news.LinkNews.TheVariants as news
use Rattle.h2_link.specs.LinkErrors.{link_error, hpack_error, is_long}
use Rattle.h2_link.specs.Queues.{Queue, queued, sealed, reset_queued}
use Rattle.h2_link.specs.Settings.{with_settings}
use Rattle.h2_link.specs.Status.{http_status, is_interim}
use Rattle.h2_link.specs.StreamErrors.{headers_error, data_error, window_error}
use Rattle.h2_link.specs.Wire.{Block, Wire, Report, blank}

-- the first stream that passes a test, with its place
abbrev pub found_from : (LiveStream → Bool) → ℕ → List LiveStream → Option (ℕ × LiveStream)
found_from p place [] = None
found_from p place (s ∷ streams) = if p s then Some (place, s) else found_from p (place + 1) streams

abbrev pub is_numbered : ℕ → LiveStream → Bool
is_numbered number s = s.number == number

abbrev pub is_tagged : ℕ → LiveStream → Bool
is_tagged tag s = s.tag == tag

-- what something does to a stream for it alone, where it is no error
abbrev pub unless : Option ℕ → Effect → Effect
unless None e = e
unless (Some code) e = Faults code

-- the code of the reset of a stream that the peer has ended
abbrev pub reset_owed : LiveStream → Option ℕ
reset_owed s = if s.finished then None else Some cancel

abbrev pub headers_effect : LiveStream → Option ℕ → Bool → Effect
headers_effect s status end =
    unless (headers_error s status end)
    (if end then Ends (reset_owed s) else Continues (record s { head = s.head || not (is_interim status) }))

abbrev pub data_effect : LiveStream → Bool → Effect
data_effect s end = unless (data_error s) (if end then Ends (reset_owed s) else Continues s)

abbrev pub window_effect : ℕ → LiveStream → ℕ → Effect
window_effect initial s by = unless (window_error initial s by) (Continues (record s { credit = s.credit +ℤ pos by }))

-- the streams and the queue after it
abbrev pub live_after : ℕ → Effect → List LiveStream → List LiveStream
live_after place (Continues s) live = slice_set live place s
live_after place (Ends code) live = remove live place
live_after place (Faults code) live = remove live place

abbrev pub reset_after : ℕ → Option ℕ → Queue → Queue
reset_after number None q = q
reset_after number (Some code) q = reset_queued number code q

abbrev pub queue_after : ℕ → Effect → Queue → Queue
queue_after number (Continues s) q = q
queue_after number (Ends code) q = reset_after number code q
queue_after number (Faults code) q = reset_queued number code q

abbrev pub with_effect : Wire → ℕ → ℕ → Effect → Wire
with_effect w place number e = record w { live = live_after place e w.live; queue = queue_after number e w.queue }

-- the news of a stream error
abbrev pub fault_news : ℕ → ℕ → Effect → List LinkNews
fault_news tag seen (Continues s) = []
fault_news tag seen (Ends code) = []
fault_news tag seen (Faults code) = news.Fault tag code seen ∷ []

-- a whole header list
abbrev pub listed : Wire → List Field → Bool → ℕ → Option (ℕ × LiveStream) → Report
listed w fields end seen None = record { wire = w; news = [] }
listed w fields end seen (Some x) =
    let e = headers_effect x.1 (http_status fields) end in record {
      wire = with_effect w x.0 x.1.number e;
      news = news.Fields x.1.tag fields end seen ∷ fault_news x.1.tag seen e;
    }

abbrev pub list_read : Wire → Block → ℕ → hpack.State → Result (List Field) HpackFault → Result Report ℕ
list_read w block seen table (Err e) = Err (hpack_error e)
list_read w block seen table (Ok fields) =
    if is_long block.bytes then Err enhance_your_calm
    else Ok (listed (record w { table = table }) fields block.ends seen (found_from (is_numbered block.number) 0 w.live))

-- a whole header block
abbrev pub block_read : Wire → Block → ℕ → Result Report ℕ
block_read w block seen =
    list_read w block seen (table_in (decoded w.table block.bytes)) (fields_in (decoded w.table block.bytes))

abbrev pub opened_by : FrameSeen → Block
opened_by f = record { number = f.stream; ends = has_flag f.flags end_stream_flag; bytes = content_of f }

-- a header block that CONTINUATION is to complete
abbrev pub block_held : Wire → Block → Result Report ℕ
block_held w block =
    if is_long block.bytes then Err enhance_your_calm
    else Ok (record { wire = record w { block = Some block }; news = [] })

abbrev pub headers_reported : Wire → FrameSeen → ℕ → Result Report ℕ
headers_reported w f seen =
    if has_flag f.flags end_headers_flag then block_read w (opened_by f) seen else block_held w (opened_by f)

abbrev pub continuation_reported : Wire → FrameSeen → ℕ → Option Block → Result Report ℕ
continuation_reported w f seen None = Ok (record { wire = w; news = [] })
continuation_reported w f seen (Some b) =
    let block : Block = record b { bytes = b.bytes ++ f.payload } in
    if has_flag f.flags end_headers_flag then block_read (record w { block = None }) block seen
    else block_held (record w { block = None }) block

-- DATA that counts so many bytes: both windows are given back at once
abbrev pub link_updated : ℕ → Queue → Queue
link_updated len q = if len == 0 then q else queued q (LinkUpdate len)

abbrev pub stream_updated : LiveStream → ℕ → Bool → Queue → Queue
stream_updated s len end q = if end || not s.head || (len == 0) then q else queued q (StreamUpdate s.number len)

abbrev pub data_news : ℕ → List ℕ → Bool → ℕ → Effect → List LinkNews
data_news tag content end seen (Continues s) = news.Data tag content end seen ∷ []
data_news tag content end seen (Ends code) = news.Data tag content end seen ∷ []
data_news tag content end seen (Faults code) = news.Fault tag code seen ∷ []

abbrev pub data_reported : Wire → FrameSeen → ℕ → Option (ℕ × LiveStream) → Report
data_reported w f seen None = record { wire = record w { queue = link_updated (length f.payload) w.queue }; news = [] }
data_reported w f seen (Some x) =
    let end = has_flag f.flags end_stream_flag in
    let e = data_effect x.1 end in record {
      wire = with_effect (record w { queue = stream_updated x.1 (length f.payload) end (link_updated (length f.payload) w.queue) }) x.0 x.1.number e;
      news = data_news x.1.tag (content_of f) end seen e;
    }

abbrev pub reset_reported : Wire → ℕ → ℕ → Option (ℕ × LiveStream) → Report
reset_reported w code seen None = record { wire = w; news = [] }
reset_reported w code seen (Some x) =
    record { wire = with_effect w x.0 x.1.number (Ends None); news = news.Reset x.1.tag code seen ∷ [] }

abbrev pub window_reported : Wire → ℕ → ℕ → Option (ℕ × LiveStream) → Report
window_reported w by seen None = record { wire = w; news = [] }
window_reported w by seen (Some x) =
    let e = window_effect w.initial x.1 by in
    record { wire = with_effect w x.0 x.1.number e; news = fault_news x.1.tag seen e }

abbrev pub update_reported : Wire → FrameSeen → ℕ → Report
update_reported w f seen =
    if f.stream == 0 then record { wire = record w { window = min (w.window + increment f.payload) 4294967295 }; news = [] }
    else window_reported w (increment f.payload) seen (found_from (is_numbered f.stream) 0 w.live)

abbrev pub settings_reported : Wire → FrameSeen → Report
settings_reported w f =
    if has_flag f.flags ack_flag then record { wire = w; news = [] }
    else
    (let t = with_settings (record { limit = w.limit; initial = w.initial; resizes = false }) (settings_in f.payload) in
    record {
      wire = record w { ready = true; limit = t.limit; initial = t.initial; queue = queued w.queue (SettingsAck t.resizes) };
      news = if w.ready then [] else news.Ready ∷ [];
    })

abbrev pub ping_reported : Wire → FrameSeen → Report
ping_reported w f =
    if has_flag f.flags ack_flag then record { wire = w; news = [] }
    else record { wire = record w { queue = queued w.queue (PingAck (ping_word f.payload)) }; news = [] }

-- the streams above the last one of GOAWAY, and the others
abbrev pub is_above : ℕ → LiveStream → Bool
is_above last s = nat_lt last s.number

abbrev pub is_within : ℕ → LiveStream → Bool
is_within last s = not (is_above last s)

abbrev pub all_reset : List LiveStream → Queue → Queue
all_reset [] q = q
all_reset (s ∷ streams) q = all_reset streams (reset_queued s.number cancel q)

abbrev pub unseen : ℕ → ℕ → LinkNews
unseen seen tag = news.Unseen tag seen

abbrev pub unseen_stream : ℕ → LiveStream → LinkNews
unseen_stream seen s = news.Unseen s.tag seen

abbrev pub goaway_reported : Wire → ℕ → ℕ → Report
goaway_reported w last seen =
    let gone = filter (is_above last) w.live in record {
      wire = record w { retiring = true; waiting = []; live = filter (is_within last) w.live; queue = all_reset gone w.queue };
      news = map (unseen_stream seen) gone ++ map (unseen seen) w.waiting ++ (if w.retiring then [] else news.Retiring ∷ []);
    }

-- a frame without a header block, by its type
abbrev pub plain_reported : Wire → FrameSeen → ℕ → Report
plain_reported w f seen =
    if f.kind == data_type then data_reported w f seen (found_from (is_numbered f.stream) 0 w.live)
    else if f.kind == rst_stream_type then reset_reported w (reset_code f.payload) seen (found_from (is_numbered f.stream) 0 w.live)
    else if f.kind == settings_type then settings_reported w f
    else if f.kind == ping_type then ping_reported w f
    else if f.kind == goaway_type then goaway_reported w (last_stream f.payload) seen
    else if f.kind == window_update_type then update_reported w f seen
    else record { wire = w; news = [] }

-- a frame that breaks no rule of the link, but that its header block may turn out to be bad
abbrev pub applied : Wire → FrameSeen → ℕ → Result Report ℕ
applied w f seen =
    if f.kind == headers_type then headers_reported w f seen
    else if f.kind == continuation_type then continuation_reported w f seen w.block
    else Ok (plain_reported w f seen)

-- the link is broken: only how far it was read is kept
abbrev pub broke : Wire → ℕ → Report
broke w code = record { wire = blank w.read (Some code); news = news.Broken code ∷ [] }

abbrev pub outcome : Wire → ℕ → Result Report ℕ → Report
outcome w seen (Ok t) = record { wire = record t.wire { read = seen }; news = t.news }
outcome w seen (Err code) = broke w code

-- how many bytes were read with so many more; a count of 64 bits stays at its last number
abbrev pub read_after : ℕ → ℕ → ℕ
read_after read len = min (read + len) 18446744073709551615

abbrev pub judged : Wire → FrameSeen → Option ℕ → Report
judged w f (Some code) = broke w code
judged w f None =
    let seen = read_after w.read (9 + length f.payload) in
    outcome w seen (applied (record w { queue = sealed w.queue }) f seen)

-- a whole frame
abbrev pub reported : Wire → FrameSeen → Report
reported w f = judged w f (link_error w f)

-- the calls
abbrev pub placed : Wire → ℕ → Wire
placed w tag = record w { waiting = insert_key nat_cmp w.waiting tag }

abbrev pub cut_at : Wire → ℕ → ℕ → Option (ℕ × LiveStream) → Wire
cut_at w tag code None = record w { waiting = remove_key (is_at (nat_cmp tag)) w.waiting }
cut_at w tag code (Some x) = with_effect w x.0 x.1.number (Ends (Some code))

abbrev pub cut : Wire → ℕ → ℕ → Wire
cut w tag code = cut_at w tag code (found_from (is_tagged tag) 0 w.live)

abbrev pub pinged : Wire → ℕ → Wire
pinged w word = record w { queue = if is_some w.broken then w.queue else queued w.queue (Ping word) }

abbrev pub sealed_wire : Wire → Wire
sealed_wire w = record w { queue = sealed w.queue }
