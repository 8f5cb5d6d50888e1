-- The wire, written: what a link has to send, and in which order (RFC 9113, sections 3.4, 4.3.1, 5.1.1, 5.1.2, 5.2.2, 6, 6.5.2, 6.5.3, 6.7 and 6.9.1;
-- RFC 7541, sections 4.2 and 6.3; gRPC over HTTP/2, "Requests": Timeout, Length-Prefixed-Message; gRFC A6, "Exposed Retry Metadata").
-- Example: one attempt waits on a link whose server sent SETTINGS; its call has the message `hi` and is finished. The link writes the preface (45
-- bytes with the client's SETTINGS), the acknowledgement, HEADERS on stream 1, and DATA of 7 bytes with END_STREAM.
use Rattle.std.specs.List.{list_any}
use Rattle.std.specs.Option.{option_map_or, option_or}
use Rattle.std.specs.Prelude.{Bool, List, None, Option, Some, [], count_by, drop, false, filter, if◌then◌else◌, is_none, is_some, length, map, min, nat_le, nat_lt, not, option_and_then, option_map, slice_get, take, true, ℕ, ◌&&◌, ◌*◌, ◌++◌, ◌+◌, ◌-◌, ◌==◌, ◌||◌, ◌∷◌}
use Rattle.grpc_base.specs.declared.event.Event.{Event}
use Rattle.grpc_base.specs.declared.event.Reply.{Reply}
use Rattle.grpc_frame.specs.Messages.{framed_all}
use Rattle.grpc_meta.specs.RequestFields.{fields_of_request}
use Rattle.h2_frame.specs.Frames.{FrameSeen, has_flag, written}
use Rattle.h2_frame.specs.Numbers.{ack_flag, data_type, end_stream_flag, headers_type, ping_type, rst_stream_type, settings_type, window_update_type}
use Rattle.h2_frame.specs.Payloads.{ping_word}
use Rattle.h2_frame.specs.Sent.{data_frame, headers_frame, ping_ack, ping_frame, settings_ack, settings_frame, window_update_frame}
use Rattle.h2_frame.specs.declared.payload.Setting.{Setting}
use Rattle.h2_hpack.specs.Encoding.{block_bytes, size_update_to_zero}
use Rattle.session_actions.specs.Attempts.{call_of, with_attempt}
use Rattle.session_actions.specs.Configs.{deadline}
use Rattle.session_actions.specs.Entries.{now, replied, with_entry}
use Rattle.session_actions.specs.Links.{frames_read, frames_written, has_written_end, is_retiring, is_settings, is_stream_before, link_of, link_over, settings_of, wants_resolution, with_link}
use Rattle.session_actions.specs.Reading.{is_setting, next_read, opened_streams, outstanding_on, room, setting, used}
use Rattle.session_actions.specs.Responses.{response}
use Rattle.session_actions.specs.Words.{foremost, is_number, numbered}
use Rattle.session_actions.specs.declared.action.Action.{Action}
use Rattle.session_actions.specs.declared.attempt.Attempt.{Attempt}
use Rattle.session_actions.specs.declared.call.Call.{Call}
use Rattle.session_actions.specs.declared.entry.OpenEntry.{OpenEntry}
use Rattle.session_actions.specs.declared.link.Link.{Link}
use Rattle.session_actions.specs.declared.link.NextRead.{NextRead}
use Rattle.session_actions.specs.declared.link.ReadFrame.{ReadFrame}
use Rattle.session_actions.specs.declared.link.Sent.{Sent}
use Rattle.session_actions.specs.declared.link.Traffic.{Traffic}
use Rattle.session_actions.specs.declared.seen.Seen.{Seen}
use Rattle.session_actions.specs.declared.action.Action.TheVariants as action
use Rattle.grpc_base.specs.declared.event.Event.TheVariants as event
use Rattle.session_actions.specs.declared.link.NextRead.TheVariants as nextread
use Rattle.session_actions.specs.declared.link.LinkOver.TheVariants as over
use Rattle.grpc_base.specs.declared.event.Reply.TheVariants as reply
use Rattle.session_actions.specs.declared.link.Sent.TheVariants as sent
use Rattle.session_actions.specs.declared.link.Traffic.TheVariants as traffic

-- how many bytes of its call's messages, each with its prefix, were written for an attempt; how many were accepted
abbrev pub drained : Attempt → Seen → ℕ
drained a s = option_map_or (λ stream. option_map_or (used stream) (link_of a s) 0) a.row.stream 0

abbrev pub accepted_bytes : Call → ℕ
accepted_bytes c = length (framed_all c.messages)

-- "PRI * HTTP/2.0", "SM" (RFC 9113, section 3.4), and the client's settings: no push (2), header lists of at most 16,384 bytes (6)
abbrev pub preface_bytes : List ℕ
preface_bytes =
    80 ∷ 82 ∷ 73 ∷ 32 ∷ 42 ∷ 32 ∷ 72 ∷ 84 ∷ 84 ∷ 80 ∷ 47 ∷ 50 ∷ 46 ∷ 48 ∷ 13 ∷ 10 ∷ 13 ∷ 10 ∷ 83 ∷ 77 ∷ 13 ∷ 10 ∷ 13 ∷ 10 ∷ []

abbrev pub client_settings : List Setting
client_settings = record { identifier = 2; value = 0 } ∷ record { identifier = 6; value = 16384 } ∷ []

abbrev pub bytes_of : Sent → List ℕ
bytes_of sent.Preface = preface_bytes ++ written (settings_frame client_settings)
bytes_of (sent.Frame f) = written f

-- whether the preface was written, and which control frames were
abbrev pub is_preface_of : Traffic → Bool
is_preface_of (traffic.Written sent.Preface) = true
is_preface_of _ = false

abbrev pub has_begun : Link → Bool
has_begun l = list_any is_preface_of l.traffic

abbrev pub is_control : FrameSeen → Bool
is_control f = (f.kind == settings_type) || (f.kind == ping_type) || (f.kind == window_update_type) || (f.kind == rst_stream_type)

abbrev pub controls_written : Link → ℕ
controls_written l = count_by is_control (frames_written l)

-- a header block begins with a dynamic table size update to 0 where an acknowledgement written since the last block answers SETTINGS that name
-- SETTINGS_HEADER_TABLE_SIZE (1). The acknowledgements answer the SETTINGS in turn (RFC 7541, section 4.2; RFC 9113, section 4.3.1)
abbrev pub table_sizes_named : Link → List Bool
table_sizes_named l =
    map (λ r. list_any (is_setting 1) (settings_of r.frame)) (filter (λ r. is_settings r.frame) (frames_read l))

abbrev pub is_first_named : List Bool → Bool
is_first_named [] = false
is_first_named (named ∷ others) = named

abbrev pub owes_update_from : List Bool → Bool → List FrameSeen → Bool
owes_update_from named owes [] = owes
owes_update_from named owes (f ∷ frames) =
    if f.kind == settings_type then owes_update_from (drop 1 named) (owes || is_first_named named) frames
    else if f.kind == headers_type then owes_update_from named false frames
    else owes_update_from named owes frames

abbrev pub owes_update : Link → Bool
owes_update l = owes_update_from (table_sizes_named l) false (frames_written l)

-- the HEADERS that open the next stream for an attempt, with the time left until the deadline of its call
abbrev pub time_left : Call → Seen → Option ℕ
time_left c s = option_map (λ moment. moment - now s) (deadline c s)

abbrev pub request_block : Call → Attempt → Link → Seen → List ℕ
request_block c a l s =
    (if owes_update l then size_update_to_zero ∷ [] else [])
    ++ block_bytes (fields_of_request c.request s.setup.authority (time_left c s) a.row.number)

abbrev pub next_stream : Link → ℕ
next_stream l = 2 * length (opened_streams l) + 1

abbrev pub headers_for : Link → Seen → Attempt → Option Sent
headers_for l s a = option_map (λ c. sent.Frame (headers_frame (next_stream l) (request_block c a l s))) (call_of a s)

-- the next DATA of an attempt's stream: as much as one frame, both windows and the accepted messages allow; END_STREAM with the last of them where
-- no further message comes; an empty frame only for END_STREAM
abbrev pub data_len : Link → ℕ → ℕ → ℕ
data_len l stream left = min (min 16384 (room 0 l)) (min (room stream l) left)

abbrev pub data_of : Call → Link → ℕ → ℕ → Option Sent
data_of c l stream len =
    let done = used stream l in
    let ends = c.finished && (done + len == accepted_bytes c) in
    if nat_lt 0 len || ends then Some (sent.Frame (data_frame stream (take len (drop done (framed_all c.messages))) ends))
    else None

abbrev pub data_on : Link → ℕ → Call → Option Sent
data_on l stream c =
    if has_written_end stream l then None else data_of c l stream (data_len l stream (accepted_bytes c - used stream l))

abbrev pub data_for : Link → Seen → Attempt → Option Sent
data_for l s a = option_and_then (λ stream. option_and_then (data_on l stream) (call_of a s)) a.row.stream

-- the attempts on a link that wait for a stream, and those that have one
abbrev pub waiting_on : Link → Seen → List Attempt
waiting_on l s = filter (λ a. is_none a.row.stream) (outstanding_on l s)

abbrev pub streaming_on : Link → Seen → List Attempt
streaming_on l s = filter (λ a. is_some a.row.stream) (outstanding_on l s)

-- a stream may be opened while no GOAWAY came, and the peer allows one more (SETTINGS_MAX_CONCURRENT_STREAMS, 3). A stream is open while its attempt
-- is outstanding: when that ends, both sides are closed, or RST_STREAM goes out before any further HEADERS (RFC 9113, section 5.1.2)
abbrev pub may_open_stream : Link → Seen → Bool
may_open_stream l s = not (is_retiring l) && option_map_or (λ most. nat_lt (length (streaming_on l s)) most) (setting 3 l) true

-- the next in this order, which is the channel's own: the preface, the control frames that are owed, HEADERS of the first attempt that waits, DATA of
-- the lowest stream
abbrev pub next_control : Link → Option Sent
next_control l = option_map (λ f. sent.Frame f) (slice_get l.owed (controls_written l))

abbrev pub next_headers : Link → Seen → Option Sent
next_headers l s = if may_open_stream l s then option_and_then (headers_for l s) (slice_get (waiting_on l s) 0) else None

abbrev pub next_data : Link → Seen → Option Sent
next_data l s =
    option_and_then (data_for l s) (foremost is_stream_before (filter (λ a. is_some (data_for l s a)) (streaming_on l s)))

abbrev pub sendable : Link → Seen → Option Sent
sendable l s =
    if not (has_begun l) then Some sent.Preface
    else option_or (next_control l) (option_or (next_headers l s) (next_data l s))

-- what a frame that was read makes the client queue: an acknowledgement of SETTINGS, an answer to PING, and for DATA leave to send as much again.
-- That is on the link, and on the stream unless its attempt ended before, no head came before, or the frame has END_STREAM. It is judged before the
-- frame is applied, and queued before a RST_STREAM that the frame causes
abbrev pub is_going_on : ℕ → Seen → Attempt → Bool
is_going_on stream s a = is_number stream a.row.stream && is_some (response a s).head

abbrev pub updates_for : FrameSeen → Link → Seen → List FrameSeen
updates_for f l s =
    if length f.payload == 0 then []
    else window_update_frame 0 (length f.payload)
    ∷ (if list_any (is_going_on f.stream s) (outstanding_on l s) && not (has_flag f.flags end_stream_flag)
    then window_update_frame f.stream (length f.payload) ∷ [] else [])

-- (a PING with ACK is passed over; so are PRIORITY, unknown types outside a header block, and settings 5 and 6. A link that breaks sends no GOAWAY.)
abbrev pub owed_for : FrameSeen → Link → Seen → List FrameSeen
owed_for f l s =
    if is_settings f then settings_ack ∷ []
    else if (f.kind == ping_type) && not (has_flag f.flags ack_flag) then ping_ack (ping_word f.payload) ∷ []
    else if f.kind == data_type then updates_for f l s
    else []

-- a frame is written while it fits the room that the environment gives, and 1,048,576 bytes
abbrev pub bytes_given : Option Reply → List ℕ
bytes_given (Some (reply.Octets octets)) = octets
bytes_given _ = []

abbrev pub fits_drain : ℕ → OpenEntry → Sent → Bool
fits_drain most o x = nat_le (length (bytes_given o.reply) + length (bytes_of x)) (min most 1048576)

abbrev pub frame_to_write : ℕ → ℕ → OpenEntry → Seen → Sent → Option Action
frame_to_write link most o s x = if fits_drain most o x then Some (action.FrameWritten link x) else None

abbrev pub next_written : ℕ → ℕ → OpenEntry → Seen → Option Action
next_written link most o s =
    option_and_then (λ l. option_and_then (frame_to_write link most o s) (sendable l s)) (numbered s.links link)

-- what a frame that is written adds: HEADERS give a stream to the first attempt that waits
abbrev pub with_stream : ℕ → Attempt → Attempt
with_stream stream a = record a { row = record a.row { stream = Some stream } }

abbrev pub stream_opened : FrameSeen → Link → Seen → Seen
stream_opened f l s = option_map_or (λ a. with_attempt (with_stream f.stream) a.place s) (slice_get (waiting_on l s) 0) s

abbrev pub stream_opened_by : Sent → Link → Seen → Seen
stream_opened_by sent.Preface l s = s
stream_opened_by (sent.Frame f) l s = if f.kind == headers_type then stream_opened f l s else s

abbrev pub with_written_bytes : Sent → OpenEntry → OpenEntry
with_written_bytes x o = record o { reply = Some (reply.Octets (bytes_given o.reply ++ bytes_of x)) }

abbrev pub frame_written_on : Sent → Seen → Link → Seen
frame_written_on x s l =
    with_entry (with_written_bytes x)
    (with_link (λ k. record k { traffic = k.traffic ++ traffic.Written x ∷ [] }) l.number (stream_opened_by x l s))

abbrev pub frame_written : ℕ → Sent → Seen → Seen
frame_written link x s = option_map_or (frame_written_on x s) (numbered s.links link) s

-- what a frame that is read adds
abbrev pub with_frame_read : ReadFrame → List FrameSeen → Link → Link
with_frame_read r frames l = record l { traffic = l.traffic ++ traffic.Read r ∷ []; owed = l.owed ++ frames }

abbrev pub frame_read_on : ReadFrame → Seen → Link → Seen
frame_read_on r s l = with_link (with_frame_read r (owed_for r.frame l s)) l.number s

abbrev pub frame_read : ℕ → ReadFrame → Seen → Seen
frame_read link r s = option_map_or (frame_read_on r s) (numbered s.links link) s

-- the next frame of a piece that came, or the error that it shows
abbrev pub read_action : ℕ → NextRead → Option Action
read_action link nextread.Nothing = None
read_action link (nextread.Frame r) = Some (action.FrameRead link r)
read_action link (nextread.Broken number) = Some (action.LinkBreaks link number)

abbrev pub read_next : ℕ → Seen → Link → Option Action
read_next link s l = if is_none l.over then read_action link (next_read l s) else None

abbrev pub next_frame_read : ℕ → Seen → Option Action
next_frame_read link s = option_and_then (read_next link s) (numbered s.links link)

abbrev pub link_broken : ℕ → Seen → Seen
link_broken link s = wants_resolution (link_over over.Broken link s)

abbrev pub link_lost : ℕ → Seen → Seen
link_lost link s = replied reply.Done (wants_resolution (link_over over.Lost link s))

abbrev pub with_piece : Event → Link → Link
with_piece (event.Arrived link piece) l = record l { received = l.received ++ piece }
with_piece _ l = l

abbrev pub ping_of : Event → List FrameSeen
ping_of (event.Ping link word) = ping_frame word ∷ []
ping_of _ = []
