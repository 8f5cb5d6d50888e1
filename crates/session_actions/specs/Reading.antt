-- The wire, read: the frames of a link one by one, what they said so far, and the rules whose breach breaks the link (RFC 9113, sections 3.4, 4.1 to
-- 4.3, 5.1, 5.4.1, 6, 6.5.2, 6.9.1, 6.9.2, 6.10 and 7; RFC 7541, sections 2.2, 3.1, 4 and 6). The channel's own: a link that breaks sends no GOAWAY,
-- PRIORITY of a wrong length breaks the link, and a header block has at most 65,536 bytes.
-- Example: on a new link the bytes 00 00 00 04 00 00 00 00 00 are a frame, SETTINGS without content, with end 9. PING in its place breaks the link
-- with PROTOCOL_ERROR. After it, WINDOW_UPDATE of 2,147,483,647 on stream 0 breaks it with FLOW_CONTROL_ERROR, since the window has 65,535 already.
use Rattle.std.specs.List.{list_any}
use Rattle.std.specs.Prelude.{Bool, Err, List, None, Ok, Option, Result, Some, [], drop, false, filter, flat_map, fold, if◌then◌else◌, length, map, nat_le, nat_lt, not, option_map, sum_by, unwrap_or, ℕ, ◌&&◌, ◌++◌, ◌+◌, ◌-◌, ◌==◌, ◌||◌, ◌∷◌}
use Rattle.grpc_base.specs.ErrorCodes.{compression_error, enhance_your_calm, flow_control_error, protocol_error}
use Rattle.grpc_base.specs.declared.fields.Field.{Field}
use Rattle.h2_frame.specs.Frames.{FrameSeen, has_flag}
use Rattle.h2_frame.specs.Numbers.{continuation_type, data_type, end_headers_flag, end_stream_flag, headers_type, push_promise_type, rst_stream_type, window_update_type}
use Rattle.h2_frame.specs.Payloads.{content_of, increment}
use Rattle.h2_frame.specs.Readings.{Fault, Partial, Reading, Whole, reading_of}
use Rattle.h2_frame.specs.declared.payload.Setting.{Setting}
use Rattle.h2_hpack.specs.Blocks.{decoded, fields_in, state_after}
use Rattle.h2_hpack.specs.Tables.{new_table}
use Rattle.h2_hpack.specs.declared.fault.HpackFault.{HpackFault}
use Rattle.lb_policy.specs.Table.{is_one_of}
use Rattle.session_actions.specs.Attempts.{is_outstanding}
use Rattle.session_actions.specs.Links.{frames_read, frames_written, has_settings, is_settings, read_bytes, settings_of}
use Rattle.session_actions.specs.Words.{find_last, holds}
use Rattle.session_actions.specs.declared.attempt.Attempt.{Attempt}
use Rattle.session_actions.specs.declared.link.Link.{Link}
use Rattle.session_actions.specs.declared.link.NextRead.{NextRead}
use Rattle.session_actions.specs.declared.link.OpenBlock.{OpenBlock}
use Rattle.session_actions.specs.declared.link.ReadFrame.{ReadFrame}
use Rattle.session_actions.specs.declared.seen.Seen.{Seen}
use Rattle.h2_hpack.specs.declared.fault.HpackFault.TheVariants as hpackfault
use Rattle.session_actions.specs.declared.link.NextRead.TheVariants as nextread

-- the value that the peer last gave a setting (section 6.5.3)
abbrev pub is_setting : ℕ → Setting → Bool
is_setting name x = x.identifier == name

abbrev pub setting : ℕ → Link → Option ℕ
setting name l = option_map (λ x. x.value) (find_last (is_setting name) (flat_map (λ r. settings_of r.frame) (frames_read l)))

-- the first size of the peer's window of a stream: SETTINGS_INITIAL_WINDOW_SIZE (section 6.5.2)
abbrev pub initial_window : Link → ℕ
initial_window l = unwrap_or (setting 4 l) 65535

-- the streams that the client opened (section 5.1.1)
abbrev pub opened_streams : Link → List ℕ
opened_streams l = map (λ f. f.stream) (filter (λ f. f.kind == headers_type) (frames_written l))

-- a window is what it was at first, with all WINDOW_UPDATE, less the DATA that was written; stream 0 is the whole link (section 6.9)
abbrev pub raise_by : ℕ → FrameSeen → ℕ
raise_by stream f = if (f.kind == window_update_type) && (f.stream == stream) then increment f.payload else 0

abbrev pub raised : ℕ → Link → ℕ
raised stream l = sum_by (λ r. raise_by stream r.frame) (frames_read l)

abbrev pub is_data_on : ℕ → FrameSeen → Bool
is_data_on stream f = (f.kind == data_type) && ((stream == 0) || (f.stream == stream))

abbrev pub used : ℕ → Link → ℕ
used stream l = sum_by (λ f. if is_data_on stream f then length f.payload else 0) (frames_written l)

abbrev pub first_window : ℕ → Link → ℕ
first_window stream l = if stream == 0 then 65535 else initial_window l

-- the flow-control window that is left (section 6.9); never below 0: a window that SETTINGS made negative sends nothing
abbrev pub room : ℕ → Link → ℕ
room stream l = first_window stream l + raised stream l - used stream l

abbrev pub largest_window : ℕ
largest_window = 2147483647

-- a header block is HEADERS and the CONTINUATION frames after it, up to END_HEADERS (section 4.3)
abbrev pub is_of_block : FrameSeen → Bool
is_of_block f = (f.kind == headers_type) || (f.kind == continuation_type)

abbrev pub is_last_of_block : FrameSeen → Bool
is_last_of_block f = has_flag f.flags end_headers_flag

abbrev pub no_block : OpenBlock
no_block = record { stream = 0; ends = false; bytes = [] }

abbrev pub block_with : Option OpenBlock → FrameSeen → OpenBlock
block_with open_ f =
    if f.kind == headers_type
    then record { stream = f.stream; ends = has_flag f.flags end_stream_flag; bytes = content_of f }
    else (let b = unwrap_or open_ no_block in record b { bytes = b.bytes ++ f.payload })

-- the block that is begun and not whole
abbrev pub block_after : Option OpenBlock → FrameSeen → Option OpenBlock
block_after open_ f =
    if not (is_of_block f) then open_
    else if is_last_of_block f then None
    else Some (block_with open_ f)

abbrev pub open_block : Link → Option OpenBlock
open_block l = fold (λ open_ r. block_after open_ r.frame) None (frames_read l)

-- the whole blocks so far, and the header list of one more (RFC 7541)
abbrev pub blocks_from : Option OpenBlock → List ReadFrame → List (List ℕ)
blocks_from open_ [] = []
blocks_from open_ (r ∷ rs) =
    let others = blocks_from (block_after open_ r.frame) rs in
    if is_of_block r.frame && is_last_of_block r.frame then (block_with open_ r.frame).bytes ∷ others else others

abbrev pub next_fields : Link → List ℕ → Result (List Field) HpackFault
next_fields l bytes = fields_in (decoded (state_after (Ok new_table) (blocks_from None (frames_read l))) bytes)

-- SETTINGS_ENABLE_PUSH (2) other than 0, SETTINGS_MAX_FRAME_SIZE (5) outside 16,384 to 16,777,215 (section 6.5.2)
abbrev pub is_bad_setting : Setting → Bool
is_bad_setting x =
    (is_setting 2 x && not (x.value == 0)) || (is_setting 5 x && not (nat_le 16384 x.value && nat_le x.value 16777215))

-- CONTINUATION outside a header block, or in one of another stream; any other frame in one (section 6.10)
abbrev pub is_misplaced : Option OpenBlock → FrameSeen → Bool
is_misplaced None f = f.kind == continuation_type
is_misplaced (Some b) f = not ((f.kind == continuation_type) && (f.stream == b.stream))

-- a frame of a stream that the client did not open (section 5.1)
abbrev pub is_of_opened : ℕ → Bool
is_of_opened kind = (kind == data_type) || (kind == headers_type) || (kind == rst_stream_type) || (kind == window_update_type)

abbrev pub is_unopened : Link → FrameSeen → Bool
is_unopened l f = is_of_opened f.kind && not (f.stream == 0) && not (is_one_of (opened_streams l) f.stream)

-- WINDOW_UPDATE that takes the window of the link above the largest (section 6.9.1)
abbrev pub lifts_link : Link → FrameSeen → Bool
lifts_link l f =
    (f.kind == window_update_type) && (f.stream == 0) && nat_lt (largest_window + used 0 l) (65535 + raised 0 l + increment f.payload)

-- the attempts that are outstanding on a link
abbrev pub is_outstanding_on : Link → Attempt → Bool
is_outstanding_on l a = is_outstanding a && holds (λ at. at.link == l.number) a.row.placed

abbrev pub outstanding_on : Link → Seen → List Attempt
outstanding_on l s = filter (is_outstanding_on l) s.attempts

-- SETTINGS_INITIAL_WINDOW_SIZE (4) above the largest window, or that takes the window of an attempt's stream above it (section 6.9.2)
abbrev pub lifts_stream : Link → ℕ → ℕ → Bool
lifts_stream l size stream = nat_lt (largest_window + used stream l) (size + raised stream l)

abbrev pub is_wide_setting : Link → Seen → Setting → Bool
is_wide_setting l s x =
    is_setting 4 x
    && (nat_lt largest_window x.value
    || list_any (λ a. holds (lifts_stream l x.value) a.row.stream) (outstanding_on l s))

-- the rules that a whole frame keeps with those before it, in their order: the code of the first that it breaks. The server's preface comes first
-- (section 3.4), and pushes are off (section 6.6). DATA beyond a receive window (section 6.9.1) is never found: both windows
-- count as given back when a DATA frame is read, and a frame has at most 16,384 bytes
abbrev pub link_error : Link → FrameSeen → Seen → Option ℕ
link_error l f s =
    if not (has_settings l) && not (is_settings f) then Some protocol_error
    else if f.kind == push_promise_type then Some protocol_error
    else if list_any is_bad_setting (settings_of f) then Some protocol_error
    else if is_misplaced (open_block l) f then Some protocol_error
    else if is_unopened l f then Some protocol_error
    else if lifts_link l f then Some flow_control_error
    else if list_any (is_wide_setting l s) (settings_of f) then Some flow_control_error
    else None

-- a header block has at most 65,536 bytes, which is the channel's own limit, and can be decoded (section 4.3)
abbrev pub is_long_block : OpenBlock → Bool
is_long_block b = nat_lt 65536 (length b.bytes)

abbrev pub hpack_error : HpackFault → ℕ
hpack_error hpackfault.TooLong = enhance_your_calm
hpack_error _ = compression_error

abbrev pub plain_read : FrameSeen → ℕ → NextRead
plain_read f end = nextread.Frame (record { frame = f; end = end; block = None })

abbrev pub block_read : FrameSeen → ℕ → OpenBlock → Result (List Field) HpackFault → NextRead
block_read f end b (Err fault) = nextread.Broken (hpack_error fault)
block_read f end b (Ok fields) =
    if is_long_block b then nextread.Broken enhance_your_calm
    else nextread.Frame (record { frame = f; end = end; block = Some (record { fields = fields; ends = b.ends }) })

abbrev pub part_read : Link → FrameSeen → ℕ → OpenBlock → NextRead
part_read l f end b =
    if is_last_of_block f then block_read f end b (next_fields l b.bytes)
    else if is_long_block b then nextread.Broken enhance_your_calm
    else plain_read f end

abbrev pub frame_read_by : Option ℕ → Link → FrameSeen → ℕ → NextRead
frame_read_by (Some code) l f end = nextread.Broken code
frame_read_by None l f end = if is_of_block f then part_read l f end (block_with (open_block l) f) else plain_read f end

abbrev pub next_read_by : Reading → Link → Seen → NextRead
next_read_by Partial l s = nextread.Nothing
next_read_by (Fault code) l s = nextread.Broken code
next_read_by (Whole f size) l s = frame_read_by (link_error l f s) l f (read_bytes l + size)

-- what the bytes after those that were read show
abbrev pub next_read : Link → Seen → NextRead
next_read l s = next_read_by (reading_of (drop (read_bytes l) l.received)) l s
