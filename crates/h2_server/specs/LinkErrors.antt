-- The errors that break a link (RFC 9113, section 5.4.1), beyond those that one frame shows by itself, in their order.
use Rattle.std.specs.Prelude.{ℕ, ◌+◌, ◌%◌, ◌==◌, Bool, nat_le, nat_lt, not, ◌&&◌, ◌||◌, if◌then◌else◌, Option, Some, None, List, [], length, ℤ, pos, ◌+ℤ◌, int_lt}
use Rattle.std.specs.List.{list_any}
use Rattle.grpc_base.specs.ErrorCodes.{protocol_error, flow_control_error, compression_error, enhance_your_calm}
use Rattle.h2_frame.specs.declared.payload.Setting.{Setting}
use Rattle.h2_frame.specs.Frames.{FrameSeen, has_flag}
use Rattle.h2_frame.specs.Numbers.{data_type, headers_type, rst_stream_type, settings_type, push_promise_type, window_update_type, continuation_type, ack_flag}
use Rattle.h2_frame.specs.Payloads.{settings_in, increment}
use Rattle.h2_hpack.specs.declared.fault.HpackFault.{HpackFault}
use Rattle.h2_hpack.specs.declared.fault.HpackFault.TheVariants.{TooLong}
use Rattle.h2_server.specs.declared.live.LiveStream.{LiveStream}
use Rattle.h2_server.specs.Wire.{Block, Wire, largest_window}

-- the settings that a frame gives; an acknowledgement has none
abbrev pub settings_of : FrameSeen → List Setting
settings_of f = if f.kind == settings_type then settings_in f.payload else []

-- SETTINGS without ACK, which is the client's first frame (section 3.4)
abbrev pub is_first : FrameSeen → Bool
is_first f = (f.kind == settings_type) && not (has_flag f.flags ack_flag)

-- SETTINGS_ENABLE_PUSH (2) above 1, SETTINGS_MAX_FRAME_SIZE (5) outside 16,384 to 16,777,215 (section 6.5.2)
abbrev pub is_bad_setting : Setting → Bool
is_bad_setting s =
    ((s.identifier == 2) && nat_lt 1 s.value)
    || ((s.identifier == 5) && not (nat_le 16384 s.value && nat_le s.value 16777215))

-- CONTINUATION outside a header block, or in one of another stream; any other frame in one (section 6.10)
abbrev pub is_misplaced : Option Block → FrameSeen → Bool
is_misplaced None f = f.kind == continuation_type
is_misplaced (Some block) f = not ((f.kind == continuation_type) && (f.stream == block.number))

-- the streams that a client opens have odd numbers (section 5.1.1)
abbrev pub is_even : ℕ → Bool
is_even stream = stream % 2 == 0

-- a stream that the client has not opened: an even one, or one above the last (section 5.1). The ones that it left out
-- count as closed
abbrev pub is_idle : ℕ → ℕ → Bool
is_idle last stream = is_even stream || nat_lt last stream

-- frames of a stream that must be open, or have been (section 5.1)
abbrev pub is_of_opened : ℕ → Bool
is_of_opened kind = (kind == data_type) || (kind == rst_stream_type) || (kind == window_update_type)

abbrev pub is_unopened : ℕ → FrameSeen → Bool
is_unopened last f =
    ((f.kind == headers_type) && is_even f.stream)
    || (is_of_opened f.kind && not (f.stream == 0) && is_idle last f.stream)

-- WINDOW_UPDATE that lifts the link's send window above the largest (section 6.9.1)
abbrev pub overflows_link : ℕ → FrameSeen → Bool
overflows_link window f = (f.kind == window_update_type) && (f.stream == 0) && nat_lt largest_window (window + increment f.payload)

-- the send window of a stream, under this initial size (section 6.9.2)
abbrev pub send_window : ℕ → LiveStream → ℤ
send_window initial s = pos initial +ℤ s.credit

-- SETTINGS_INITIAL_WINDOW_SIZE (4) above the largest window, or that lifts the window of a stream above it (section 6.9.2)
abbrev pub overflows_streams : List LiveStream → Setting → Bool
overflows_streams live s =
    (s.identifier == 4)
    && (nat_lt largest_window s.value || list_any (λ x. int_lt (pos largest_window) (send_window s.value x)) live)

-- the error of a frame, before any header block is decoded
abbrev pub link_error : Wire → FrameSeen → Option ℕ
link_error w f =
    if not w.ready && not (is_first f) then Some protocol_error
    else if f.kind == push_promise_type then Some protocol_error
    else if list_any is_bad_setting (settings_of f) then Some protocol_error
    else if is_misplaced w.block f then Some protocol_error
    else if is_unopened w.last f then Some protocol_error
    else if overflows_link w.window f then Some flow_control_error
    else if list_any (overflows_streams w.live) (settings_of f) then Some flow_control_error
    else None

-- a header block has at most so many bytes
abbrev pub block_limit : ℕ
block_limit = 65536

-- the error of a header block that cannot be decoded (RFC 7541), or whose header list is too long
abbrev pub hpack_error : HpackFault → ℕ
hpack_error TooLong = enhance_your_calm
hpack_error _ = compression_error

-- whether a header block is too long
abbrev pub is_long : List ℕ → Bool
is_long block = nat_lt block_limit (length block)
