-- The errors of a stream (RFC 9113, section 5.4.2): each ends its attempt, and the stream is reset with the code.
use Rattle.std.specs.Prelude.{ℕ, ◌==◌, Bool, not, ◌&&◌, ◌||◌, if◌then◌else◌, Option, Some, None, is_none, pos, ◌+ℤ◌, int_lt}
use Rattle.grpc_base.specs.ErrorCodes.{protocol_error, flow_control_error}
use Rattle.h2_link.specs.declared.live.LiveStream.{LiveStream}
use Rattle.h2_link.specs.LinkErrors.{send_window}
use Rattle.h2_link.specs.Status.{is_interim}
use Rattle.h2_link.specs.Wire.{largest_window}

-- a header block of this status, without or with END_STREAM (section 8.1): an interim response with END_STREAM; a second
-- block after the head, or one in its place that has no status, without END_STREAM
abbrev pub headers_error : LiveStream → Option ℕ → Bool → Option ℕ
headers_error s status end =
    if not s.head && is_interim status then (if end then Some protocol_error else None)
    else if not end && (s.head || is_none status) then Some protocol_error
    else None

-- DATA before a head (section 8.1). (DATA beyond the receive window of a stream or of the link cannot come: both windows
-- are 65,535 when a frame comes, since its bytes are given back at once, and a frame has at most 16,384.)
abbrev pub data_error : LiveStream → Option ℕ
data_error s = if s.head then None else Some protocol_error

-- WINDOW_UPDATE of 0, or one that lifts the send window above the largest (section 6.9)
abbrev pub window_error : ℕ → LiveStream → ℕ → Option ℕ
window_error initial s by =
    if by == 0 then Some protocol_error
    else if int_lt (pos largest_window) (send_window initial s +ℤ pos by) then Some flow_control_error
    else None
