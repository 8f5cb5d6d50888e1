-- The errors of a stream (RFC 9113, section 5.4.2): each ends its request, and the stream is reset with the code.
use Rattle.std.specs.Prelude.{ℕ, ◌==◌, Bool, if◌then◌else◌, Option, Some, None, pos, ◌+ℤ◌, int_lt}
use Rattle.grpc_base.specs.ErrorCodes.{protocol_error, flow_control_error}
use Rattle.h2_server.specs.declared.live.LiveStream.{LiveStream}
use Rattle.h2_server.specs.LinkErrors.{send_window}
use Rattle.h2_server.specs.Wire.{largest_window}

-- a second header block without END_STREAM (section 8.1). (DATA beyond the receive window of a stream or of the link
-- cannot come: both windows are 65,535 when a frame comes, since its bytes are given back at once, and a frame has at most
-- 16,384.)
abbrev pub trailers_error : Bool → Option ℕ
trailers_error end = if end then None else Some protocol_error

-- WINDOW_UPDATE of 0, or one that lifts the send window above the largest (section 6.9)
abbrev pub window_error : ℕ → LiveStream → ℕ → Option ℕ
window_error initial s by =
    if by == 0 then Some protocol_error
    else if int_lt (pos largest_window) (send_window initial s +ℤ pos by) then Some flow_control_error
    else None
