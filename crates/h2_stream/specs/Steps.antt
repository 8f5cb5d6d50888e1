-- What each call does to a stream: the stream after it, or the first row of the table of errors that it meets.
use Rattle.std.specs.Prelude.{ℕ, nat_eq, ℤ, pos, ◌+ℤ◌, ◌-ℤ◌, int_lt, Bool, true, not, ◌&&◌, if◌then◌else◌, Result, Ok, Err}
use Rattle.grpc_base.specs.ErrorCodes.{protocol_error, flow_control_error}
use Rattle.h2_stream.specs.declared.state.StreamState.{StreamState}
use Rattle.h2_stream.specs.declared.state.StreamState.TheVariants.{Closed}
use Rattle.h2_stream.specs.declared.fault.StreamFault.{StreamFault}
use Rattle.h2_stream.specs.declared.fault.StreamFault.TheVariants as fault
use Rattle.h2_stream.specs.State.{after_local_end, after_remote_end, is_closed, is_closed_remotely}
use Rattle.h2_stream.specs.Stream.{StreamView, largest_window}

-- the state after a frame that has END_STREAM or not, of the peer's and of this side's
abbrev pub after_received : Bool → StreamState → StreamState
after_received end state = if end then after_remote_end state else state

abbrev pub after_sent : Bool → StreamState → StreamState
after_sent end state = if end then after_local_end state else state

-- a header block: the head, or after it the trailers, which have END_STREAM (RFC 9113, section 8.1)
abbrev pub headers_step : StreamView → Bool → Result StreamView StreamFault
headers_step s end =
    -- too late: passed over
    if is_closed_remotely s.state then Ok s
    -- a second block without END_STREAM
    else if s.head && not end then Err (fault.Stream protocol_error)
    else Ok (record s { head = true; state = after_received end s.state })

-- DATA that counts len octets (sections 6.1 and 6.9.1)
abbrev pub data_step : StreamView → ℕ → Bool → Result StreamView StreamFault
data_step s len end =
    -- too late: passed over
    if is_closed_remotely s.state then Ok s
    -- DATA before a head
    else if not s.head then Err (fault.Stream protocol_error)
    -- DATA beyond the receive window
    else if int_lt s.receive (pos len) then Err (fault.Stream flow_control_error)
    else Ok (record s { receive = s.receive -ℤ pos len; state = after_received end s.state })

-- WINDOW_UPDATE (section 6.9)
abbrev pub window_step : StreamView → ℕ → Result StreamView StreamFault
window_step s by =
    -- too late: passed over
    if is_closed s.state then Ok s
    -- an increment of 0
    else if nat_eq by 0 then Err (fault.Stream protocol_error)
    -- a send window above the largest
    else if int_lt largest_window (s.send +ℤ pos by) then Err (fault.Stream flow_control_error)
    else Ok (record s { send = s.send +ℤ pos by })

-- SETTINGS_INITIAL_WINDOW_SIZE that is by more than it was, or less (section 6.9.2)
abbrev pub shift_step : StreamView → ℤ → Result StreamView StreamFault
shift_step s by =
    -- too late: passed over
    if is_closed s.state then Ok s
    -- a send window above the largest
    else if int_lt largest_window (s.send +ℤ by) then Err (fault.Link flow_control_error)
    else Ok (record s { send = s.send +ℤ by })

-- DATA of len octets that this side sends (section 6.9.1)
abbrev pub sent_step : StreamView → ℕ → Bool → StreamView
sent_step s len end = record s { send = s.send -ℤ pos len; state = after_sent end s.state }

-- a WINDOW_UPDATE that this side queues
abbrev pub granted_step : StreamView → ℕ → StreamView
granted_step s by = record s { receive = s.receive +ℤ pos by }

-- RST_STREAM of the peer's or of this side's: the arrows of the diagram for "send R" and "recv R" (sections 5.1 and 6.4)
abbrev pub reset_step : StreamView → StreamView
reset_step s = record s { state = Closed }
