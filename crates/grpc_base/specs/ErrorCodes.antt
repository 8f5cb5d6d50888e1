-- The error codes of HTTP/2 (RFC 9113, section 7).
use Rattle.std.specs.Prelude.{ℕ}

-- no error, as in a graceful shutdown
abbrev pub no_error : ℕ
no_error = 0

-- the peer broke the protocol, and no other code is closer
abbrev pub protocol_error : ℕ
protocol_error = 1

-- a fault inside the sender itself
abbrev pub internal_error : ℕ
internal_error = 2

-- the peer sent more than a window allows
abbrev pub flow_control_error : ℕ
flow_control_error = 3

-- a SETTINGS frame was not acknowledged in time
abbrev pub settings_timeout : ℕ
settings_timeout = 4

-- a frame came for a stream that was closed
abbrev pub stream_closed : ℕ
stream_closed = 5

-- a frame of a size that it may not have
abbrev pub frame_size_error : ℕ
frame_size_error = 6

-- the stream was refused before any work on it
abbrev pub refused_stream : ℕ
refused_stream = 7

-- the stream is no longer wanted
abbrev pub cancel : ℕ
cancel = 8

-- the header table can no longer be kept
abbrev pub compression_error : ℕ
compression_error = 9

-- a CONNECT request's connection was lost
abbrev pub connect_error : ℕ
connect_error = 10

-- the peer causes too much load
abbrev pub enhance_your_calm : ℕ
enhance_your_calm = 11

-- the transport is not secure enough
abbrev pub inadequate_security : ℕ
inadequate_security = 12

-- the request has to be sent over HTTP/1.1
abbrev pub http_1_1_required : ℕ
http_1_1_required = 13
