-- The frames that a client sends (RFC 9113, section 6).
use Rattle.std.specs.Prelude.{ℕ, Bool, List, [], if◌then◌else◌}
use Rattle.h2_frame.specs.declared.payload.Setting.{Setting}
use Rattle.h2_frame.specs.Frames.{FrameSeen, bytes_32}
use Rattle.h2_frame.specs.Numbers.{data_type, headers_type, rst_stream_type, settings_type, ping_type, window_update_type, end_stream_flag, ack_flag, end_headers_flag}
use Rattle.h2_frame.specs.Payloads.{bytes_64, settings_bytes}

-- bytes of messages, with END_STREAM or without (section 6.1)
abbrev pub data_frame : ℕ → List ℕ → Bool → FrameSeen
data_frame stream content ends = record {
  kind = data_type;
  flags = if ends then end_stream_flag else 0;
  stream = stream;
  payload = content;
}

-- a whole header block that ends no stream (section 6.2)
abbrev pub headers_frame : ℕ → List ℕ → FrameSeen
headers_frame stream block = record { kind = headers_type; flags = end_headers_flag; stream = stream; payload = block }

-- the end of a stream by an error (section 6.4)
abbrev pub rst_stream_frame : ℕ → ℕ → FrameSeen
rst_stream_frame stream code = record { kind = rst_stream_type; flags = 0; stream = stream; payload = bytes_32 code }

-- settings, and the acknowledgement of the peer's (section 6.5)
abbrev pub settings_frame : List Setting → FrameSeen
settings_frame settings = record { kind = settings_type; flags = 0; stream = 0; payload = settings_bytes settings }

abbrev pub settings_ack : FrameSeen
settings_ack = record { kind = settings_type; flags = ack_flag; stream = 0; payload = [] }

-- a question whether the peer is there, and the answer to the peer's (section 6.7)
abbrev pub ping_frame : ℕ → FrameSeen
ping_frame word = record { kind = ping_type; flags = 0; stream = 0; payload = bytes_64 word }

abbrev pub ping_ack : ℕ → FrameSeen
ping_ack word = record { kind = ping_type; flags = ack_flag; stream = 0; payload = bytes_64 word }

-- leave to send so many bytes more, on a stream or on the whole connection, stream 0 (section 6.9)
abbrev pub window_update_frame : ℕ → ℕ → FrameSeen
window_update_frame stream by = record { kind = window_update_type; flags = 0; stream = stream; payload = bytes_32 by }
