-- The frames that only a server sends, and those that no window holds back (RFC 9113, section 6).
use Rattle.std.specs.Prelude.{ℕ, Bool, List, [], ◌++◌, if◌then◌else◌}
use Rattle.h2_frame.specs.Frames.{FrameSeen, bytes_32}
use Rattle.h2_frame.specs.Numbers.{headers_type, goaway_type}
use Rattle.h2_frame.specs.Sent.{ping_ack, rst_stream_frame, settings_ack, settings_frame, window_update_frame}
use Rattle.h2_server.specs.declared.control.Control.{Control}
use Rattle.h2_server.specs.declared.control.Control.TheVariants.{Settings, SettingsAck, PingAck, LinkUpdate, StreamUpdate, Reset}

-- a whole header block, END_HEADERS (4), with END_STREAM (1) or without (section 6.2)
abbrev pub response_headers : ℕ → List ℕ → Bool → FrameSeen
response_headers stream block ends = record {
  kind = headers_type;
  flags = if ends then 5 else 4;
  stream = stream;
  payload = block;
}

-- the end of the connection's new streams: the last one that was acted on, and a code (section 6.8)
abbrev pub goaway_frame : ℕ → ℕ → FrameSeen
goaway_frame last code = record { kind = goaway_type; flags = 0; stream = 0; payload = bytes_32 last ++ bytes_32 code }

-- the frame of what is queued; a server's SETTINGS have no setting
abbrev pub control_frame : Control → FrameSeen
control_frame Settings = settings_frame []
control_frame (SettingsAck resizes) = settings_ack
control_frame (PingAck word) = ping_ack word
control_frame (LinkUpdate by) = window_update_frame 0 by
control_frame (StreamUpdate stream by) = window_update_frame stream by
control_frame (Reset stream code) = rst_stream_frame stream code
