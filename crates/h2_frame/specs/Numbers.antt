-- The numbers that RFC 9113 gives frame types and flags (section 6); those of its error codes stand in `grpc_base`.
use Rattle.std.specs.Prelude.{ℕ}

-- frame types
abbrev pub data_type : ℕ
data_type = 0

abbrev pub headers_type : ℕ
headers_type = 1

abbrev pub priority_type : ℕ
priority_type = 2

abbrev pub rst_stream_type : ℕ
rst_stream_type = 3

abbrev pub settings_type : ℕ
settings_type = 4

abbrev pub push_promise_type : ℕ
push_promise_type = 5

abbrev pub ping_type : ℕ
ping_type = 6

abbrev pub goaway_type : ℕ
goaway_type = 7

abbrev pub window_update_type : ℕ
window_update_type = 8

abbrev pub continuation_type : ℕ
continuation_type = 9

-- flags: END_STREAM, ACK, END_HEADERS, PADDED, PRIORITY
abbrev pub end_stream_flag : ℕ
end_stream_flag = 1

abbrev pub ack_flag : ℕ
ack_flag = 1

abbrev pub end_headers_flag : ℕ
end_headers_flag = 4

abbrev pub padded_flag : ℕ
padded_flag = 8

abbrev pub priority_flag : ℕ
priority_flag = 32
