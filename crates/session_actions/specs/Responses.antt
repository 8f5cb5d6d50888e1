-- The response on a stream: a head or none, messages, and an end or none (gRPC over HTTP/2, "Responses" and "Errors"; "Status codes and their use in
-- gRPC"; "HTTP to gRPC Status Code Mapping"; RFC 9113, sections 5.1, 5.4.2, 6.1, 6.4, 6.8, 6.9, 8.1, 8.3.2 and 8.7;
-- RFC 9110, section 15; gRPC over HTTP/2, "Length-Prefixed-Message"; gRFC A6, "Pushback").
-- Example: HEADERS with `:status` 200 and `content-type` application/grpc are a head; DATA 00 00000002 6869 is the message `hi`; trailers with
-- `grpc-status` 0 are the end, OK. Where the DATA was 00 00000002 68, a message is cut off, and the same trailers are the end INTERNAL.
use Rattle.std.specs.Char.{is_ascii_digit}
use Rattle.std.specs.List.{list_all, starts_with}
use Rattle.std.specs.Option.{option_map_or}
use Rattle.std.specs.Prelude.{Bool, List, None, Option, Some, [], codes, false, fold, if◌then◌else◌, is_none, is_some, length, nat_eq, nat_le, nat_lt, slice_get, true, ℕ, ◌&&◌, ◌++◌, ◌+◌, ◌==◌, ◌||◌, ◌∷◌}
use Rattle.attempt_ledger.specs.Throttling.{is_success}
use Rattle.attempt_ledger.specs.declared.row.RowCause.{RowCause}
use Rattle.grpc_base.specs.ErrorCodes.{cancel, flow_control_error, protocol_error, refused_stream}
use Rattle.grpc_base.specs.Limits.{message_limit}
use Rattle.grpc_base.specs.Numbers.{number_of}
use Rattle.grpc_base.specs.declared.code.Code.{Code}
use Rattle.grpc_base.specs.declared.fields.Field.{Field}
use Rattle.grpc_frame.specs.Messages.{Messages, messages_of}
use Rattle.grpc_frame.specs.declared.next.MessageFault.{MessageFault}
use Rattle.grpc_meta.specs.ResponseFields.{pushback_of, shown_of, values_of}
use Rattle.grpc_status.specs.StatusMaps.{code_of_text, http_codes, looked_up, reset_codes, text_of_message}
use Rattle.h2_frame.specs.Frames.{FrameSeen, has_flag}
use Rattle.h2_frame.specs.Numbers.{data_type, end_stream_flag, goaway_type, rst_stream_type, window_update_type}
use Rattle.h2_frame.specs.Payloads.{content_of, increment, last_stream, reset_code}
use Rattle.session_actions.specs.Attempts.{call_of}
use Rattle.session_actions.specs.Configs.{chosen_of}
use Rattle.session_actions.specs.Links.{is_settings, link_of, settings_of}
use Rattle.session_actions.specs.Reading.{is_setting, largest_window}
use Rattle.session_actions.specs.Words.{find_last, holds, is_number}
use Rattle.session_actions.specs.declared.attempt.Attempt.{Attempt}
use Rattle.session_actions.specs.declared.link.Block.{Block}
use Rattle.session_actions.specs.declared.link.Link.{Link}
use Rattle.session_actions.specs.declared.link.ReadFrame.{ReadFrame}
use Rattle.session_actions.specs.declared.link.Traffic.{Traffic}
use Rattle.session_actions.specs.declared.response.Response.{Response}
use Rattle.session_actions.specs.declared.response.Outcome.{Outcome}
use Rattle.session_actions.specs.declared.seen.Seen.{Seen}
use Rattle.attempt_ledger.specs.declared.row.RowCause.TheVariants as cause
use Rattle.grpc_base.specs.declared.code.Code.TheVariants as code
use Rattle.grpc_frame.specs.declared.next.MessageFault.TheVariants as messagefault
use Rattle.grpc_base.specs.declared.plan.Pushback.TheVariants as pushback
use Rattle.session_actions.specs.declared.link.Sent.TheVariants as sent
use Rattle.session_actions.specs.declared.link.Traffic.TheVariants as traffic

abbrev pub no_response : Response
no_response = record {
  head = None;
  messages = [];
  rest = [];
  large = false;
  end = None;
  closes = false;
  initial = 65535;
  raised = 0;
  used = 0;
}

-- the HTTP status of a header list: that of its one `:status`, if that has three digits (RFC 9110, section 15)
abbrev pub three_digits : List (List ℕ) → Option ℕ
three_digits (value ∷ []) = if (length value == 3) && list_all is_ascii_digit value then Some (number_of value) else None
three_digits _ = None

abbrev pub http_status : List Field → Option ℕ
http_status fields = three_digits (values_of (codes ":status") fields)

-- an interim response (RFC 9110, section 15.2)
abbrev pub is_interim : Option ℕ → Bool
is_interim status = holds (λ n. nat_le 100 n && nat_lt n 200) status

-- a content type of gRPC: `application/grpc`, alone or followed by `+` or `;`
abbrev pub is_grpc : List ℕ → Bool
is_grpc value =
    starts_with nat_eq value (codes "application/grpc") && option_map_or (λ b. (b == 43) || (b == 59)) (slice_get value 16) true

-- whether a header list is the head of a response
abbrev pub is_head : List Field → Bool
is_head fields = is_number 200 (http_status fields) && holds is_grpc (slice_get (values_of (codes "content-type") fields) 0)

-- the code of an HTTP status ("HTTP to gRPC Status Code Mapping"); UNKNOWN where there is none
abbrev pub http_code : List Field → Code
http_code fields = option_map_or (λ status. looked_up http_codes status) (http_status fields) code.Unknown

-- an end that no header block makes
abbrev pub plain_end : Code → RowCause → Bool → Option ℕ → Outcome
plain_end c why unseen reset = record {
  code = c;
  text = [];
  meta = [];
  pushback = pushback.None;
  unseen = unseen;
  cause = why;
  reset = reset;
}

-- an end by a header block: with its first `grpc-message`, its metadata, and, where it ends the stream, what it asks of the next attempt. That is
-- so also where the block breaks a rule, or is no gRPC response: the channel's own choice
abbrev pub block_end : Code → RowCause → ℕ → Block → Outcome
block_end c why reset b = record {
  code = c;
  text = option_map_or text_of_message (slice_get (values_of (codes "grpc-message") b.fields) 0) [];
  meta = shown_of b.fields;
  pushback = if b.ends then pushback_of (values_of (codes "grpc-retry-pushback-ms") b.fields) else pushback.None;
  unseen = false;
  cause = why;
  reset = Some reset;
}

abbrev pub ended : Outcome → Response → Response
ended outcome p = record p { end = Some outcome }

-- a header block that breaks a rule of its stream
abbrev pub ended_by_block : Block → Response → Response
ended_by_block b p = ended (block_end code.Internal cause.Framing protocol_error b) p

-- trailers, or a response of trailers alone: by the one `grpc-status`, and by the HTTP status where there is none. Several
-- `grpc-status` are UNKNOWN. A message that OK cuts off breaks a rule
abbrev pub status_end : List (List ℕ) → Block → Outcome
status_end [] b = block_end (http_code b.fields) cause.Http cancel b
status_end (value ∷ []) b = block_end (code_of_text value) cause.Status cancel b
status_end (value ∷ other ∷ more) b = block_end code.Unknown cause.Status cancel b

abbrev pub trailers_end : Response → Block → Outcome → Outcome
trailers_end p b outcome =
    if is_success outcome.code && nat_lt 0 (length p.rest) then block_end code.Internal cause.Framing cancel b else outcome

abbrev pub with_trailers : Response → Block → Response
with_trailers p b =
    record p { closes = true; end = Some (trailers_end p b (status_end (values_of (codes "grpc-status") b.fields) b)) }

-- a header block in the place of the head that does not end the stream
abbrev pub with_head : Response → Block → Response
with_head p b =
    if is_head b.fields then record p { head = Some (shown_of b.fields) }
    else ended (block_end (http_code b.fields) cause.Http cancel b) p

-- a header block. Before the head interim responses are passed over; after it only trailers may come (RFC 9113, section 8.1)
abbrev pub with_block : Response → Block → Response
with_block p b =
    if is_none p.head && is_interim (http_status b.fields) then (if b.ends then ended_by_block b p else p)
    else if b.ends then with_trailers p b
    else if is_some p.head || is_none (http_status b.fields) then ended_by_block b p
    else with_head p b

-- DATA. Before a head, or with a message whose flag is not 0, it breaks a rule of the stream. With END_STREAM it ends the response without a
-- grpc-status, which is UNKNOWN, as HTTP 200 says
abbrev pub with_messages : Response → Messages → Bool → Response
with_messages p m closes = record p { messages = p.messages ++ m.whole; rest = m.rest; closes = closes }

abbrev pub with_fault : Option MessageFault → Response → Response
with_fault (Some (messagefault.TooLarge len)) p = record p { large = true }
with_fault (Some messagefault.BadFlag) p = ended (plain_end code.Internal cause.Framing false (Some cancel)) p
with_fault None p = if p.closes then ended (plain_end code.Unknown cause.Http false (Some cancel)) p else p

-- (DATA beyond the receive window of the stream is never found: it counts as given back when a frame is read, and a frame has at most 16,384 bytes)
abbrev pub with_data : ℕ → Response → FrameSeen → Response
with_data limit p f =
    if is_none p.head then ended (plain_end code.Internal cause.Framing false (Some protocol_error)) p
    else (let m = messages_of limit (p.rest ++ content_of f) in with_fault m.fault (with_messages p m (has_flag f.flags end_stream_flag)))

-- WINDOW_UPDATE: of something, and not above the largest window (RFC 9113, section 6.9.1)
abbrev pub with_update : Response → ℕ → Response
with_update p by =
    if by == 0 then ended (plain_end code.Internal cause.Framing false (Some protocol_error)) p
    else if nat_lt (largest_window + p.used) (p.initial + p.raised + by)
    then ended (plain_end code.Internal cause.Framing false (Some flow_control_error)) p
    else record p { raised = p.raised + by }

-- RST_STREAM: a stream that is refused before its head was not acted on (RFC 9113, section 8.7)
abbrev pub with_reset : Response → ℕ → Response
with_reset p number =
    ended (plain_end (looked_up reset_codes number) cause.Reset ((number == refused_stream) && is_none p.head) None) p

abbrev pub with_own_frame : ℕ → Response → FrameSeen → Response
with_own_frame limit p f =
    if f.kind == data_type then with_data limit p f
    else if f.kind == rst_stream_type then with_reset p (reset_code f.payload)
    else if f.kind == window_update_type then with_update p (increment f.payload)
    else p

-- a frame of the stream, which may complete a header block
abbrev pub with_stream_frame : ℕ → Response → FrameSeen → Option Block → Response
with_stream_frame limit p f (Some b) = with_block p b
with_stream_frame limit p f None = with_own_frame limit p f

-- a frame of the link: SETTINGS may shift the window of the stream, and a GOAWAY may leave the stream out
abbrev pub initial_after : ℕ → FrameSeen → ℕ
initial_after size f = option_map_or (λ x. x.value) (find_last (is_setting 4) (settings_of f)) size

abbrev pub with_read : ℕ → ℕ → Response → ReadFrame → Response
with_read limit stream p r =
    if is_settings r.frame then record p { initial = initial_after p.initial r.frame }
    else if (r.frame.kind == goaway_type) && nat_lt (last_stream r.frame.payload) stream
    then ended (plain_end code.Unavailable cause.Goaway true (Some cancel)) p
    else if r.frame.stream == stream then with_stream_frame limit p r.frame r.block
    else p

abbrev pub with_written : ℕ → Response → FrameSeen → Response
with_written stream p f =
    if (f.kind == data_type) && (f.stream == stream) then record p { used = p.used + length f.payload } else p

abbrev pub with_traffic : ℕ → ℕ → Response → Traffic → Response
with_traffic limit stream p (traffic.Read r) = with_read limit stream p r
with_traffic limit stream p (traffic.Written (sent.Frame f)) = with_written stream p f
with_traffic limit stream p (traffic.Written sent.Preface) = p

-- nothing counts after its end, nor after a message that is too large. (RFC 9113, section 5.1, lets an endpoint answer frames on a closed stream with
-- STREAM_CLOSED; here they are passed over.)
abbrev pub response_after : ℕ → ℕ → Response → Traffic → Response
response_after limit stream p t = if is_some p.end || p.large then p else with_traffic limit stream p t

abbrev pub response_in : ℕ → ℕ → List Traffic → Response
response_in limit stream ts = fold (response_after limit stream) no_response ts

-- what passed on a link until a number of its bytes were read
abbrev pub is_read_by : ℕ → Traffic → Bool
is_read_by seen (traffic.Read r) = nat_le r.end seen
is_read_by seen _ = true

abbrev pub traffic_by : ℕ → List Traffic → List Traffic
traffic_by seen [] = []
traffic_by seen (t ∷ ts) = if is_read_by seen t then t ∷ traffic_by seen ts else []

-- the response to an attempt: by all that passed, or, where it ended, by what its end saw
abbrev pub limit_of_attempt : Attempt → Seen → ℕ
limit_of_attempt a s = option_map_or (λ c. (chosen_of c s).response) (call_of a s) message_limit

abbrev pub traffic_of : Attempt → List Traffic → List Traffic
traffic_of a ts = option_map_or (λ e. traffic_by e.seen ts) a.row.ended ts

abbrev pub response_on : Attempt → ℕ → Seen → Link → Response
response_on a stream s l = response_in (limit_of_attempt a s) stream (traffic_of a l.traffic)

abbrev pub response_by : Attempt → Seen → Option ℕ → Response
response_by a s None = no_response
response_by a s (Some stream) = option_map_or (response_on a stream s) (link_of a s) no_response

abbrev pub response : Attempt → Seen → Response
response a s = response_by a s a.row.stream
