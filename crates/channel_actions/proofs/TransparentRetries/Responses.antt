-- The end of a response is never that the attempt did not leave the client.
use Rattle.attempt_ledger.specs.Throttling.{is_success}
use Rattle.attempt_ledger.specs.TransparentRows.{is_unsent}
use Rattle.attempt_ledger.specs.declared.row.RowCause.TheVariants as cause
use Rattle.grpc_base.specs.ErrorCodes.{cancel, flow_control_error, protocol_error}
use Rattle.grpc_base.specs.declared.code.Code.TheVariants as code
use Rattle.grpc_frame.specs.Messages.{Messages, messages_of}
use Rattle.grpc_frame.specs.declared.next.MessageFault.TheVariants as messagefault
use Rattle.grpc_frame.specs.declared.next.MessageFault.{MessageFault}
use Rattle.grpc_meta.specs.ResponseFields.{shown_of, values_of}
use Rattle.h2_frame.specs.Frames.{FrameSeen, has_flag}
use Rattle.h2_frame.specs.Numbers.{data_type, end_stream_flag, goaway_type, rst_stream_type, window_update_type}
use Rattle.h2_frame.specs.Payloads.{content_of, increment, last_stream, reset_code}
use Rattle.session_actions.specs.Links.{is_settings, link_of}
use Rattle.session_actions.specs.Reading.{largest_window}
use Rattle.session_actions.specs.Responses.{block_end, ended, ended_by_block, http_code, http_status, initial_after, is_head, is_interim, limit_of_attempt, no_response, plain_end, response, response_after, response_by, response_on, status_end, traffic_of, trailers_end, with_block, with_data, with_fault, with_head, with_messages, with_own_frame, with_read, with_reset, with_stream_frame, with_traffic, with_trailers, with_update, with_written}
use Rattle.session_actions.specs.Words.{holds}
use Rattle.session_actions.specs.declared.attempt.Attempt.{Attempt}
use Rattle.session_actions.specs.declared.link.Block.{Block}
use Rattle.session_actions.specs.declared.link.Link.{Link}
use Rattle.session_actions.specs.declared.link.ReadFrame.{ReadFrame}
use Rattle.session_actions.specs.declared.link.Sent.TheVariants as sent
use Rattle.session_actions.specs.declared.link.Traffic.TheVariants as traffic
use Rattle.session_actions.specs.declared.link.Traffic.{Traffic}
use Rattle.session_actions.specs.declared.response.Outcome.{Outcome}
use Rattle.session_actions.specs.declared.response.Response.{Response}
use Rattle.session_actions.specs.declared.seen.Seen.{Seen}
use Rattle.std.specs.Option.{option_map_or}
use Rattle.std.specs.Prelude.{Bool, List, None, Option, Some, [], codes, false, fold, if◌then◌else◌, is_none, is_some, length, nat_lt, refl, true, ℕ, ◌&&◌, ◌++◌, ◌+◌, ◌==◌, ◌||◌, ◌∷◌, ◌≡◌}

abbrev is_unsent_end : Outcome → Bool
is_unsent_end t = is_unsent t.cause

abbrev IsSent : Response → Type 0
IsSent p = holds is_unsent_end p.end ≡ false

if_sent : (b : Bool) (p q : Response) → IsSent p → IsSent q → IsSent (if b then p else q)
if_sent true p q f g = f
if_sent false p q f g = g

-- header blocks
status_sent : (values : List (List ℕ)) (b : Block) → is_unsent_end (status_end values b) ≡ false
status_sent [] b = refl
status_sent (value ∷ []) b = refl
status_sent (value ∷ other ∷ more) b = refl

one_sent : (b : Bool) (t u : Outcome) → is_unsent_end t ≡ false → is_unsent_end u ≡ false → is_unsent_end (if b then t else u) ≡ false
one_sent true t u f g = f
one_sent false t u f g = g

trailers_sent : (p : Response) (b : Block) (t : Outcome) → is_unsent_end t ≡ false → is_unsent_end (trailers_end p b t) ≡ false
trailers_sent p b t f = one_sent (is_success t.code && nat_lt 0 (length p.rest)) (block_end code.Internal cause.Framing cancel b) t refl f

block_sent : (p : Response) (b : Block) → IsSent p → IsSent (with_block p b)
block_sent p b f =
    if_sent (is_none p.head && is_interim (http_status b.fields)) (if b.ends then ended_by_block b p else p)
    (if b.ends then with_trailers p b else if is_some p.head || is_none (http_status b.fields) then ended_by_block b p else with_head p b)
    (if_sent b.ends (ended_by_block b p) p refl f)
    (if_sent b.ends (with_trailers p b) (if is_some p.head || is_none (http_status b.fields) then ended_by_block b p else with_head p b)
    (trailers_sent p b (status_end (values_of (codes "grpc-status") b.fields) b) (status_sent (values_of (codes "grpc-status") b.fields) b))
    (if_sent (is_some p.head || is_none (http_status b.fields)) (ended_by_block b p) (with_head p b) refl
    (if_sent (is_head b.fields) (record p { head = Some (shown_of b.fields) }) (ended (block_end (http_code b.fields) cause.Http cancel b) p) f refl)))

-- frames of the stream
fault_sent : (o : Option MessageFault) (p : Response) → IsSent p → IsSent (with_fault o p)
fault_sent (Some (messagefault.TooLarge len)) p f = f
fault_sent (Some messagefault.BadFlag) p f = refl
fault_sent None p f = if_sent p.closes (ended (plain_end code.Unknown cause.Http false (Some cancel)) p) p refl f

data_sent : (limit : ℕ) (p : Response) (f : FrameSeen) → IsSent p → IsSent (with_data limit p f)
data_sent limit p f g =
    let m : Messages = messages_of limit (p.rest ++ content_of f) in
    if_sent (is_none p.head) (ended (plain_end code.Internal cause.Framing false (Some protocol_error)) p)
    (with_fault m.fault (with_messages p m (has_flag f.flags end_stream_flag))) refl (fault_sent m.fault (with_messages p m (has_flag f.flags end_stream_flag)) g)

update_sent : (p : Response) (by : ℕ) → IsSent p → IsSent (with_update p by)
update_sent p by f =
    if_sent (by == 0) (ended (plain_end code.Internal cause.Framing false (Some protocol_error)) p)
    (if nat_lt (largest_window + p.used) (p.initial + p.raised + by) then ended (plain_end code.Internal cause.Framing false (Some flow_control_error)) p else record p { raised = p.raised + by }) refl
    (if_sent (nat_lt (largest_window + p.used) (p.initial + p.raised + by)) (ended (plain_end code.Internal cause.Framing false (Some flow_control_error)) p) (record p { raised = p.raised + by }) refl f)

own_sent : (limit : ℕ) (p : Response) (f : FrameSeen) → IsSent p → IsSent (with_own_frame limit p f)
own_sent limit p f g =
    if_sent (f.kind == data_type) (with_data limit p f)
    (if f.kind == rst_stream_type then with_reset p (reset_code f.payload) else if f.kind == window_update_type then with_update p (increment f.payload) else p) (data_sent limit p f g)
    (if_sent (f.kind == rst_stream_type) (with_reset p (reset_code f.payload)) (if f.kind == window_update_type then with_update p (increment f.payload) else p) refl
    (if_sent (f.kind == window_update_type) (with_update p (increment f.payload)) p (update_sent p (increment f.payload) g) g))

stream_sent : (limit : ℕ) (p : Response) (f : FrameSeen) (o : Option Block) → IsSent p → IsSent (with_stream_frame limit p f o)
stream_sent limit p f (Some b) g = block_sent p b g
stream_sent limit p f None g = own_sent limit p f g

-- all that passed
read_sent : (limit stream : ℕ) (p : Response) (r : ReadFrame) → IsSent p → IsSent (with_read limit stream p r)
read_sent limit stream p r f =
    if_sent (is_settings r.frame) (record p { initial = initial_after p.initial r.frame })
    (if (r.frame.kind == goaway_type) && nat_lt (last_stream r.frame.payload) stream then ended (plain_end code.Unavailable cause.Goaway true (Some cancel)) p
    else if r.frame.stream == stream then with_stream_frame limit p r.frame r.block else p) f
    (if_sent ((r.frame.kind == goaway_type) && nat_lt (last_stream r.frame.payload) stream) (ended (plain_end code.Unavailable cause.Goaway true (Some cancel)) p)
    (if r.frame.stream == stream then with_stream_frame limit p r.frame r.block else p) refl
    (if_sent (r.frame.stream == stream) (with_stream_frame limit p r.frame r.block) p (stream_sent limit p r.frame r.block f) f))

written_sent : (stream : ℕ) (p : Response) (f : FrameSeen) → IsSent p → IsSent (with_written stream p f)
written_sent stream p f g = if_sent ((f.kind == data_type) && (f.stream == stream)) (record p { used = p.used + length f.payload }) p g g

traffic_sent : (limit stream : ℕ) (p : Response) (t : Traffic) → IsSent p → IsSent (with_traffic limit stream p t)
traffic_sent limit stream p (traffic.Read r) f = read_sent limit stream p r f
traffic_sent limit stream p (traffic.Written (sent.Frame x)) f = written_sent stream p x f
traffic_sent limit stream p (traffic.Written sent.Preface) f = f

all_sent : (limit stream : ℕ) (ts : List Traffic) (p : Response) → IsSent p → IsSent (fold (response_after limit stream) p ts)
all_sent limit stream [] p f = f
all_sent limit stream (t ∷ ts) p f =
    all_sent limit stream ts (response_after limit stream p t) (if_sent (is_some p.end || p.large) p (with_traffic limit stream p t) f (traffic_sent limit stream p t f))

on_sent : (a : Attempt) (stream : ℕ) (s : Seen) (o : Option Link) → IsSent (option_map_or (response_on a stream s) o no_response)
on_sent a stream s None = refl
on_sent a stream s (Some l) = all_sent (limit_of_attempt a s) stream (traffic_of a l.traffic) no_response refl

by_sent : (a : Attempt) (s : Seen) (o : Option ℕ) → IsSent (response_by a s o)
by_sent a s None = refl
by_sent a s (Some stream) = on_sent a stream s (link_of a s)

pub ends_sent : (a : Attempt) (s : Seen) → holds (λ (t : Outcome). is_unsent t.cause) (response a s).end ≡ false
ends_sent a s = by_sent a s a.row.stream
