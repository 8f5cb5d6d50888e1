-- A response without a head has no messages, so one of which nothing came has no items.
use Rattle.attempt_ledger.specs.declared.row.RowCause.TheVariants as cause
use Rattle.event_cases.specs.WrittenResponses.Laws.{UnreceivedAreSilent}
use Rattle.grpc_base.specs.ErrorCodes.{cancel, flow_control_error, protocol_error}
use Rattle.grpc_base.specs.declared.code.Code.TheVariants as code
use Rattle.grpc_base.specs.declared.event.Reply.TheVariants as reply
use Rattle.grpc_frame.specs.Messages.{messages_of}
use Rattle.grpc_frame.specs.declared.next.MessageFault.TheVariants as messagefault
use Rattle.grpc_frame.specs.declared.next.MessageFault.{MessageFault}
use Rattle.grpc_meta.specs.ResponseFields.{shown_of}
use Rattle.h2_frame.specs.Frames.{FrameSeen, has_flag}
use Rattle.h2_frame.specs.Numbers.{data_type, end_stream_flag, goaway_type, rst_stream_type, window_update_type}
use Rattle.h2_frame.specs.Payloads.{content_of, increment, last_stream, reset_code}
use Rattle.link_actions.specs.StreamActions.Sees.{IsUnreceived}
use Rattle.session_actions.specs.Deliveries.{response_items}
use Rattle.session_actions.specs.Links.{is_settings}
use Rattle.session_actions.specs.Reading.{largest_window, opened_streams}
use Rattle.session_actions.specs.Responses.{block_end, ended, ended_by_block, http_code, http_status, initial_after, is_head, is_interim, no_response, plain_end, response_after, response_in, with_block, with_data, with_fault, with_head, with_messages, with_own_frame, with_read, with_reset, with_stream_frame, with_traffic, with_trailers, with_update}
use Rattle.session_actions.specs.declared.link.Block.{Block}
use Rattle.session_actions.specs.declared.link.ReadFrame.{ReadFrame}
use Rattle.session_actions.specs.declared.link.Sent.TheVariants as sent
use Rattle.session_actions.specs.declared.link.Traffic.TheVariants as traffic
use Rattle.session_actions.specs.declared.link.Traffic.{Traffic}
use Rattle.session_actions.specs.declared.response.Response.{Response}
use Rattle.std.proofs.Common.{Bool, List, None, Option, Some, [], ap, arith, false, fold, if◌then◌else◌, is_none, is_some, length, map, option_map, refl, sym, true, ℕ, ◌&&◌, ◌*◌, ◌+◌, ◌++◌, ◌<◌, ◌==◌, ◌||◌, ◌∙◌, ◌∷◌, ◌≡◌, ◌≤◌}
use Rattle.std.specs.Prelude.{option_to_list}
use Rattle.std.specs.Prelude.{nat_lt}

-- without a head there are no messages
abbrev IsHeadless : Response → Type 0
IsHeadless p = p.head ≡ None → p.messages ≡ []

headless_if : (b : Bool) (p q : Response) → IsHeadless p → IsHeadless q → IsHeadless (if b then p else q)
headless_if true p q e f = e
headless_if false p q e f = f

headed : (p q : Response) → q.head ≡ p.head → (p.head ≡ None → ⊥) → IsHeadless q
headed p q same has none = absurd (has (sym same ∙ none))

there : (p : Response) (b : Bool) → is_none p.head ≡ b → b ≡ false → p.head ≡ None → ⊥
there p b is off none = absurd (let bad : true ≡ false = sym (ap is_none none) ∙ (is ∙ off) in (cc))

head_by : (p : Response) (b : Block) (c : Bool) → IsHeadless p
    → IsHeadless (if c then record p { head = Some (shown_of b.fields) } else ended (block_end (http_code b.fields) cause.Http cancel b) p)
head_by p b true h none = absurd (cc)
head_by p b false h none = h none

head_headless : (p : Response) (b : Block) → IsHeadless p → IsHeadless (with_head p b)
head_headless p b h = head_by p b (is_head b.fields) h

block_headless : (p : Response) (b : Block) → IsHeadless p → IsHeadless (with_block p b)
block_headless p b h =
    headless_if (is_none p.head && is_interim (http_status b.fields)) (if b.ends then ended_by_block b p else p)
    (if b.ends then with_trailers p b else if is_some p.head || is_none (http_status b.fields) then ended_by_block b p else with_head p b)
    (headless_if b.ends (ended_by_block b p) p h h)
    (headless_if b.ends (with_trailers p b) (if is_some p.head || is_none (http_status b.fields) then ended_by_block b p else with_head p b) h
    (headless_if (is_some p.head || is_none (http_status b.fields)) (ended_by_block b p) (with_head p b) h (head_headless p b h)))

closed_head : (p q : Response) (c : Bool) → q.head ≡ p.head → (if c then q else p).head ≡ p.head
closed_head p q true e = e
closed_head p q false e = refl

fault_head : (f : Option MessageFault) (p : Response) → (with_fault f p).head ≡ p.head
fault_head (Some (messagefault.TooLarge len)) p = refl
fault_head (Some messagefault.BadFlag) p = refl
fault_head None p = closed_head p (ended (plain_end code.Unknown cause.Http false (Some cancel)) p) p.closes refl

data_by : (limit : ℕ) (p : Response) (f : FrameSeen) (c : Bool) → is_none p.head ≡ c → IsHeadless p
    → IsHeadless (if c then ended (plain_end code.Internal cause.Framing false (Some protocol_error)) p
    else (let m = messages_of limit (p.rest ++ content_of f) in with_fault m.fault (with_messages p m (has_flag f.flags end_stream_flag))))
data_by limit p f true is h = h
data_by limit p f false is h =
    headed p (with_fault (messages_of limit (p.rest ++ content_of f)).fault (with_messages p (messages_of limit (p.rest ++ content_of f)) (has_flag f.flags end_stream_flag)))
    (fault_head (messages_of limit (p.rest ++ content_of f)).fault (with_messages p (messages_of limit (p.rest ++ content_of f)) (has_flag f.flags end_stream_flag)))
    (there p false is refl)

update_headless : (p : Response) (by : ℕ) → IsHeadless p → IsHeadless (with_update p by)
update_headless p by h =
    headless_if (by == 0) (ended (plain_end code.Internal cause.Framing false (Some protocol_error)) p)
    (if nat_lt (largest_window + p.used) (p.initial + p.raised + by) then ended (plain_end code.Internal cause.Framing false (Some flow_control_error)) p
    else record p { raised = p.raised + by }) h
    (headless_if (nat_lt (largest_window + p.used) (p.initial + p.raised + by)) (ended (plain_end code.Internal cause.Framing false (Some flow_control_error)) p)
    (record p { raised = p.raised + by }) h h)

own_headless : (limit : ℕ) (p : Response) (f : FrameSeen) → IsHeadless p → IsHeadless (with_own_frame limit p f)
own_headless limit p f h =
    headless_if (f.kind == data_type) (with_data limit p f)
    (if f.kind == rst_stream_type then with_reset p (reset_code f.payload) else if f.kind == window_update_type then with_update p (increment f.payload) else p)
    (data_by limit p f (is_none p.head) refl h)
    (headless_if (f.kind == rst_stream_type) (with_reset p (reset_code f.payload)) (if f.kind == window_update_type then with_update p (increment f.payload) else p) h
    (headless_if (f.kind == window_update_type) (with_update p (increment f.payload)) p (update_headless p (increment f.payload) h) h))

stream_headless : (limit : ℕ) (p : Response) (f : FrameSeen) (o : Option Block) → IsHeadless p → IsHeadless (with_stream_frame limit p f o)
stream_headless limit p f None h = own_headless limit p f h
stream_headless limit p f (Some b) h = block_headless p b h

read_headless : (limit stream : ℕ) (p : Response) (r : ReadFrame) → IsHeadless p → IsHeadless (with_read limit stream p r)
read_headless limit stream p r h =
    headless_if (is_settings r.frame) (record p { initial = initial_after p.initial r.frame })
    (if (r.frame.kind == goaway_type) && nat_lt (last_stream r.frame.payload) stream then ended (plain_end code.Unavailable cause.Goaway true (Some cancel)) p
    else if r.frame.stream == stream then with_stream_frame limit p r.frame r.block else p) h
    (headless_if ((r.frame.kind == goaway_type) && nat_lt (last_stream r.frame.payload) stream) (ended (plain_end code.Unavailable cause.Goaway true (Some cancel)) p)
    (if r.frame.stream == stream then with_stream_frame limit p r.frame r.block else p) h
    (headless_if (r.frame.stream == stream) (with_stream_frame limit p r.frame r.block) p (stream_headless limit p r.frame r.block h) h))

traffic_headless : (limit stream : ℕ) (p : Response) (t : Traffic) → IsHeadless p → IsHeadless (with_traffic limit stream p t)
traffic_headless limit stream p (traffic.Read r) h = read_headless limit stream p r h
traffic_headless limit stream p (traffic.Written (sent.Frame f)) h =
    headless_if ((f.kind == data_type) && (f.stream == stream)) (record p { used = p.used + length f.payload }) p h h
traffic_headless limit stream p (traffic.Written sent.Preface) h = h

after_headless : (limit stream : ℕ) (p : Response) (t : Traffic) → IsHeadless p → IsHeadless (response_after limit stream p t)
after_headless limit stream p t h = headless_if (is_some p.end || p.large) p (with_traffic limit stream p t) h (traffic_headless limit stream p t h)

all_headless : (limit stream : ℕ) (ts : List Traffic) (p : Response) → IsHeadless p → IsHeadless (fold (response_after limit stream) p ts)
all_headless limit stream [] p h = h
all_headless limit stream (t ∷ ts) p h = all_headless limit stream ts (response_after limit stream p t) (after_headless limit stream p t h)

none_first : IsHeadless no_response
none_first none = refl

no_items : (p : Response) → p.head ≡ None → p.messages ≡ [] → response_items p ≡ []
no_items p head messages =
    ap (λ (o : Option _). option_to_list (option_map (λ meta. reply.Head meta) o) ++ map (λ m. reply.Message m) p.messages) head
    ∙ ap (λ (ms : List _). map (λ m. reply.Message m) ms) messages

beyond : (n k : ℕ) → 2 * n + 1 ≤ k → 2 * n < k
beyond n k e = omega (arith, e)

pub unreceived_are_silent : UnreceivedAreSilent
unreceived_are_silent l unreceived limit k far open_ =
    let p : Response = response_in limit k l.traffic in
    let none : IsUnreceived p = unreceived limit k (beyond (length (opened_streams l)) k far) open_ in
    no_items p none.head (all_headless limit k l.traffic no_response none_first none.head)
