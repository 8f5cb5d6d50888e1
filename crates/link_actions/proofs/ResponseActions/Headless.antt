-- A response without a head has no byte of a message.
use Rattle.std.proofs.Common.{◌≡◌, ◌∷◌, ◌++◌, ◌||◌, ◌&&◌, ◌==◌, refl, Bool, true, false, List, [], Option, None, Some, ℕ, ◌+◌, fold, if◌then◌else◌, is_none, is_some, length, nat_lt}
use Rattle.attempt_ledger.specs.declared.row.RowCause.TheVariants as cause
use Rattle.grpc_base.specs.ErrorCodes.{cancel, flow_control_error, protocol_error}
use Rattle.grpc_base.specs.declared.code.Code.TheVariants as code
use Rattle.grpc_frame.specs.Messages.{Messages, messages_of}
use Rattle.grpc_frame.specs.declared.next.MessageFault.{MessageFault}
use Rattle.grpc_frame.specs.declared.next.MessageFault.TheVariants as flaw
use Rattle.grpc_meta.specs.ResponseFields.{shown_of}
use Rattle.h2_frame.specs.Frames.{FrameSeen, has_flag}
use Rattle.h2_frame.specs.Numbers.{data_type, end_stream_flag, goaway_type, rst_stream_type, window_update_type}
use Rattle.h2_frame.specs.Payloads.{content_of, increment, last_stream, reset_code}
use Rattle.link_actions.proofs.Lists.{on_if}
use Rattle.session_actions.specs.Links.{is_settings}
use Rattle.session_actions.specs.Reading.{largest_window}
use Rattle.session_actions.specs.Responses.{block_end, ended, ended_by_block, http_code, http_status, initial_after, is_head, is_interim, no_response, plain_end, response_after, response_in, with_block, with_data, with_fault, with_head, with_messages, with_own_frame, with_read, with_reset, with_stream_frame, with_trailers, with_traffic, with_update}
use Rattle.session_actions.specs.declared.link.Block.{Block}
use Rattle.session_actions.specs.declared.link.ReadFrame.{ReadFrame}
use Rattle.session_actions.specs.declared.link.Sent.TheVariants as sent
use Rattle.session_actions.specs.declared.link.Traffic.{Traffic}
use Rattle.session_actions.specs.declared.link.Traffic.TheVariants as traffic
use Rattle.session_actions.specs.declared.response.Outcome.{Outcome}
use Rattle.session_actions.specs.declared.response.Response.{Response}

abbrev IsHeadless : Response → Type 0
IsHeadless p = is_some p.head ≡ false → p.rest ≡ []

both_ways : (b : Bool) → b ≡ true → b ≡ false → ⊥
both_ways true e h = (cc)
both_ways false e h = (cc)

some_of : {X : Type 0} (o : Option X) → is_none o ≡ false → is_some o ≡ true
some_of None e = absurd (cc)
some_of (Some x) e = refl

-- DATA
fault_headless : (o : Option MessageFault) (q : Response) → is_some q.head ≡ true → IsHeadless (with_fault o q)
fault_headless (Some (flaw.TooLarge len)) q some = λ e. absurd (both_ways (is_some q.head) some e)
fault_headless (Some flaw.BadFlag) q some = λ e. absurd (both_ways (is_some q.head) some e)
fault_headless None q some =
    on_if IsHeadless q.closes (ended (plain_end code.Unknown cause.Http false (Some cancel)) q) q
    (λ h e. absurd (both_ways (is_some q.head) some e)) (λ h e. absurd (both_ways (is_some q.head) some e))

data_headless : (limit : ℕ) (p : Response) (f : FrameSeen) → IsHeadless p → IsHeadless (with_data limit p f)
data_headless limit p f h =
    let m : Messages = messages_of limit (p.rest ++ content_of f) in
    let o : Outcome = plain_end code.Internal cause.Framing false (Some protocol_error) in
    on_if IsHeadless (is_none p.head) (ended o p) (with_fault m.fault (with_messages p m (has_flag f.flags end_stream_flag)))
    (λ e. h) (λ e. fault_headless m.fault (with_messages p m (has_flag f.flags end_stream_flag)) (some_of p.head e))

-- header blocks
head_headless : (p : Response) (b : Block) → IsHeadless p → IsHeadless (with_head p b)
head_headless p b h =
    let o : Outcome = block_end (http_code b.fields) cause.Http cancel b in
    on_if IsHeadless (is_head b.fields) (record p { head = Some (shown_of b.fields) }) (ended o p) (λ e never. absurd (let no : ⊥ = (cc) in no)) (λ e. h)

block_headless : (p : Response) (b : Block) → IsHeadless p → IsHeadless (with_block p b)
block_headless p b h =
    let afterwards : Response = if is_some p.head || is_none (http_status b.fields) then ended_by_block b p else with_head p b in
    on_if IsHeadless (is_none p.head && is_interim (http_status b.fields)) (if b.ends then ended_by_block b p else p) (if b.ends then with_trailers p b else afterwards)
    (λ e. on_if IsHeadless b.ends (ended_by_block b p) p (λ i. h) (λ i. h))
    (λ e. on_if IsHeadless b.ends (with_trailers p b) afterwards (λ i. h)
    (λ i. on_if IsHeadless (is_some p.head || is_none (http_status b.fields)) (ended_by_block b p) (with_head p b) (λ j. h) (λ j. head_headless p b h)))

-- other frames
update_headless : (p : Response) (by : ℕ) → IsHeadless p → IsHeadless (with_update p by)
update_headless p by h =
    let none : Outcome = plain_end code.Internal cause.Framing false (Some protocol_error) in
    let wide : Outcome = plain_end code.Internal cause.Framing false (Some flow_control_error) in
    on_if IsHeadless (by == 0) (ended none p) _ (λ e. h)
    (λ e. on_if IsHeadless (nat_lt (largest_window + p.used) (p.initial + p.raised + by)) (ended wide p) (record p { raised = p.raised + by }) (λ i. h) (λ i. h))

own_headless : (limit : ℕ) (p : Response) (f : FrameSeen) → IsHeadless p → IsHeadless (with_own_frame limit p f)
own_headless limit p f h =
    on_if IsHeadless (f.kind == data_type) (with_data limit p f) _ (λ e. data_headless limit p f h)
    (λ e. on_if IsHeadless (f.kind == rst_stream_type) (with_reset p (reset_code f.payload)) _ (λ i. h)
    (λ i. on_if IsHeadless (f.kind == window_update_type) (with_update p (increment f.payload)) p (λ j. update_headless p (increment f.payload) h) (λ j. h)))

stream_headless : (limit : ℕ) (p : Response) (f : FrameSeen) (o : Option Block) → IsHeadless p → IsHeadless (with_stream_frame limit p f o)
stream_headless limit p f (Some b) h = block_headless p b h
stream_headless limit p f None h = own_headless limit p f h

read_headless : (limit k : ℕ) (p : Response) (r : ReadFrame) → IsHeadless p → IsHeadless (with_read limit k p r)
read_headless limit k p r h =
    let f : FrameSeen = r.frame in
    let o : Outcome = plain_end code.Unavailable cause.Goaway true (Some cancel) in
    on_if IsHeadless (is_settings f) (record p { initial = initial_after p.initial f }) _ (λ e. h)
    (λ e. on_if IsHeadless ((f.kind == goaway_type) && nat_lt (last_stream f.payload) k) (ended o p) _ (λ i. h)
    (λ i. on_if IsHeadless (f.stream == k) (with_stream_frame limit p f r.block) p (λ j. stream_headless limit p f r.block h) (λ j. h)))

traffic_headless : (limit k : ℕ) (p : Response) (t : Traffic) → IsHeadless p → IsHeadless (with_traffic limit k p t)
traffic_headless limit k p (traffic.Read r) h = read_headless limit k p r h
traffic_headless limit k p (traffic.Written sent.Preface) h = h
traffic_headless limit k p (traffic.Written (sent.Frame f)) h =
    on_if IsHeadless ((f.kind == data_type) && (f.stream == k)) (record p { used = p.used + length f.payload }) p (λ e. h) (λ e. h)

all_headless : (limit k : ℕ) (p : Response) (ts : List Traffic) → IsHeadless p → IsHeadless (fold (response_after limit k) p ts)
all_headless limit k p [] h = h
all_headless limit k p (t ∷ ts) h =
    all_headless limit k (response_after limit k p t) ts
    (on_if IsHeadless (is_some p.end || p.large) p (with_traffic limit k p t) (λ e. h) (λ e. traffic_headless limit k p t h))

pub headless : (limit k : ℕ) (ts : List Traffic) → is_some (response_in limit k ts).head ≡ false → (response_in limit k ts).rest ≡ []
headless limit k ts = all_headless limit k no_response ts (λ e. refl)
