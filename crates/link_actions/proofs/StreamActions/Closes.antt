-- A response that goes on has not closed its stream.
use Rattle.std.proofs.Common.{◌≡◌, ◌∷◌, ◌++◌, ◌||◌, ◌&&◌, ◌==◌, refl, true, false, List, [], Option, None, Some, ℕ, ◌+◌, fold, if◌then◌else◌, is_none, is_some, length, nat_lt}
use Rattle.attempt_ledger.specs.declared.row.RowCause.TheVariants as cause
use Rattle.grpc_base.specs.ErrorCodes.{cancel, flow_control_error, protocol_error}
use Rattle.grpc_base.specs.declared.code.Code.TheVariants as code
use Rattle.grpc_frame.specs.Messages.{Messages, messages_of}
use Rattle.grpc_frame.specs.declared.next.MessageFault.{MessageFault}
use Rattle.grpc_frame.specs.declared.next.MessageFault.TheVariants as flaw
use Rattle.grpc_meta.specs.ResponseFields.{shown_of}
use Rattle.h2_frame.specs.Frames.{FrameSeen, has_flag}
use Rattle.h2_frame.specs.Numbers.{data_type, end_stream_flag, goaway_type, rst_stream_type, window_update_type}
use Rattle.h2_frame.specs.Payloads.{content_of, increment, last_stream, reset_code}
use Rattle.link_actions.proofs.Lists.{none_of, on_if}
use Rattle.session_actions.specs.Links.{is_settings}
use Rattle.session_actions.specs.Reading.{largest_window}
use Rattle.session_actions.specs.Responses.{block_end, ended, ended_by_block, http_code, http_status, initial_after, is_head, is_interim, no_response, plain_end, response_after, response_in, with_block, with_data, with_fault, with_head, with_messages, with_own_frame, with_read, with_reset, with_stream_frame, with_trailers, with_traffic, with_update}
use Rattle.session_actions.specs.declared.link.Block.{Block}
use Rattle.session_actions.specs.declared.link.ReadFrame.{ReadFrame}
use Rattle.session_actions.specs.declared.link.Sent.TheVariants as sent
use Rattle.session_actions.specs.declared.link.Traffic.{Traffic}
use Rattle.session_actions.specs.declared.link.Traffic.TheVariants as traffic
use Rattle.session_actions.specs.declared.response.Outcome.{Outcome}
use Rattle.session_actions.specs.declared.response.Response.{Response}

abbrev IsOpen : Response → Type 0
IsOpen p = p.end ≡ None → p.large ≡ false → p.closes ≡ false

over_end : (o : Outcome) (p : Response) → IsOpen (ended o p)
over_end o p e large = absurd (let never : ⊥ = (cc) in never)

still : (p : Response) → p.closes ≡ false → IsOpen p
still p h e large = h

none_end : (o : Option Outcome) → is_some o ≡ false → o ≡ None
none_end None e = refl
none_end (Some x) e = absurd (cc)

-- DATA
fault_open : (o : Option MessageFault) (q : Response) → IsOpen (with_fault o q)
fault_open (Some (flaw.TooLarge len)) q = λ e large. absurd (let never : ⊥ = (cc) in never)
fault_open (Some flaw.BadFlag) q = over_end (plain_end code.Internal cause.Framing false (Some cancel)) q
fault_open None q = on_if IsOpen q.closes (ended (plain_end code.Unknown cause.Http false (Some cancel)) q) q (λ e. over_end (plain_end code.Unknown cause.Http false (Some cancel)) q) (λ e. still q e)

data_open : (limit : ℕ) (p : Response) (f : FrameSeen) → IsOpen (with_data limit p f)
data_open limit p f =
    let m : Messages = messages_of limit (p.rest ++ content_of f) in
    let o : Outcome = plain_end code.Internal cause.Framing false (Some protocol_error) in
    on_if IsOpen (is_none p.head) (ended o p) (with_fault m.fault (with_messages p m (has_flag f.flags end_stream_flag)))
    (λ e. over_end o p) (λ e. fault_open m.fault (with_messages p m (has_flag f.flags end_stream_flag)))

-- header blocks
trailers_open : (p : Response) (b : Block) → IsOpen (with_trailers p b)
trailers_open p b e large = absurd (let never : ⊥ = (cc) in never)

head_open : (p : Response) (b : Block) → p.closes ≡ false → IsOpen (with_head p b)
head_open p b h =
    let o : Outcome = block_end (http_code b.fields) cause.Http cancel b in
    on_if IsOpen (is_head b.fields) (record p { head = Some (shown_of b.fields) }) (ended o p) (λ e. still (record p { head = Some (shown_of b.fields) }) h) (λ e. over_end o p)

broken_open : (p : Response) (b : Block) → IsOpen (ended_by_block b p)
broken_open p b = over_end (block_end code.Internal cause.Framing protocol_error b) p

block_open_ : (p : Response) (b : Block) → p.closes ≡ false → IsOpen (with_block p b)
block_open_ p b h =
    let afterwards : Response = if is_some p.head || is_none (http_status b.fields) then ended_by_block b p else with_head p b in
    on_if IsOpen (is_none p.head && is_interim (http_status b.fields)) (if b.ends then ended_by_block b p else p) (if b.ends then with_trailers p b else afterwards)
    (λ e. on_if IsOpen b.ends (ended_by_block b p) p (λ i. broken_open p b) (λ i. still p h))
    (λ e. on_if IsOpen b.ends (with_trailers p b) afterwards (λ i. trailers_open p b)
    (λ i. on_if IsOpen (is_some p.head || is_none (http_status b.fields)) (ended_by_block b p) (with_head p b) (λ j. broken_open p b) (λ j. head_open p b h)))

-- other frames
update_open : (p : Response) (by : ℕ) → p.closes ≡ false → IsOpen (with_update p by)
update_open p by h =
    let none : Outcome = plain_end code.Internal cause.Framing false (Some protocol_error) in
    let wide : Outcome = plain_end code.Internal cause.Framing false (Some flow_control_error) in
    on_if IsOpen (by == 0) (ended none p) _ (λ e. over_end none p)
    (λ e. on_if IsOpen (nat_lt (largest_window + p.used) (p.initial + p.raised + by)) (ended wide p) (record p { raised = p.raised + by }) (λ i. over_end wide p)
    (λ i. still (record p { raised = p.raised + by }) h))

reset_open : (p : Response) (number : ℕ) → IsOpen (with_reset p number)
reset_open p number e large = absurd (let never : ⊥ = (cc) in never)

own_open : (limit : ℕ) (p : Response) (f : FrameSeen) → p.closes ≡ false → IsOpen (with_own_frame limit p f)
own_open limit p f h =
    on_if IsOpen (f.kind == data_type) (with_data limit p f) _ (λ e. data_open limit p f)
    (λ e. on_if IsOpen (f.kind == rst_stream_type) (with_reset p (reset_code f.payload)) _ (λ i. reset_open p (reset_code f.payload))
    (λ i. on_if IsOpen (f.kind == window_update_type) (with_update p (increment f.payload)) p (λ j. update_open p (increment f.payload) h) (λ j. still p h)))

stream_open : (limit : ℕ) (p : Response) (f : FrameSeen) (o : Option Block) → p.closes ≡ false → IsOpen (with_stream_frame limit p f o)
stream_open limit p f (Some b) h = block_open_ p b h
stream_open limit p f None h = own_open limit p f h

read_open : (limit k : ℕ) (p : Response) (r : ReadFrame) → p.closes ≡ false → IsOpen (with_read limit k p r)
read_open limit k p r h =
    let f : FrameSeen = r.frame in
    let o : Outcome = plain_end code.Unavailable cause.Goaway true (Some cancel) in
    on_if IsOpen (is_settings f) (record p { initial = initial_after p.initial f }) _ (λ e. still (record p { initial = initial_after p.initial f }) h)
    (λ e. on_if IsOpen ((f.kind == goaway_type) && nat_lt (last_stream f.payload) k) (ended o p) _ (λ i. over_end o p)
    (λ i. on_if IsOpen (f.stream == k) (with_stream_frame limit p f r.block) p (λ j. stream_open limit p f r.block h) (λ j. still p h)))

traffic_open : (limit k : ℕ) (p : Response) (t : Traffic) → p.closes ≡ false → IsOpen (with_traffic limit k p t)
traffic_open limit k p (traffic.Read r) h = read_open limit k p r h
traffic_open limit k p (traffic.Written sent.Preface) h = still p h
traffic_open limit k p (traffic.Written (sent.Frame f)) h =
    on_if IsOpen ((f.kind == data_type) && (f.stream == k)) (record p { used = p.used + length f.payload }) p (λ e. still (record p { used = p.used + length f.payload }) h) (λ e. still p h)

after_open : (limit k : ℕ) (p : Response) (t : Traffic) → IsOpen p → IsOpen (response_after limit k p t)
after_open limit k p t h =
    on_if IsOpen (is_some p.end || p.large) p (with_traffic limit k p t) (λ e. h)
    (λ e. (let parts = none_of (is_some p.end) p.large e in traffic_open limit k p t (h (none_end p.end parts.0) parts.1)))

all_open : (limit k : ℕ) (p : Response) (ts : List Traffic) → IsOpen p → IsOpen (fold (response_after limit k) p ts)
all_open limit k p [] h = h
all_open limit k p (t ∷ ts) h = all_open limit k (response_after limit k p t) ts (after_open limit k p t h)

pub goes_open : (limit k : ℕ) (ts : List Traffic) → (response_in limit k ts).end ≡ None → (response_in limit k ts).large ≡ false → (response_in limit k ts).closes ≡ false
goes_open limit k ts = all_open limit k no_response ts (λ e large. refl)
