-- A response without a head has no message; and where nothing follows at once, the response to an outstanding attempt of an open call that is not committed has
-- no head.
use Rattle.grpc_base.specs.declared.event.Reply.TheVariants as reply
use Rattle.grpc_base.specs.declared.fields.Field.{Field}
use Rattle.grpc_frame.specs.Messages.{Messages, messages_of}
use Rattle.grpc_frame.specs.declared.next.MessageFault.{MessageFault}
use Rattle.grpc_frame.specs.declared.next.MessageFault.TheVariants as fault
use Rattle.h2_frame.specs.Frames.{FrameSeen, has_flag}
use Rattle.h2_frame.specs.Numbers.{data_type, end_stream_flag, goaway_type, rst_stream_type, window_update_type}
use Rattle.h2_frame.specs.Payloads.{content_of, increment, last_stream}
use Rattle.session_actions.specs.Deliveries.{response_items}
use Rattle.session_actions.specs.Links.{is_settings, link_of}
use Rattle.session_actions.specs.Reading.{largest_window}
use Rattle.session_actions.specs.Responses.{http_status, is_head, is_interim, limit_of_attempt, no_response, response, response_after, response_by, response_on, traffic_of, with_block, with_data, with_fault, with_messages, with_own_frame, with_read, with_stream_frame, with_traffic, with_update}
use Rattle.session_actions.specs.declared.attempt.Attempt.{Attempt}
use Rattle.session_actions.specs.declared.link.Block.{Block}
use Rattle.session_actions.specs.declared.link.Link.{Link}
use Rattle.session_actions.specs.declared.link.ReadFrame.{ReadFrame}
use Rattle.session_actions.specs.declared.link.Sent.TheVariants as sent
use Rattle.session_actions.specs.declared.link.Traffic.{Traffic}
use Rattle.session_actions.specs.declared.link.Traffic.TheVariants as traffic
use Rattle.session_actions.specs.declared.response.Response.{Response}
use Rattle.session_actions.specs.declared.seen.Seen.{Seen}
use Rattle.std.proofs.Common.{Bool, List, None, Option, Some, [], ap, false, if◌then◌else◌, is_none, is_some, map, nat_lt, option_map, refl, sym, true, ℕ, ◌&&◌, ◌++◌, ◌+◌, ◌==◌, ◌||◌, ◌∙◌, ◌∷◌, ◌≡◌}
use Rattle.std.specs.Option.{option_map_or}
use Rattle.std.specs.Prelude.{fold, option_to_list}

abbrev IsHeadless : Response → Type 0
IsHeadless q = q.head ≡ None → q.messages ≡ []

if_headless : (b : Bool) (q k : Response) → IsHeadless q → IsHeadless k → IsHeadless (if b then q else k)
if_headless true q k h j = h
if_headless false q k h j = j

block_headless : (q : Response) (b : Block) → IsHeadless q → IsHeadless (with_block q b)
block_headless q b h =
    if_headless (is_none q.head && is_interim (http_status b.fields)) _ _ (if_headless b.ends _ _ h h)
    (if_headless b.ends _ _ h (if_headless (is_some q.head || is_none (http_status b.fields)) _ _ h (if_headless (is_head b.fields) _ _ (λ e. absurd (cc)) h)))

if_head : (b : Bool) (q k : Response) (o : Option (List Field)) → q.head ≡ o → k.head ≡ o → (if b then q else k).head ≡ o
if_head true q k o e f = e
if_head false q k o e f = f

fault_head : (f : Option MessageFault) (q : Response) → (with_fault f q).head ≡ q.head
fault_head (Some (fault.TooLarge len)) q = refl
fault_head (Some fault.BadFlag) q = refl
fault_head None q = if_head q.closes _ _ q.head refl refl

none_not : {X : Type 0} (o : Option X) → is_none o ≡ false → o ≡ None → ⊥
none_not None e f = absurd (cc)
none_not (Some x) e f = absurd (cc)

module _ (limit : ℕ) where
  data_by : (q : Response) (f : FrameSeen) (m : Messages) (b : Bool) (k : Response) → is_none q.head ≡ b → IsHeadless k
      → IsHeadless (if b then k else with_fault m.fault (with_messages q m (has_flag f.flags end_stream_flag)))
  data_by q f m true k e h = h
  data_by q f m false k e h =
      λ none. absurd (none_not q.head e (sym (fault_head m.fault (with_messages q m (has_flag f.flags end_stream_flag))) ∙ none))

  data_headless : (q : Response) (f : FrameSeen) → IsHeadless q → IsHeadless (with_data limit q f)
  data_headless q f h = data_by q f (messages_of limit (q.rest ++ content_of f)) (is_none q.head) _ refl h

  update_headless : (q : Response) (by : ℕ) → IsHeadless q → IsHeadless (with_update q by)
  update_headless q by h =
      if_headless (by == 0) _ _ h (if_headless (nat_lt (largest_window + q.used) (q.initial + q.raised + by)) _ _ h h)

  own_headless : (q : Response) (f : FrameSeen) → IsHeadless q → IsHeadless (with_own_frame limit q f)
  own_headless q f h =
      if_headless (f.kind == data_type) _ _ (data_headless q f h)
      (if_headless (f.kind == rst_stream_type) _ _ h (if_headless (f.kind == window_update_type) _ _ (update_headless q (increment f.payload) h) h))

  frame_headless : (q : Response) (f : FrameSeen) (b : Option Block) → IsHeadless q → IsHeadless (with_stream_frame limit q f b)
  frame_headless q f (Some b) h = block_headless q b h
  frame_headless q f None h = own_headless q f h

  read_headless : (stream : ℕ) (q : Response) (r : ReadFrame) → IsHeadless q → IsHeadless (with_read limit stream q r)
  read_headless stream q r h =
      if_headless (is_settings r.frame) _ _ h
      (if_headless ((r.frame.kind == goaway_type) && nat_lt (last_stream r.frame.payload) stream) _ _ h
      (if_headless (r.frame.stream == stream) _ _ (frame_headless q r.frame r.block h) h))

  traffic_headless : (stream : ℕ) (q : Response) (t : Traffic) → IsHeadless q → IsHeadless (with_traffic limit stream q t)
  traffic_headless stream q (traffic.Read r) h = read_headless stream q r h
  traffic_headless stream q (traffic.Written (sent.Frame f)) h = if_headless ((f.kind == data_type) && (f.stream == stream)) _ _ h h
  traffic_headless stream q (traffic.Written sent.Preface) h = h

  all_headless : (stream : ℕ) (ts : List Traffic) (q : Response) → IsHeadless q → IsHeadless (fold (response_after limit stream) q ts)
  all_headless stream [] q h = h
  all_headless stream (t ∷ ts) q h =
      all_headless stream ts (response_after limit stream q t) (if_headless (is_some q.end || q.large) _ _ h (traffic_headless stream q t h))

headless_on : (a : Attempt) (s : Seen) (stream : ℕ) (o : Option Link) → IsHeadless (option_map_or (response_on a stream s) o no_response)
headless_on a s stream None = λ e. refl
headless_on a s stream (Some l) = all_headless (limit_of_attempt a s) stream (traffic_of a l.traffic) no_response (λ e. refl)

headless_by : (a : Attempt) (s : Seen) (o : Option ℕ) → IsHeadless (response_by a s o)
headless_by a s None = λ e. refl
headless_by a s (Some stream) = headless_on a s stream (link_of a s)

pub no_items : (a : Attempt) (s : Seen) → (response a s).head ≡ None → response_items (response a s) ≡ []
no_items a s e =
    ap (λ (o : Option (List Field)). option_to_list (option_map (λ (meta : List Field). reply.Head meta) o) ++ map (λ (m : List ℕ). reply.Message m) (response a s).messages) e
    ∙ ap (λ (ms : List (List ℕ)). map (λ (m : List ℕ). reply.Message m) ms) (headless_by a s a.row.stream e)
