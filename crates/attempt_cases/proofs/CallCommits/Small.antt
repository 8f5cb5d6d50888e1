-- A response without a head has no message that is too long.
use Rattle.grpc_base.specs.declared.fields.Field.{Field}
use Rattle.grpc_frame.specs.Messages.{Messages, messages_of}
use Rattle.grpc_frame.specs.declared.next.MessageFault.{MessageFault}
use Rattle.grpc_frame.specs.declared.next.MessageFault.TheVariants as fault
use Rattle.h2_frame.specs.Frames.{FrameSeen, has_flag}
use Rattle.h2_frame.specs.Numbers.{data_type, end_stream_flag, goaway_type, rst_stream_type, window_update_type}
use Rattle.h2_frame.specs.Payloads.{content_of, increment, last_stream}
use Rattle.session_actions.specs.Links.{is_settings, link_of}
use Rattle.session_actions.specs.Reading.{largest_window}
use Rattle.session_actions.specs.Responses.{http_status, is_head, is_interim, limit_of_attempt, no_response, response, response_after, response_by, response_on, traffic_of, with_block, with_data, with_fault, with_messages, with_own_frame, with_read, with_stream_frame, with_traffic, with_update}
use Rattle.session_actions.specs.declared.attempt.Attempt.{Attempt}
use Rattle.session_actions.specs.declared.link.Block.{Block}
use Rattle.session_actions.specs.declared.link.Link.{Link}
use Rattle.session_actions.specs.declared.link.ReadFrame.{ReadFrame}
use Rattle.session_actions.specs.declared.link.Sent.TheVariants as sent
use Rattle.session_actions.specs.declared.link.Traffic.{Traffic}
use Rattle.session_actions.specs.declared.link.Traffic.TheVariants as traffic
use Rattle.session_actions.specs.declared.response.Response.{Response}
use Rattle.session_actions.specs.declared.seen.Seen.{Seen}
use Rattle.std.proofs.Common.{Bool, List, None, Option, Some, [], false, if◌then◌else◌, is_none, is_some, nat_lt, refl, sym, true, ℕ, ◌&&◌, ◌++◌, ◌+◌, ◌==◌, ◌||◌, ◌∙◌, ◌∷◌, ◌≡◌}
use Rattle.std.specs.Option.{option_map_or}
use Rattle.std.specs.Prelude.{fold}

abbrev IsSmall : Response → Type 0
IsSmall q = q.head ≡ None → q.large ≡ false

if_small : (b : Bool) (q k : Response) → IsSmall q → IsSmall k → IsSmall (if b then q else k)
if_small true q k h j = h
if_small false q k h j = j

block_small : (q : Response) (b : Block) → IsSmall q → IsSmall (with_block q b)
block_small q b h =
    if_small (is_none q.head && is_interim (http_status b.fields)) _ _ (if_small b.ends _ _ h h)
    (if_small b.ends _ _ h (if_small (is_some q.head || is_none (http_status b.fields)) _ _ h (if_small (is_head b.fields) _ _ (λ e. absurd (cc)) h)))

if_head : (b : Bool) (q k : Response) (o : Option (List Field)) → q.head ≡ o → k.head ≡ o → (if b then q else k).head ≡ o
if_head true q k o e f = e
if_head false q k o e f = f

fault_head : (f : Option MessageFault) (q : Response) → (with_fault f q).head ≡ q.head
fault_head (Some (fault.TooLarge len)) q = refl
fault_head (Some fault.BadFlag) q = refl
fault_head None q = if_head q.closes _ _ q.head refl refl

none_not : {X : Type 0} (o : Option X) → is_none o ≡ false → o ≡ None → ⊥
none_not None e f = absurd (cc)
none_not (Some x) e f = absurd (cc)

module _ (limit : ℕ) where
  data_by : (q : Response) (f : FrameSeen) (m : Messages) (b : Bool) (k : Response) → is_none q.head ≡ b → IsSmall k
      → IsSmall (if b then k else with_fault m.fault (with_messages q m (has_flag f.flags end_stream_flag)))
  data_by q f m true k e h = h
  data_by q f m false k e h =
      λ none. absurd (none_not q.head e (sym (fault_head m.fault (with_messages q m (has_flag f.flags end_stream_flag))) ∙ none))

  data_small : (q : Response) (f : FrameSeen) → IsSmall q → IsSmall (with_data limit q f)
  data_small q f h = data_by q f (messages_of limit (q.rest ++ content_of f)) (is_none q.head) _ refl h

  update_small : (q : Response) (by : ℕ) → IsSmall q → IsSmall (with_update q by)
  update_small q by h =
      if_small (by == 0) _ _ h (if_small (nat_lt (largest_window + q.used) (q.initial + q.raised + by)) _ _ h h)

  own_small : (q : Response) (f : FrameSeen) → IsSmall q → IsSmall (with_own_frame limit q f)
  own_small q f h =
      if_small (f.kind == data_type) _ _ (data_small q f h)
      (if_small (f.kind == rst_stream_type) _ _ h (if_small (f.kind == window_update_type) _ _ (update_small q (increment f.payload) h) h))

  frame_small : (q : Response) (f : FrameSeen) (b : Option Block) → IsSmall q → IsSmall (with_stream_frame limit q f b)
  frame_small q f (Some b) h = block_small q b h
  frame_small q f None h = own_small q f h

  read_small : (stream : ℕ) (q : Response) (r : ReadFrame) → IsSmall q → IsSmall (with_read limit stream q r)
  read_small stream q r h =
      if_small (is_settings r.frame) _ _ h
      (if_small ((r.frame.kind == goaway_type) && nat_lt (last_stream r.frame.payload) stream) _ _ h
      (if_small (r.frame.stream == stream) _ _ (frame_small q r.frame r.block h) h))

  traffic_small : (stream : ℕ) (q : Response) (t : Traffic) → IsSmall q → IsSmall (with_traffic limit stream q t)
  traffic_small stream q (traffic.Read r) h = read_small stream q r h
  traffic_small stream q (traffic.Written (sent.Frame f)) h = if_small ((f.kind == data_type) && (f.stream == stream)) _ _ h h
  traffic_small stream q (traffic.Written sent.Preface) h = h

  all_small : (stream : ℕ) (ts : List Traffic) (q : Response) → IsSmall q → IsSmall (fold (response_after limit stream) q ts)
  all_small stream [] q h = h
  all_small stream (t ∷ ts) q h =
      all_small stream ts (response_after limit stream q t) (if_small (is_some q.end || q.large) _ _ h (traffic_small stream q t h))

small_on : (a : Attempt) (s : Seen) (stream : ℕ) (o : Option Link) → IsSmall (option_map_or (response_on a stream s) o no_response)
small_on a s stream None = λ e. refl
small_on a s stream (Some l) = all_small (limit_of_attempt a s) stream (traffic_of a l.traffic) no_response (λ e. refl)

small_by : (a : Attempt) (s : Seen) (o : Option ℕ) → IsSmall (response_by a s o)
small_by a s None = λ e. refl
small_by a s (Some stream) = small_on a s stream (link_of a s)

pub never_large : (a : Attempt) (s : Seen) → (response a s).head ≡ None → (response a s).large ≡ false
never_large a s e = small_by a s a.row.stream e
