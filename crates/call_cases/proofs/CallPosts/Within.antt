-- No message that an application takes is longer than may be: the limit of a call's config is at most that, and a response has no longer ones.
use Rattle.grpc_base.specs.declared.code.Code.TheVariants as code
use Rattle.channel_core.specs.Arrivals.{within_limit}
use Rattle.grpc_base.specs.Limits.{message_limit}
use Rattle.grpc_base.specs.declared.event.EndCause.{EndCause}
use Rattle.grpc_base.specs.declared.event.EndCause.TheVariants as ending
use Rattle.grpc_base.specs.declared.event.Reply.{Reply}
use Rattle.grpc_base.specs.declared.event.Reply.TheVariants as reply
use Rattle.grpc_base.specs.declared.fields.Field.{Field}
use Rattle.grpc_frame.specs.Messages.{Messages, length_reported, messages_by, messages_of, messages_within, next_by, next_of}
use Rattle.grpc_frame.specs.declared.next.MessageFault.{MessageFault}
use Rattle.grpc_frame.specs.declared.next.MessageFault.TheVariants as fault
use Rattle.grpc_frame.specs.declared.next.NextMessage.{NextMessage}
use Rattle.grpc_frame.specs.declared.next.NextMessage.TheVariants as next
use Rattle.h2_frame.specs.Frames.{FrameSeen, has_flag}
use Rattle.h2_frame.specs.Numbers.{data_type, end_stream_flag, goaway_type, rst_stream_type, window_update_type}
use Rattle.h2_frame.specs.Payloads.{content_of, increment, last_stream}
use Rattle.service_config.specs.Choice.{chosen_for, entry_for, taken}
use Rattle.service_config.specs.declared.config.Method.{Method}
use Rattle.grpc_base.specs.declared.plan.Throttle.{Throttle}
use Rattle.grpc_base.specs.Requests.{names_of_path}
use Rattle.session_actions.specs.Attempts.{call_of, commitment}
use Rattle.session_actions.specs.Configs.{chosen_of, config_of_call, no_choice}
use Rattle.session_actions.specs.Deliveries.{available, end_by_channel, end_by_row, end_item, next_item, response_items}
use Rattle.session_actions.specs.Links.{is_settings, link_of}
use Rattle.session_actions.specs.Reading.{largest_window}
use Rattle.session_actions.specs.Responses.{http_status, is_head, is_interim, limit_of_attempt, no_response, response, response_after, response_by, response_on, traffic_of, with_block, with_data, with_fault, with_messages, with_own_frame, with_read, with_stream_frame, with_traffic, with_update}
use Rattle.session_actions.specs.Words.{numbered}
use Rattle.session_actions.specs.declared.attempt.Attempt.{Attempt}
use Rattle.session_actions.specs.declared.call.Call.{Call}
use Rattle.session_actions.specs.declared.config.HeldConfig.{HeldConfig}
use Rattle.session_actions.specs.declared.link.Block.{Block}
use Rattle.session_actions.specs.declared.link.Link.{Link}
use Rattle.session_actions.specs.declared.link.ReadFrame.{ReadFrame}
use Rattle.session_actions.specs.declared.link.Sent.TheVariants as sent
use Rattle.session_actions.specs.declared.link.Traffic.{Traffic}
use Rattle.session_actions.specs.declared.link.Traffic.TheVariants as traffic
use Rattle.session_actions.specs.declared.response.Response.{Response}
use Rattle.session_actions.specs.declared.seen.Seen.{Seen}
use Rattle.attempt_ledger.specs.declared.ledger.CallEnd.{CallEnd}
use Rattle.attempt_ledger.specs.declared.row.RowEnd.{RowEnd}
use Rattle.std.proofs.Common.{Bool, List, None, Option, Some, [], ap, arith, drop, false, if◌then◌else◌, is_none, is_some, length, map, min, nat_le, nat_lt, option_and_then, option_map, refl, slice_get, subst, suc, sym, take, true, zero, ℕ, ◌&&◌, ◌++◌, ◌+◌, ◌==◌, ◌||◌, ◌∙◌, ◌∷◌, ◌≡◌, ◌≤◌}
use Rattle.std.proofs.lemmas.Bool.Decides.{nat_tests}
use Rattle.std.proofs.lemmas.List.{length-take}
use Rattle.std.specs.List.{AllByRecursion}
use Rattle.std.specs.Option.{option_map_or}
use Rattle.std.specs.Prelude.{fold, option_to_list, unwrap_or}

abbrev AreShort : ℕ → List (List ℕ) → Type 0
AreShort limit messages = AllByRecursion (λ (m : List ℕ). length m ≤ limit) messages

-- the messages of a text
long_by : (limit n size : ℕ) (b c : Bool) → nat_lt limit n ≡ b → (len : ℕ)
    → (if b then next.Fault (fault.TooLarge n) else if c then next.Whole n else next.Partial) ≡ next.Whole len → len ≤ limit
long_by limit n size true c e len is = absurd (cc)
long_by limit n size false true e len is =
    let same : n ≡ len = (cc) in
    let test : nat_lt limit len ≡ false = sym (ap (nat_lt limit) same) ∙ e in grind (arith, nat_tests)
long_by limit n size false false e len is = absurd (cc)

reported_by : (limit size : ℕ) (o : Option ℕ) (len : ℕ) → next_by limit size o ≡ next.Whole len → len ≤ limit
reported_by limit size None len is = absurd (cc)
reported_by limit size (Some n) len is = long_by limit n size (nat_lt limit n) (nat_le (5 + n) size) refl len is

whole_within : (limit : ℕ) (text : List ℕ) (len : ℕ) → next_of limit text ≡ next.Whole len → len ≤ limit
whole_within limit [] len is = absurd (cc)
whole_within limit (zero ∷ text) len is = reported_by limit (length (zero ∷ text)) (length_reported (zero ∷ text)) len is
whole_within limit (suc flag ∷ text) len is = absurd (cc)

prefix_short : (limit len : ℕ) (text : List ℕ) → len ≤ limit → length (take len text) ≤ limit
prefix_short limit len text e =
    let cut : length (take len text) ≡ min len (length text) = length-take len text in grind (arith, nat_tests)

within_by : (limit most : ℕ) (text : List ℕ) (n : NextMessage) → next_of limit text ≡ n → ((rest : List ℕ) → AreShort limit (messages_within limit most rest).whole)
    → AreShort limit (messages_within limit (suc most) text).whole
within_by limit most text (next.Whole len) e afterwards =
    subst (λ (m : Messages). AreShort limit m.whole) (sym (ap (λ (n : NextMessage). messages_by n text (messages_within limit most)) e))
    (prefix_short limit len (drop 5 text) (whole_within limit text len e), afterwards (drop len (drop 5 text)))
within_by limit most text next.Partial e afterwards =
    subst (λ (m : Messages). AreShort limit m.whole) (sym (ap (λ (n : NextMessage). messages_by n text (messages_within limit most)) e)) tt
within_by limit most text (next.Fault f) e afterwards =
    subst (λ (m : Messages). AreShort limit m.whole) (sym (ap (λ (n : NextMessage). messages_by n text (messages_within limit most)) e)) tt

all_within : (limit most : ℕ) (text : List ℕ) → AreShort limit (messages_within limit most text).whole
all_within limit zero text = tt
all_within limit (suc most) text = within_by limit most text (next_of limit text) refl (all_within limit most)

both_short : (limit : ℕ) (xs ys : List (List ℕ)) → AreShort limit xs → AreShort limit ys → AreShort limit (xs ++ ys)
both_short limit [] ys h k = k
both_short limit (x ∷ xs) ys h k = (h.0, both_short limit xs ys h.1 k)

-- the messages of a response
module _ (limit : ℕ) where
  abbrev IsShort : Response → Type 0
  IsShort q = AreShort limit q.messages

  if_short : (b : Bool) (q k : Response) → IsShort q → IsShort k → IsShort (if b then q else k)
  if_short true q k h j = h
  if_short false q k h j = j

  block_short : (q : Response) (b : Block) → IsShort q → IsShort (with_block q b)
  block_short q b h =
      if_short (is_none q.head && is_interim (http_status b.fields)) _ _ (if_short b.ends _ _ h h)
      (if_short b.ends _ _ h (if_short (is_some q.head || is_none (http_status b.fields)) _ _ h (if_short (is_head b.fields) _ _ h h)))

  fault_short : (f : Option MessageFault) (q : Response) → IsShort q → IsShort (with_fault f q)
  fault_short (Some (fault.TooLarge len)) q h = h
  fault_short (Some fault.BadFlag) q h = h
  fault_short None q h = if_short q.closes _ _ h h

  data_short : (q : Response) (f : FrameSeen) → IsShort q → IsShort (with_data limit q f)
  data_short q f h =
      let m : Messages = messages_of limit (q.rest ++ content_of f) in
      if_short (is_none q.head) _ _ h
      (fault_short m.fault (with_messages q m (has_flag f.flags end_stream_flag))
      (both_short limit q.messages m.whole h (all_within limit (length (q.rest ++ content_of f)) (q.rest ++ content_of f))))

  update_short : (q : Response) (by : ℕ) → IsShort q → IsShort (with_update q by)
  update_short q by h =
      if_short (by == 0) _ _ h (if_short (nat_lt (largest_window + q.used) (q.initial + q.raised + by)) _ _ h h)

  own_short : (q : Response) (f : FrameSeen) → IsShort q → IsShort (with_own_frame limit q f)
  own_short q f h =
      if_short (f.kind == data_type) _ _ (data_short q f h)
      (if_short (f.kind == rst_stream_type) _ _ h (if_short (f.kind == window_update_type) _ _ (update_short q (increment f.payload) h) h))

  frame_short : (q : Response) (f : FrameSeen) (b : Option Block) → IsShort q → IsShort (with_stream_frame limit q f b)
  frame_short q f (Some b) h = block_short q b h
  frame_short q f None h = own_short q f h

  read_short : (stream : ℕ) (q : Response) (r : ReadFrame) → IsShort q → IsShort (with_read limit stream q r)
  read_short stream q r h =
      if_short (is_settings r.frame) _ _ h
      (if_short ((r.frame.kind == goaway_type) && nat_lt (last_stream r.frame.payload) stream) _ _ h
      (if_short (r.frame.stream == stream) _ _ (frame_short q r.frame r.block h) h))

  traffic_short : (stream : ℕ) (q : Response) (t : Traffic) → IsShort q → IsShort (with_traffic limit stream q t)
  traffic_short stream q (traffic.Read r) h = read_short stream q r h
  traffic_short stream q (traffic.Written (sent.Frame f)) h = if_short ((f.kind == data_type) && (f.stream == stream)) _ _ h h
  traffic_short stream q (traffic.Written sent.Preface) h = h

  all_short : (stream : ℕ) (ts : List Traffic) (q : Response) → IsShort q → IsShort (fold (response_after limit stream) q ts)
  all_short stream [] q h = h
  all_short stream (t ∷ ts) q h =
      all_short stream ts (response_after limit stream q t) (if_short (is_some q.end || q.large) _ _ h (traffic_short stream q t h))

-- and of an attempt
short_on : (a : Attempt) (s : Seen) (stream : ℕ) (o : Option Link) → AreShort (limit_of_attempt a s) (option_map_or (response_on a stream s) o no_response).messages
short_on a s stream None = tt
short_on a s stream (Some l) = all_short (limit_of_attempt a s) stream (traffic_of a l.traffic) no_response tt

short_by : (a : Attempt) (s : Seen) (o : Option ℕ) → AreShort (limit_of_attempt a s) (response_by a s o).messages
short_by a s None = tt
short_by a s (Some stream) = short_on a s stream (link_of a s)

-- the limit itself
least_of : (n : ℕ) → min n message_limit ≤ message_limit
least_of n = grind (arith, nat_tests)

taken_limit : (t : Option Throttle) (m : Option Method) → (taken t m).response ≤ message_limit
taken_limit t None = omega arith
taken_limit t (Some m) = least_of (unwrap_or m.response message_limit)

chosen_limit : (c : Call) (o : Option HeldConfig) → (option_map_or (λ (h : HeldConfig). chosen_for h.config c.request.path) o no_choice).response ≤ message_limit
chosen_limit c None = taken_limit None None
chosen_limit c (Some h) = taken_limit h.config.throttle (entry_for h.config.methods (names_of_path c.request.path))

limit_by : (s : Seen) (o : Option Call) → option_map_or (λ (c : Call). (chosen_of c s).response) o message_limit ≤ message_limit
limit_by s None = omega arith
limit_by s (Some c) = chosen_limit c (config_of_call c s)

-- what an application takes
abbrev pub IsWithin : Reply → Type 0
IsWithin r = within_limit r ≡ r

message_within : (limit : ℕ) (m : List ℕ) → limit ≤ message_limit → length m ≤ limit → IsWithin (reply.Message m)
message_within limit m e f =
    let short : nat_lt message_limit (length m) ≡ false = grind (arith, nat_tests) in
    ap (λ (b : Bool). if b then reply.End code.ResourceExhausted [] [] ending.Response else reply.Message m) short

messages_within_limit : (limit : ℕ) (ms : List (List ℕ)) → limit ≤ message_limit → AreShort limit ms → AllByRecursion IsWithin (map (λ (m : List ℕ). reply.Message m) ms)
messages_within_limit limit [] e h = tt
messages_within_limit limit (m ∷ ms) e h = (message_within limit m e h.0, messages_within_limit limit ms e h.1)

head_first : (o : Option (List Field)) (rs : List Reply) → AllByRecursion IsWithin rs → AllByRecursion IsWithin (option_to_list (option_map (λ (meta : List Field). reply.Head meta) o) ++ rs)
head_first None rs h = h
head_first (Some meta) rs h = (refl, h)

items_within : (a : Attempt) (s : Seen) → AllByRecursion IsWithin (response_items (response a s))
items_within a s =
    head_first (response a s).head (map (λ (m : List ℕ). reply.Message m) (response a s).messages)
    (messages_within_limit (limit_of_attempt a s) (response a s).messages (limit_by s (call_of a s)) (short_by a s a.row.stream))

row_within : (o : Option RowEnd) → IsWithin (option_map_or end_by_row o (end_by_channel ending.Row))
row_within None = refl
row_within (Some e) = refl

end_within : (c : Call) (s : Seen) (why : EndCause) → IsWithin (end_item c s why)
end_within c s ending.Row = row_within (option_and_then (λ (k : Attempt). k.row.ended) (commitment c s))
end_within c s ending.Deadline = refl
end_within c s ending.Cancelled = refl
end_within c s ending.Request = refl
end_within c s ending.Response = refl
end_within c s ending.NoConfig = refl
end_within c s ending.Shut = refl

ends_within : (c : Call) (s : Seen) (o : Option CallEnd) → AllByRecursion IsWithin (option_to_list (option_map (λ (e : CallEnd). end_item c s e.cause) o))
ends_within c s None = tt
ends_within c s (Some e) = (end_within c s e.cause, tt)

both_within : (xs ys : List Reply) → AllByRecursion IsWithin xs → AllByRecursion IsWithin ys → AllByRecursion IsWithin (xs ++ ys)
both_within [] ys h k = k
both_within (x ∷ xs) ys h k = (h.0, both_within xs ys h.1 k)

came_within : (s : Seen) (o : Option Attempt) → AllByRecursion IsWithin (option_map_or (λ (k : Attempt). response_items (response k s)) o [])
came_within s None = tt
came_within s (Some k) = items_within k s

at_within : (rs : List Reply) (i : ℕ) (r : Reply) → AllByRecursion IsWithin rs → slice_get rs i ≡ Some r → IsWithin r
at_within [] i r h e = absurd (cc)
at_within (x ∷ rs) zero r h e = let one : x ≡ r = (cc) in subst IsWithin one h.0
at_within (x ∷ rs) (suc i) r h e = at_within rs i r h.1 e

numbered_within : (rs : List Reply) (n : ℕ) (r : Reply) → AllByRecursion IsWithin rs → numbered rs n ≡ Some r → IsWithin r
numbered_within rs zero r h e = absurd (cc)
numbered_within rs (suc i) r h e = at_within rs i r h e

pub item_within : (c : Call) (s : Seen) (r : Reply) → next_item c s ≡ Some r → IsWithin r
item_within c s r e =
    numbered_within (available c s) (c.taken + 1) r
    (both_within (option_map_or (λ (k : Attempt). response_items (response k s)) (commitment c s) [])
    (option_to_list (option_map (λ (q : CallEnd). end_item c s q.cause) c.end)) (came_within s (commitment c s)) (ends_within c s c.end)) e
