-- What came of a response stays: a frame that is read or written adds after it.
use Rattle.attempt_ledger.specs.declared.row.RowEnd.{RowEnd}
use Rattle.grpc_base.specs.ErrorCodes.{cancel, flow_control_error, protocol_error}
use Rattle.grpc_base.specs.declared.event.Reply.{Reply}
use Rattle.grpc_base.specs.declared.fields.Field.{Field}
use Rattle.grpc_frame.specs.Messages.{Messages, messages_of}
use Rattle.grpc_frame.specs.declared.next.MessageFault.{MessageFault}
use Rattle.grpc_meta.specs.ResponseFields.{shown_of}
use Rattle.h2_frame.specs.Frames.{FrameSeen, has_flag}
use Rattle.h2_frame.specs.Numbers.{data_type, end_stream_flag, goaway_type, rst_stream_type, window_update_type}
use Rattle.h2_frame.specs.Payloads.{content_of, increment, last_stream, reset_code}
use Rattle.session_actions.specs.Deliveries.{response_items}
use Rattle.session_actions.specs.Links.{is_settings}
use Rattle.session_actions.specs.Reading.{largest_window}
use Rattle.session_actions.specs.Responses.{block_end, ended, ended_by_block, http_code, http_status, initial_after, is_head, is_interim, is_read_by, no_response, plain_end, response_after, response_in, traffic_by, with_block, with_data, with_fault, with_head, with_messages, with_own_frame, with_read, with_reset, with_stream_frame, with_traffic, with_trailers, with_update, with_written}
use Rattle.session_actions.specs.declared.link.Block.{Block}
use Rattle.session_actions.specs.declared.link.ReadFrame.{ReadFrame}
use Rattle.session_actions.specs.declared.link.Sent.{Sent}
use Rattle.session_actions.specs.declared.link.Traffic.{Traffic}
use Rattle.session_actions.specs.declared.response.Outcome.{Outcome}
use Rattle.session_actions.specs.declared.response.Response.{Response}
use Rattle.session_order.proofs.Lists.{none_is}
use Rattle.session_takes.proofs.Prefixes.{IsPrefix, prefix_join, prefix_of_none, prefix_same, prefix_self}
use Rattle.std.proofs.Common.{Bool, List, None, Option, Some, [], ap, append_assoc, arith, false, if◌then◌else◌, inl, inr, is_none, is_some, length, map, nat_le, nat_lt, refl, subst, sym, true, ℕ, ◌&&◌, ◌++◌, ◌+◌, ◌<◌, ◌==◌, ◌||◌, ◌∙◌, ◌∷◌, ◌≡◌, ◌⊎◌}
use Rattle.std.proofs.lemmas.Bool.{or_parts}
use Rattle.std.proofs.lemmas.Bool.Decides.{nat_tests}
use Rattle.std.proofs.lemmas.List.{map-append}
use Rattle.std.proofs.lemmas.List.Sums.{fold-append}
use Rattle.std.specs.Option.{option_map, option_map_or}
use Rattle.std.specs.Prelude.{fold, option_to_list}
use Rattle.attempt_ledger.specs.declared.row.RowCause.TheVariants as cause
use Rattle.grpc_base.specs.declared.code.Code.TheVariants as code
use Rattle.grpc_frame.specs.declared.next.MessageFault.TheVariants as messagefault
use Rattle.grpc_base.specs.declared.event.Reply.TheVariants as reply
use Rattle.session_actions.specs.declared.link.Sent.TheVariants as sent
use Rattle.session_actions.specs.declared.link.Traffic.TheVariants as traffic

abbrev pub HeadFirst : Response → Type 0
HeadFirst p = is_none p.head ≡ true → p.messages ≡ []

pub record Grows (p q : Response) : Type 0 where
  pub prefix : IsPrefix (response_items p) (response_items q)
  pub first : HeadFirst q

module _ (p : Response) (first : HeadFirst p) where
  -- all but the end of the response is as before
  same : (q : Response) → q.head ≡ p.head → q.messages ≡ p.messages → Grows p q
  same q head messages = record {
    prefix = prefix_same (response_items p) (response_items q)
        (ap (λ (h : Option (List Field)). option_to_list (option_map (λ (meta : List Field). reply.Head meta) h) ++ map (λ (m : List ℕ). reply.Message m) q.messages) head
        ∙ ap (λ (ms : List (List ℕ)). option_to_list (option_map (λ (meta : List Field). reply.Head meta) p.head) ++ map (λ (m : List ℕ). reply.Message m) ms) messages);
    first = λ none. messages ∙ first (sym (ap (λ (h : Option (List Field)). is_none h) head) ∙ none);
  }

  self : Grows p p
  self = record { prefix = prefix_self (response_items p); first = first }

  either : (b : Bool) (x y : Response) → Grows p x → Grows p y → Grows p (if b then x else y)
  either true x y f g = f
  either false x y f g = g

  -- where the test says more
  either_of : (b : Bool) (x y : Response) → (b ≡ true → Grows p x) → (b ≡ false → Grows p y) → Grows p (if b then x else y)
  either_of true x y f g = f refl
  either_of false x y f g = g refl

  end_so : (t : Outcome) → Grows p (ended t p)
  end_so t = same (ended t p) refl refl

  -- the head
  no_items : is_some p.head ≡ false → response_items p ≡ []
  no_items none =
      let no_head : p.head ≡ None = none_is p.head none in
      let no_messages : p.messages ≡ [] = first (ap (λ (h : Option (List Field)). is_none h) no_head) in
      ap (λ (h : Option (List Field)). option_to_list (option_map (λ (meta : List Field). reply.Head meta) h) ++ map (λ (m : List ℕ). reply.Message m) p.messages) no_head
      ∙ ap (λ (ms : List (List ℕ)). map (λ (m : List ℕ). reply.Message m) ms) no_messages

  head_so : (meta : List Field) → is_some p.head ≡ false → Grows p (record p { head = Some meta })
  head_so meta none = record {
    prefix = prefix_of_none (response_items p) (response_items (record p { head = Some meta })) (no_items none);
    first = λ no. absurd (let bad : false ≡ true = no in (cc));
  }

  with_head_so : (b : Block) → is_some p.head ≡ false → Grows p (with_head p b)
  with_head_so b none =
      either (is_head b.fields) (record p { head = Some (shown_of b.fields) }) (ended (block_end (http_code b.fields) cause.Http cancel b) p)
      (head_so (shown_of b.fields) none) (end_so (block_end (http_code b.fields) cause.Http cancel b))

  block_so : (b : Block) → Grows p (with_block p b)
  block_so b =
      either (is_none p.head && is_interim (http_status b.fields)) (if b.ends then ended_by_block b p else p)
      (if b.ends then with_trailers p b else if is_some p.head || is_none (http_status b.fields) then ended_by_block b p else with_head p b)
      (either b.ends (ended_by_block b p) p (end_so (block_end code.Internal cause.Framing protocol_error b)) self)
      (either b.ends (with_trailers p b) (if is_some p.head || is_none (http_status b.fields) then ended_by_block b p else with_head p b)
      (same (with_trailers p b) refl refl)
      (either_of (is_some p.head || is_none (http_status b.fields)) (ended_by_block b p) (with_head p b)
      (λ e. end_so (block_end code.Internal cause.Framing protocol_error b))
      (λ e. with_head_so b (or_parts (is_some p.head) (is_none (http_status b.fields)) e).0)))

  -- messages
  messages_so : (m : Messages) (closes : Bool) → is_none p.head ≡ false → Grows p (with_messages p m closes)
  messages_so m closes some =
      let heads : List Reply = option_to_list (option_map (λ (meta : List Field). reply.Head meta) p.head) in
      let reported : List (List ℕ) → List Reply = map (λ (x : List ℕ). reply.Message x) in
      record {
        prefix = record {
          rest = reported m.whole;
          is = ap (λ (l : List Reply). heads ++ l) (map-append (λ (x : List ℕ). reply.Message x) p.messages m.whole) ∙ sym (append_assoc heads (reported p.messages) (reported m.whole));
        };
        first = λ none. absurd (let bad : false ≡ true = sym some ∙ none in (cc));
      }

-- what only ends it, or is kept beside, adds nothing
grows_on : (p q r : Response) → Grows p q → r.head ≡ q.head → r.messages ≡ q.messages → Grows p r
grows_on p q r g head messages =
    let h : Grows q r = same q g.first r head messages in record { prefix = prefix_join (response_items p) (response_items q) (response_items r) g.prefix h.prefix; first = h.first }

fault_if : (p q : Response) (b : Bool) (t : Outcome) → Grows p q → Grows p (if b then ended t q else q)
fault_if p q true t g = grows_on p q (ended t q) g refl refl
fault_if p q false t g = g

fault_so : (p q : Response) (o : Option MessageFault) → Grows p q → Grows p (with_fault o q)
fault_so p q (Some (messagefault.TooLarge len)) g = grows_on p q (record q { large = true }) g refl refl
fault_so p q (Some messagefault.BadFlag) g = grows_on p q (ended (plain_end code.Internal cause.Framing false (Some cancel)) q) g refl refl
fault_so p q None g = fault_if p q q.closes (plain_end code.Unknown cause.Http false (Some cancel)) g

module _ (limit stream : ℕ) (p : Response) (first : HeadFirst p) where
  data_so : (f : FrameSeen) → Grows p (with_data limit p f)
  data_so f =
      let m : Messages = messages_of limit (p.rest ++ content_of f) in
      either_of p first (is_none p.head) (ended (plain_end code.Internal cause.Framing false (Some protocol_error)) p)
      (with_fault m.fault (with_messages p m (has_flag f.flags end_stream_flag)))
      (λ e. end_so p first (plain_end code.Internal cause.Framing false (Some protocol_error)))
      (λ e. fault_so p (with_messages p m (has_flag f.flags end_stream_flag)) m.fault (messages_so p first m (has_flag f.flags end_stream_flag) e))

  update_so : (by : ℕ) → Grows p (with_update p by)
  update_so by =
      either p first (by == 0) (ended (plain_end code.Internal cause.Framing false (Some protocol_error)) p)
      (if nat_lt (largest_window + p.used) (p.initial + p.raised + by) then ended (plain_end code.Internal cause.Framing false (Some flow_control_error)) p else record p { raised = p.raised + by })
      (end_so p first (plain_end code.Internal cause.Framing false (Some protocol_error)))
      (either p first (nat_lt (largest_window + p.used) (p.initial + p.raised + by)) (ended (plain_end code.Internal cause.Framing false (Some flow_control_error)) p) (record p { raised = p.raised + by })
      (end_so p first (plain_end code.Internal cause.Framing false (Some flow_control_error))) (same p first (record p { raised = p.raised + by }) refl refl))

  own_so : (f : FrameSeen) → Grows p (with_own_frame limit p f)
  own_so f =
      either p first (f.kind == data_type) (with_data limit p f)
      (if f.kind == rst_stream_type then with_reset p (reset_code f.payload) else if f.kind == window_update_type then with_update p (increment f.payload) else p)
      (data_so f)
      (either p first (f.kind == rst_stream_type) (with_reset p (reset_code f.payload)) (if f.kind == window_update_type then with_update p (increment f.payload) else p)
      (same p first (with_reset p (reset_code f.payload)) refl refl)
      (either p first (f.kind == window_update_type) (with_update p (increment f.payload)) p (update_so (increment f.payload)) (self p first)))

  stream_so : (f : FrameSeen) (o : Option Block) → Grows p (with_stream_frame limit p f o)
  stream_so f (Some b) = block_so p first b
  stream_so f None = own_so f

  read_so : (r : ReadFrame) → Grows p (with_read limit stream p r)
  read_so r =
      either p first (is_settings r.frame) (record p { initial = initial_after p.initial r.frame })
      (if (r.frame.kind == goaway_type) && nat_lt (last_stream r.frame.payload) stream then ended (plain_end code.Unavailable cause.Goaway true (Some cancel)) p
      else if r.frame.stream == stream then with_stream_frame limit p r.frame r.block else p)
      (same p first (record p { initial = initial_after p.initial r.frame }) refl refl)
      (either p first ((r.frame.kind == goaway_type) && nat_lt (last_stream r.frame.payload) stream) (ended (plain_end code.Unavailable cause.Goaway true (Some cancel)) p)
      (if r.frame.stream == stream then with_stream_frame limit p r.frame r.block else p)
      (end_so p first (plain_end code.Unavailable cause.Goaway true (Some cancel)))
      (either p first (r.frame.stream == stream) (with_stream_frame limit p r.frame r.block) p (stream_so r.frame r.block) (self p first)))

  written_so : (f : FrameSeen) → Grows p (with_written stream p f)
  written_so f =
      either p first ((f.kind == data_type) && (f.stream == stream)) (record p { used = p.used + length f.payload }) p
      (same p first (record p { used = p.used + length f.payload }) refl refl) (self p first)

  traffic_so : (t : Traffic) → Grows p (with_traffic limit stream p t)
  traffic_so (traffic.Read r) = read_so r
  traffic_so (traffic.Written (sent.Frame f)) = written_so f
  traffic_so (traffic.Written sent.Preface) = self p first

  one_so : (t : Traffic) → Grows p (response_after limit stream p t)
  one_so t = either p first (is_some p.end || p.large) p (with_traffic limit stream p t) (self p first) (traffic_so t)

-- all that passed
module _ (limit stream : ℕ) where
  all_first : (ts : List Traffic) (p : Response) → HeadFirst p → HeadFirst (fold (response_after limit stream) p ts)
  all_first [] p first = first
  all_first (t ∷ ts) p first = all_first ts (response_after limit stream p t) (one_so limit stream p first t).first

  pub more_grows : (ts : List Traffic) (t : Traffic) → IsPrefix (response_items (response_in limit stream ts)) (response_items (response_in limit stream (ts ++ t ∷ [])))
  more_grows ts t =
      let p : Response = response_in limit stream ts in
      let g : Grows p (response_after limit stream p t) = one_so limit stream p (all_first ts no_response (λ none. refl)) t in
      subst (λ (q : Response). IsPrefix (response_items p) (response_items q)) (sym (fold-append (response_after limit stream) no_response ts (t ∷ []))) g.prefix

  -- what is written brings nothing
  used_if : (p : Response) (f : FrameSeen) (b : Bool) → response_items (if b then record p { used = p.used + length f.payload } else p) ≡ response_items p
  used_if p f true = refl
  used_if p f false = refl

  sent_same : (p : Response) (x : Sent) → response_items (with_traffic limit stream p (traffic.Written x)) ≡ response_items p
  sent_same p sent.Preface = refl
  sent_same p (sent.Frame f) = used_if p f ((f.kind == data_type) && (f.stream == stream))

  after_same : (p : Response) (x : Sent) (b : Bool) → response_items (if b then p else with_traffic limit stream p (traffic.Written x)) ≡ response_items p
  after_same p x true = refl
  after_same p x false = sent_same p x

  written_same : (ts : List Traffic) (x : Sent) → response_items (response_in limit stream (ts ++ traffic.Written x ∷ [])) ≡ response_items (response_in limit stream ts)
  written_same ts x =
      let p : Response = response_in limit stream ts in
      ap response_items (fold-append (response_after limit stream) no_response ts (traffic.Written x ∷ [])) ∙ after_same p x (is_some p.end || p.large)

  -- up to what an end saw: it is the last of these, or none of them
  by_if : (seen : ℕ) (t : Traffic) (xs ys zs : List Traffic) (b : Bool) → (xs ≡ ys) ⊎ (xs ≡ ys ++ zs) → ((if b then t ∷ xs else []) ≡ (if b then t ∷ ys else [])) ⊎ ((if b then t ∷ xs else []) ≡ (if b then t ∷ ys else []) ++ zs)
  by_if seen t xs ys zs true (inl e) = inl (ap (λ (l : List Traffic). t ∷ l) e)
  by_if seen t xs ys zs true (inr e) = inr (ap (λ (l : List Traffic). t ∷ l) e)
  by_if seen t xs ys zs false e = inl refl

  seen_by : (seen : ℕ) (x : Sent) (ts : List Traffic)
      → (traffic_by seen (ts ++ traffic.Written x ∷ []) ≡ traffic_by seen ts) ⊎ (traffic_by seen (ts ++ traffic.Written x ∷ []) ≡ traffic_by seen ts ++ traffic.Written x ∷ [])
  seen_by seen x [] = inr refl
  seen_by seen x (t ∷ ts) =
      by_if seen t (traffic_by seen (ts ++ traffic.Written x ∷ [])) (traffic_by seen ts) (traffic.Written x ∷ []) (is_read_by seen t) (seen_by seen x ts)

  ended_same : (ts us : List Traffic) (x : Sent) → (us ≡ ts) ⊎ (us ≡ ts ++ traffic.Written x ∷ []) → response_items (response_in limit stream us) ≡ response_items (response_in limit stream ts)
  ended_same ts us x (inl e) = ap (λ (l : List Traffic). response_items (response_in limit stream l)) e
  ended_same ts us x (inr e) = ap (λ (l : List Traffic). response_items (response_in limit stream l)) e ∙ written_same ts x

  pub written_adds_none : (o : Option RowEnd) (ts : List Traffic) (x : Sent)
      → response_items (response_in limit stream (option_map_or (λ (e : RowEnd). traffic_by e.seen (ts ++ traffic.Written x ∷ [])) o (ts ++ traffic.Written x ∷ [])))
      ≡ response_items (response_in limit stream (option_map_or (λ (e : RowEnd). traffic_by e.seen ts) o ts))
  written_adds_none None ts x = written_same ts x
  written_adds_none (Some e) ts x = ended_same (traffic_by e.seen ts) (traffic_by e.seen (ts ++ traffic.Written x ∷ [])) x (seen_by e.seen x ts)

-- what is read later was not seen
not_below : (m n : ℕ) → m < n → nat_le n m ≡ false
not_below m n e = grind (arith, nat_tests, e)

pub read_is_later : (seen : ℕ) (r : ReadFrame) (ts : List Traffic) → seen < r.end → traffic_by seen (ts ++ traffic.Read r ∷ []) ≡ traffic_by seen ts
read_is_later seen r [] later = ap (λ (b : Bool). if b then traffic.Read r ∷ [] else []) (not_below seen r.end later)
read_is_later seen r (u ∷ ts) later = ap (λ (l : List Traffic). if is_read_by seen u then u ∷ l else []) (read_is_later seen r ts later)
