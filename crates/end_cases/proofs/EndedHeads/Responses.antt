-- Heads of responses. A head that came stays, whatever comes after it; whether one came does not depend on how long messages may be; and nothing that is written
-- brings one (gRPC over HTTP/2, "Responses").
use Rattle.attempt_ledger.specs.declared.row.RowCause.TheVariants as cause
use Rattle.grpc_base.specs.ErrorCodes.{cancel, protocol_error}
use Rattle.grpc_base.specs.declared.code.Code.TheVariants as code
use Rattle.grpc_base.specs.declared.fields.Field.{Field}
use Rattle.grpc_frame.specs.Messages.{Messages, messages_of}
use Rattle.grpc_frame.specs.declared.next.MessageFault.TheVariants as fault
use Rattle.grpc_frame.specs.declared.next.MessageFault.{MessageFault}
use Rattle.h2_frame.specs.Frames.{FrameSeen, has_flag}
use Rattle.h2_frame.specs.Numbers.{data_type, end_stream_flag, goaway_type, rst_stream_type, window_update_type}
use Rattle.h2_frame.specs.Payloads.{content_of, increment, last_stream, reset_code}
use Rattle.session_actions.specs.Links.{is_settings}
use Rattle.session_actions.specs.Reading.{largest_window}
use Rattle.session_actions.specs.Responses.{ended, http_status, initial_after, is_head, is_interim, is_read_by, no_response, plain_end, response_after, response_in, traffic_by, with_block, with_data, with_fault, with_messages, with_own_frame, with_read, with_reset, with_stream_frame, with_traffic, with_update}
use Rattle.session_actions.specs.declared.link.Block.{Block}
use Rattle.session_actions.specs.declared.link.ReadFrame.{ReadFrame}
use Rattle.session_actions.specs.declared.link.Sent.TheVariants as sent
use Rattle.session_actions.specs.declared.link.Sent.{Sent}
use Rattle.session_actions.specs.declared.link.Traffic.TheVariants as traffic
use Rattle.session_actions.specs.declared.link.Traffic.{Traffic}
use Rattle.session_actions.specs.declared.response.Response.{Response}
use Rattle.std.proofs.Common.{◌⊎◌, inl, inr, Bool, List, None, Option, Some, [], ap, false, if◌then◌else◌, is_none, is_some, nat_lt, refl, subst, sym, true, ℕ, ◌&&◌, ◌++◌, ◌+◌, ◌==◌, ◌||◌, ◌∙◌, ◌∷◌, ◌≡◌}
use Rattle.std.specs.Prelude.{fold}

-- a head came
abbrev pub HasHead : Response → Type 0
HasHead q = is_some q.head ≡ true

if_has : (b : Bool) (q k : Response) → HasHead q → HasHead k → HasHead (if b then q else k)
if_has true q k h j = h
if_has false q k h j = j

block_has : (q : Response) (b : Block) → HasHead q → HasHead (with_block q b)
block_has q b h =
    if_has (is_none q.head && is_interim (http_status b.fields)) _ _ (if_has b.ends _ _ h h)
    (if_has b.ends _ _ h (if_has (is_some q.head || is_none (http_status b.fields)) _ _ h (if_has (is_head b.fields) _ _ refl h)))

if_head : (b : Bool) (q k : Response) (o : Option (List Field)) → q.head ≡ o → k.head ≡ o → (if b then q else k).head ≡ o
if_head true q k o e f = e
if_head false q k o e f = f

fault_head : (f : Option MessageFault) (q : Response) → (with_fault f q).head ≡ q.head
fault_head (Some (fault.TooLarge len)) q = refl
fault_head (Some fault.BadFlag) q = refl
fault_head None q = if_head q.closes _ _ q.head refl refl

module _ (limit stream : ℕ) where
  data_by : (q : Response) (f : FrameSeen) (m : Messages) (b : Bool) (k : Response) → HasHead q → HasHead k
      → HasHead (if b then k else with_fault m.fault (with_messages q m (has_flag f.flags end_stream_flag)))
  data_by q f m true k h j = j
  data_by q f m false k h j = ap (λ (o : Option (List Field)). is_some o) (fault_head m.fault (with_messages q m (has_flag f.flags end_stream_flag))) ∙ h

  data_has : (q : Response) (f : FrameSeen) → HasHead q → HasHead (with_data limit q f)
  data_has q f h = data_by q f (messages_of limit (q.rest ++ content_of f)) (is_none q.head) _ h h

  update_has : (q : Response) (by : ℕ) → HasHead q → HasHead (with_update q by)
  update_has q by h =
      if_has (by == 0) _ _ h (if_has (nat_lt (largest_window + q.used) (q.initial + q.raised + by)) _ _ h h)

  own_has : (q : Response) (f : FrameSeen) → HasHead q → HasHead (with_own_frame limit q f)
  own_has q f h =
      if_has (f.kind == data_type) _ _ (data_has q f h)
      (if_has (f.kind == rst_stream_type) _ _ h (if_has (f.kind == window_update_type) _ _ (update_has q (increment f.payload) h) h))

  frame_has : (q : Response) (f : FrameSeen) (b : Option Block) → HasHead q → HasHead (with_stream_frame limit q f b)
  frame_has q f (Some b) h = block_has q b h
  frame_has q f None h = own_has q f h

  read_has : (q : Response) (r : ReadFrame) → HasHead q → HasHead (with_read limit stream q r)
  read_has q r h =
      if_has (is_settings r.frame) _ _ h
      (if_has ((r.frame.kind == goaway_type) && nat_lt (last_stream r.frame.payload) stream) _ _ h
      (if_has (r.frame.stream == stream) _ _ (frame_has q r.frame r.block h) h))

  traffic_has : (q : Response) (t : Traffic) → HasHead q → HasHead (with_traffic limit stream q t)
  traffic_has q (traffic.Read r) h = read_has q r h
  traffic_has q (traffic.Written (sent.Frame f)) h = if_has ((f.kind == data_type) && (f.stream == stream)) _ _ h h
  traffic_has q (traffic.Written sent.Preface) h = h

  after_has : (q : Response) (t : Traffic) → HasHead q → HasHead (response_after limit stream q t)
  after_has q t h = if_has (is_some q.end || q.large) _ _ h (traffic_has q t h)

  all_have : (ts : List Traffic) (q : Response) → HasHead q → HasHead (fold (response_after limit stream) q ts)
  all_have [] q h = h
  all_have (t ∷ ts) q h = all_have ts (response_after limit stream q t) (after_has q t h)

  -- what was seen of it is in all of it
  more_by : (seen : ℕ) (t : Traffic) (ts : List Traffic) (q : Response) (b : Bool) → is_read_by seen t ≡ b
      → ((k : Response) → HasHead (fold (response_after limit stream) k (traffic_by seen ts)) → HasHead (fold (response_after limit stream) k ts))
      → HasHead (fold (response_after limit stream) q (if b then t ∷ traffic_by seen ts else [])) → HasHead (fold (response_after limit stream) q (t ∷ ts))
  more_by seen t ts q true e rest h = rest (response_after limit stream q t) h
  more_by seen t ts q false e rest h = all_have (t ∷ ts) q h

  more : (seen : ℕ) (ts : List Traffic) (q : Response) → HasHead (fold (response_after limit stream) q (traffic_by seen ts))
      → HasHead (fold (response_after limit stream) q ts)
  more seen [] q h = h
  more seen (t ∷ ts) q h = more_by seen t ts q (is_read_by seen t) refl (λ k. more seen ts k) h

  pub seen_is_there : (seen : ℕ) (ts : List Traffic) → HasHead (response_in limit stream (traffic_by seen ts)) → HasHead (response_in limit stream ts)
  seen_is_there seen ts h = more seen ts no_response h

  -- what is written brings none
  written_head : (q : Response) (x : Sent) → (response_after limit stream q (traffic.Written x)).head ≡ q.head
  written_head q sent.Preface = if_head (is_some q.end || q.large) _ _ q.head refl refl
  written_head q (sent.Frame f) =
      if_head (is_some q.end || q.large) _ _ q.head refl (if_head ((f.kind == data_type) && (f.stream == stream)) _ _ q.head refl refl)

  afterwards_by : (seen : ℕ) (x : Sent) (t : Traffic) (ts : List Traffic) (q : Response) (b : Bool)
      → ((k : Response) → is_some (fold (response_after limit stream) k (traffic_by seen (ts ++ traffic.Written x ∷ []))).head
      ≡ is_some (fold (response_after limit stream) k (traffic_by seen ts)).head)
      → is_some (fold (response_after limit stream) q (if b then t ∷ traffic_by seen (ts ++ traffic.Written x ∷ []) else [])).head
      ≡ is_some (fold (response_after limit stream) q (if b then t ∷ traffic_by seen ts else [])).head
  afterwards_by seen x t ts q true rest = rest (response_after limit stream q t)
  afterwards_by seen x t ts q false rest = refl

  afterwards : (seen : ℕ) (x : Sent) (ts : List Traffic) (q : Response)
      → is_some (fold (response_after limit stream) q (traffic_by seen (ts ++ traffic.Written x ∷ []))).head ≡ is_some (fold (response_after limit stream) q (traffic_by seen ts)).head
  afterwards seen x [] q = ap (λ (o : Option (List Field)). is_some o) (written_head q x)
  afterwards seen x (t ∷ ts) q = afterwards_by seen x t ts q (is_read_by seen t) (λ k. afterwards seen x ts k)

  pub written_brings_none : (seen : ℕ) (x : Sent) (ts : List Traffic)
      → is_some (response_in limit stream (traffic_by seen (ts ++ traffic.Written x ∷ []))).head ≡ is_some (response_in limit stream (traffic_by seen ts)).head
  written_brings_none seen x ts = afterwards seen x ts no_response

-- what is read later was not seen
pub read_is_later : (seen : ℕ) (t : Traffic) (ts : List Traffic) → is_read_by seen t ≡ false → traffic_by seen (ts ++ t ∷ []) ≡ traffic_by seen ts
read_is_later seen t [] e = ap (λ (b : Bool). if b then t ∷ [] else []) e
read_is_later seen t (u ∷ ts) e = ap (λ (l : List Traffic). if is_read_by seen u then u ∷ l else []) (read_is_later seen t ts e)

-- with one length of messages or another
module _ (m k stream : ℕ) where
  -- a head came of both, or they are one and none came
  abbrev Alike : Response → Response → Type 0
  Alike q r = (HasHead q × HasHead r) ⊎ ((q.head ≡ None) × (r ≡ q))

  data_free : (q : Response) (f : FrameSeen) → is_none q.head ≡ true → with_data k q f ≡ with_data m q f
  data_free q f e =
      ap (λ (b : Bool). if b then ended (plain_end code.Internal cause.Framing false (Some protocol_error)) q
      else with_fault (messages_of k (q.rest ++ content_of f)).fault (with_messages q (messages_of k (q.rest ++ content_of f)) (has_flag f.flags end_stream_flag))) e
      ∙ sym (ap (λ (b : Bool). if b then ended (plain_end code.Internal cause.Framing false (Some protocol_error)) q
      else with_fault (messages_of m (q.rest ++ content_of f)).fault (with_messages q (messages_of m (q.rest ++ content_of f)) (has_flag f.flags end_stream_flag))) e)

  own_free : (q : Response) (f : FrameSeen) → is_none q.head ≡ true → with_own_frame k q f ≡ with_own_frame m q f
  own_free q f e =
      ap (λ (p : Response). if f.kind == data_type then p
      else if f.kind == rst_stream_type then with_reset q (reset_code f.payload)
      else if f.kind == window_update_type then with_update q (increment f.payload)
      else q) (data_free q f e)

  frame_free : (q : Response) (f : FrameSeen) (b : Option Block) → is_none q.head ≡ true → with_stream_frame k q f b ≡ with_stream_frame m q f b
  frame_free q f (Some b) e = refl
  frame_free q f None e = own_free q f e

  traffic_free : (q : Response) (t : Traffic) → is_none q.head ≡ true → with_traffic k stream q t ≡ with_traffic m stream q t
  traffic_free q (traffic.Read r) e =
      ap (λ (p : Response). if is_settings r.frame then record q { initial = initial_after q.initial r.frame }
      else if (r.frame.kind == goaway_type) && nat_lt (last_stream r.frame.payload) stream then ended (plain_end code.Unavailable cause.Goaway true (Some cancel)) q
      else if r.frame.stream == stream then p
      else q) (frame_free q r.frame r.block e)
  traffic_free q (traffic.Written (sent.Frame f)) e = refl
  traffic_free q (traffic.Written sent.Preface) e = refl

  after_free : (q : Response) (t : Traffic) → is_none q.head ≡ true → response_after k stream q t ≡ response_after m stream q t
  after_free q t e = ap (λ (p : Response). if is_some q.end || q.large then q else p) (traffic_free q t e)

  one_by : (p : Response) (o : Option (List Field)) → p.head ≡ o → Alike p p
  one_by p None e = inr (e, refl)
  one_by p (Some meta) e = inl (ap (λ (o : Option (List Field)). is_some o) e, ap (λ (o : Option (List Field)). is_some o) e)

  step : (t : Traffic) (q r : Response) → Alike q r → Alike (response_after m stream q t) (response_after k stream r t)
  step t q r (inl both) = inl (after_has m stream q t both.0, after_has k stream r t both.1)
  step t q r (inr same) =
      let p : Response = response_after m stream q t in
      let is : response_after k stream r t ≡ p
      = ap (λ (z : Response). response_after k stream z t) same.1 ∙ after_free q t (ap (λ (o : Option (List Field)). is_none o) same.0) in
      subst (Alike p) (sym is) (one_by p p.head refl)

  all_alike : (ts : List Traffic) (q r : Response) → Alike q r → Alike (fold (response_after m stream) q ts) (fold (response_after k stream) r ts)
  all_alike [] q r h = h
  all_alike (t ∷ ts) q r h = all_alike ts (response_after m stream q t) (response_after k stream r t) (step t q r h)

  has_too : (q r : Response) → Alike q r → HasHead q → HasHead r
  has_too q r (inl both) h = both.1
  has_too q r (inr same) h =
      let bad : false ≡ true = sym (ap (λ (o : Option (List Field)). is_some o) same.0) ∙ h in absurd (cc)

  pub any_length : (ts : List Traffic) → HasHead (response_in m stream ts) → HasHead (response_in k stream ts)
  any_length ts h = has_too (response_in m stream ts) (response_in k stream ts) (all_alike ts no_response no_response (inr (refl, refl))) h
