-- What passes on one stream changes nothing of what came on another one, nor of what was written on it.
use Rattle.attempt_ledger.specs.declared.row.RowCause.TheVariants as cause
use Rattle.attempt_ledger.specs.declared.row.RowEnd.{RowEnd}
use Rattle.grpc_base.specs.ErrorCodes.{cancel}
use Rattle.grpc_base.specs.declared.code.Code.TheVariants as code
use Rattle.h2_frame.specs.Frames.{FrameSeen}
use Rattle.h2_frame.specs.Numbers.{data_type, goaway_type}
use Rattle.h2_frame.specs.Payloads.{last_stream}
use Rattle.session_actions.specs.Deliveries.{response_items}
use Rattle.session_actions.specs.Links.{is_settings, written_in}
use Rattle.session_actions.specs.Reading.{is_data_on}
use Rattle.session_actions.specs.Responses.{ended, initial_after, is_read_by, no_response, plain_end, response_after, response_in, traffic_by, traffic_of, with_stream_frame, with_traffic}
use Rattle.session_actions.specs.declared.attempt.Attempt.{Attempt}
use Rattle.session_actions.specs.declared.link.ReadFrame.{ReadFrame}
use Rattle.session_actions.specs.declared.link.Sent.TheVariants as sent
use Rattle.session_actions.specs.declared.link.Traffic.TheVariants as traffic
use Rattle.session_actions.specs.declared.link.Traffic.{Traffic}
use Rattle.session_actions.specs.declared.response.Response.{Response}
use Rattle.std.proofs.Common.{Bool, List, None, Option, Some, [], ap, arith, false, filter_map, fold, if◌then◌else◌, is_some, length, nat_lt, refl, sum_by, true, ℕ, ◌&&◌, ◌++◌, ◌+◌, ◌==◌, ◌||◌, ◌∙◌, ◌∷◌, ◌≡◌}
use Rattle.std.proofs.lemmas.List.Elements.{filter_map-append}
use Rattle.std.proofs.lemmas.List.Sums.{fold-append, sum_by-append}
use Rattle.std.specs.Option.{option_map_or}

-- what passes is of another stream than this one; and this is a stream of an attempt, where something is written
abbrev pub IsOff : ℕ → Traffic → Type 0
IsOff stream (traffic.Read r) = (r.frame.stream == stream) ≡ false
IsOff stream (traffic.Written (sent.Frame f)) = ((stream == 0) ≡ false) × ((f.stream == stream) ≡ false)
IsOff stream (traffic.Written sent.Preface) = Unit {0}

-- the items of a response are its head and its messages
module _ (limit stream : ℕ) where
  read_if : (p : Response) (r : ReadFrame) (x y z : Bool) → z ≡ false
      → response_items (if x then record p { initial = initial_after p.initial r.frame } else if y then ended (plain_end code.Unavailable cause.Goaway true (Some cancel)) p
      else if z then with_stream_frame limit p r.frame r.block else p) ≡ response_items p
  read_if p r true y z off = refl
  read_if p r false true z off = refl
  read_if p r false false false off = refl
  read_if p r false false true off = absurd (cc)

  written_if : (p : Response) (f : FrameSeen) (b : Bool) → response_items (if b then record p { used = p.used + length f.payload } else p) ≡ response_items p
  written_if p f true = refl
  written_if p f false = refl

  -- the stream of what passes is another one
  passed : (p : Response) (x : Traffic) → IsOff stream x → response_items (with_traffic limit stream p x) ≡ response_items p
  passed p (traffic.Read r) off =
      read_if p r (is_settings r.frame) ((r.frame.kind == goaway_type) && nat_lt (last_stream r.frame.payload) stream) (r.frame.stream == stream) off
  passed p (traffic.Written (sent.Frame f)) off = written_if p f ((f.kind == data_type) && (f.stream == stream))
  passed p (traffic.Written sent.Preface) off = refl

  after_if : (p : Response) (x : Traffic) (b : Bool) → IsOff stream x → response_items (if b then p else with_traffic limit stream p x) ≡ response_items p
  after_if p x true off = refl
  after_if p x false off = passed p x off

  one_more : (ts : List Traffic) (x : Traffic) → IsOff stream x → response_items (response_in limit stream (ts ++ x ∷ [])) ≡ response_items (response_in limit stream ts)
  one_more ts x off =
      ap response_items (fold-append (response_after limit stream) no_response ts (x ∷ []))
      ∙ after_if (response_in limit stream ts) x (is_some (response_in limit stream ts).end || (response_in limit stream ts).large) off

  -- up to what the end of an attempt saw
  by_one : (seen : ℕ) (x : Traffic) (b : Bool) (p : Response) → IsOff stream x
      → response_items (fold (response_after limit stream) p (if b then x ∷ [] else [])) ≡ response_items p
  by_one seen x true p off = after_if p x (is_some p.end || p.large) off
  by_one seen x false p off = refl

  by_if : (seen : ℕ) (t x : Traffic) (ts : List Traffic) (b : Bool) (p : Response)
      → ((q : Response) → response_items (fold (response_after limit stream) q (traffic_by seen (ts ++ x ∷ []))) ≡ response_items (fold (response_after limit stream) q (traffic_by seen ts)))
      → response_items (fold (response_after limit stream) p (if b then t ∷ traffic_by seen (ts ++ x ∷ []) else []))
      ≡ response_items (fold (response_after limit stream) p (if b then t ∷ traffic_by seen ts else []))
  by_if seen t x ts true p rest = rest (response_after limit stream p t)
  by_if seen t x ts false p rest = refl

  by_more : (seen : ℕ) (x : Traffic) → IsOff stream x → (ts : List Traffic) (p : Response)
      → response_items (fold (response_after limit stream) p (traffic_by seen (ts ++ x ∷ []))) ≡ response_items (fold (response_after limit stream) p (traffic_by seen ts))
  by_more seen x off [] p = by_one seen x (is_read_by seen x) p off
  by_more seen x off (t ∷ ts) p = by_if seen t x ts (is_read_by seen t) p (λ q. by_more seen x off ts q)

  of_by : (o : Option RowEnd) (ts : List Traffic) (x : Traffic) → IsOff stream x
      → response_items (response_in limit stream (option_map_or (λ (e : RowEnd). traffic_by e.seen (ts ++ x ∷ [])) o (ts ++ x ∷ [])))
      ≡ response_items (response_in limit stream (option_map_or (λ (e : RowEnd). traffic_by e.seen ts) o ts))
  of_by None ts x off = one_more ts x off
  of_by (Some e) ts x off = by_more e.seen x off ts no_response

  pub items_more : (a : Attempt) (ts : List Traffic) (x : Traffic) → IsOff stream x
      → response_items (response_in limit stream (traffic_of a (ts ++ x ∷ []))) ≡ response_items (response_in limit stream (traffic_of a ts))
  items_more a ts x off = of_by a.row.ended ts x off

-- what was written on it
module _ (stream : ℕ) where
  abbrev data_bytes : FrameSeen → ℕ
  data_bytes f = if is_data_on stream f then length f.payload else 0

  frame_by : (f : FrameSeen) (kind zero_stream own : Bool) → zero_stream ≡ false → own ≡ false → (if kind && (zero_stream || own) then length f.payload else 0) ≡ 0
  frame_by f true false false e off = refl
  frame_by f false zero_stream own e off = refl
  frame_by f true true own e off = absurd (cc)
  frame_by f true false true e off = absurd (cc)

  frame_off : (f : FrameSeen) → ((stream == 0) ≡ false) × ((f.stream == stream) ≡ false) → data_bytes f ≡ 0
  frame_off f off = frame_by f (f.kind == data_type) (stream == 0) (f.stream == stream) off.0 off.1

  sent_off : (x : Traffic) → IsOff stream x → sum_by data_bytes (filter_map written_in (x ∷ [])) ≡ 0
  sent_off (traffic.Read r) off = refl
  sent_off (traffic.Written sent.Preface) off = refl
  sent_off (traffic.Written (sent.Frame f)) off = ap (λ (n : ℕ). 0 + n) (frame_off f off)

  pub used_more : (ts : List Traffic) (x : Traffic) → IsOff stream x → sum_by data_bytes (filter_map written_in (ts ++ x ∷ [])) ≡ sum_by data_bytes (filter_map written_in ts)
  used_more ts x off =
      let none : sum_by data_bytes (filter_map written_in (x ∷ [])) ≡ 0 = sent_off x off in
      let right : sum_by data_bytes (filter_map written_in ts) + 0 ≡ sum_by data_bytes (filter_map written_in ts) = omega arith in
      ap (sum_by data_bytes) (filter_map-append written_in ts (x ∷ [])) ∙ sum_by-append data_bytes (filter_map written_in ts) (filter_map written_in (x ∷ []))
      ∙ ap (λ (n : ℕ). sum_by data_bytes (filter_map written_in ts) + n) none ∙ right
