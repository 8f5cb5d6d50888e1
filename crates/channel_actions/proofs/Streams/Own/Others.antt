-- What is written on a link leaves what was written for every attempt that does not go on there: DATA is of an attempt that goes on, and no other has its stream.
use Rattle.attempt_ledger.specs.declared.row.Placed.{Placed}
use Rattle.grpc_frame.specs.Messages.{framed_all}
use Rattle.h2_frame.specs.Frames.{FrameSeen}
use Rattle.h2_frame.specs.Numbers.{data_type, headers_type, ping_type, rst_stream_type, settings_type, window_update_type}
use Rattle.h2_frame.specs.Sent.{data_frame, headers_frame}
use Rattle.channel_actions.proofs.KeptSessions.Along.{kept_stays}
use Rattle.channel_actions.proofs.KeptSessions.Lists.{all_at, all_get, counted_places, own_number}
use Rattle.channel_actions.specs.KeptSessions.Kept.{IsKept}
use Rattle.channel_actions.proofs.Links.Prefaced.Along.{prefaced_stays}
use Rattle.channel_actions.proofs.Streams.Own.Along.{frames_are_sendable, streams_stay}
use Rattle.channel_actions.proofs.Streams.Own.Steps.{Each, each_filter, each_from, first_has}
use Rattle.channel_actions.specs.OwnStreams.Laws.{WritesLeaveOthers, goes_on_at}
use Rattle.channel_actions.specs.OwnStreams.Own.{StreamsAreOwn}
use Rattle.session_actions.specs.Actions.{after, after_if}
use Rattle.session_actions.specs.Attempts.{call_of, is_outstanding, with_attempt}
use Rattle.session_actions.specs.Links.{frames_written, has_written_end, is_stream_before, written_in}
use Rattle.session_actions.specs.Reading.{is_data_on, is_outstanding_on, outstanding_on, used}
use Rattle.session_actions.specs.Words.{changed, earlier, foremost, holds, is_number, numbered}
use Rattle.session_actions.specs.Writing.{accepted_bytes, controls_written, data_for, data_len, data_of, data_on, drained, frame_written_on, has_begun, headers_for, is_control, may_open_stream, next_control, next_data, next_headers, next_stream, request_block, sendable, stream_opened, stream_opened_by, streaming_on, waiting_on, with_stream}
use Rattle.session_actions.specs.declared.action.Action.TheVariants as action
use Rattle.session_actions.specs.declared.action.Action.{Action}
use Rattle.session_actions.specs.declared.attempt.Attempt.{Attempt}
use Rattle.session_actions.specs.declared.call.Call.{Call}
use Rattle.session_actions.specs.declared.entry.OpenEntry.{OpenEntry}
use Rattle.session_actions.specs.declared.link.Link.{Link}
use Rattle.session_actions.specs.declared.link.Sent.TheVariants as sent
use Rattle.session_actions.specs.declared.link.Sent.{Sent}
use Rattle.session_actions.specs.declared.link.Traffic.TheVariants as traffic
use Rattle.session_actions.specs.declared.seen.Seen.{Seen}
use Rattle.session_order.proofs.Changed.{changed_away, changed_here}
use Rattle.std.proofs.Common.{Bool, List, None, Option, Some, [], ap, arith, drop, eqb-true, false, filter, filter_map, if◌then◌else◌, is_none, is_some, length, not, option_and_then, option_map, refl, slice_get, subst, suc, sym, take, true, ℕ, ◌&&◌, ◌++◌, ◌+◌, ◌-◌, ◌==◌, ◌||◌, ◌∙◌, ◌∷◌, ◌≡◌}
use Rattle.std.proofs.lemmas.Bool.{and_parts, eqb-false}
use Rattle.std.proofs.lemmas.List.Elements.{filter_map-append}
use Rattle.std.proofs.lemmas.List.Sums.{sum_by-append}
use Rattle.std.specs.List.{list_all, sum_by}
use Rattle.std.specs.Option.{option_map_or, option_or}
use Rattle.std.specs.Prelude.{nat_lt}

one_of : {X : Type 0} (o : Option X) (x y : X) → o ≡ Some x → o ≡ Some y → x ≡ y
one_of None x y e f = absurd (cc)
one_of (Some z) x y e f = (cc)

-- the foremost of those that pass a test
abbrev HasIf : {X : Type 0} → (X → Type 0) → Option X → Type 0
HasIf P None = Unit {0}
HasIf P (Some x) = P x

either_has : {X : Type 0} (P : X → Type 0) (b : Bool) (x y : X) → P x → P y → P (if b then y else x)
either_has P true x y p q = q
either_has P false x y p q = p

earlier_has : {X : Type 0} (P : X → Type 0) (before : X → X → Bool) (x : X) (o : Option X) → P x → HasIf P o → P (earlier before x o)
earlier_has P before x None p e = p
earlier_has P before x (Some y) p e = either_has P (before y x) x y p e

foremost_has : {X : Type 0} (P : X → Type 0) (before : X → X → Bool) (xs : List X) → Each P xs → HasIf P (foremost before xs)
foremost_has P before [] e = tt
foremost_has P before (x ∷ xs) e = earlier_has P before x (foremost before xs) e.0 (foremost_has P before xs e.1)

not_true : (b : Bool) → not b ≡ true → b ≡ false
not_true true e = let no : false ≡ true = e in absurd (cc)
not_true false e = refl

abbrev with_sent : Sent → Link → Link
with_sent x l = record l { traffic = l.traffic ++ traffic.Written x ∷ [] }

links_if : (s : Seen) (f : FrameSeen) (o : Option Attempt) → (option_map_or (λ (a : Attempt). with_attempt (with_stream f.stream) a.place s) o s).links ≡ s.links
links_if s f None = refl
links_if s f (Some a) = refl

links_by : (s : Seen) (l : Link) (f : FrameSeen) (b : Bool) → (if b then stream_opened f l s else s).links ≡ s.links
links_by s l f true = links_if s f (slice_get (waiting_on l s) 0)
links_by s l f false = refl

placed_by : (l : Link) (o : Option Placed) → holds (λ (p : Placed). p.link == l.number) o ≡ true → (p : Placed) × (o ≡ Some p) × (p.link ≡ l.number)
placed_by l None e = absurd (cc)
placed_by l (Some p) e = (p, refl, eqb-true p.link l.number e)

module _ (s : Seen) (l : Link) (kept : IsKept s) (own : StreamsAreOwn s) (line : numbered s.links l.number ≡ Some l) where
  abbrev IsThere : Attempt → Type 0
  IsThere a = numbered s.attempts a.place ≡ Some a

  are_there : Each IsThere s.attempts
  are_there = each_from IsThere s.attempts (λ i q at. own_number (λ (z : Attempt). z.place) s.attempts i q kept.attempts at)

  -- DATA is of an attempt that goes on
  abbrev IsOf : FrameSeen → Type 0
  IsOf f = (b : Attempt) × IsThere b × (is_outstanding_on l b ≡ true) × (b.row.stream ≡ Some f.stream)

  abbrev DataIf : Option Sent → Type 0
  DataIf None = Unit {0}
  DataIf (Some sent.Preface) = Unit {0}
  DataIf (Some (sent.Frame f)) = (f.kind == data_type) ≡ true → IsOf f

  data_or : (o p : Option Sent) → DataIf o → DataIf p → DataIf (option_or o p)
  data_or None p f g = g
  data_or (Some x) p f g = f

  data_if : (b : Bool) (o p : Option Sent) → DataIf o → DataIf p → DataIf (if b then o else p)
  data_if true o p f g = f
  data_if false o p f g = g

  data_then : {X : Type 0} (f : X → Option Sent) → ((x : X) → DataIf (f x)) → (o : Option X) → DataIf (option_and_then f o)
  data_then f each None = tt
  data_then f each (Some x) = each x

  no_data : (kind : ℕ) → ((kind == settings_type) || (kind == ping_type) || (kind == window_update_type) || (kind == rst_stream_type)) ≡ true → (kind == data_type) ≡ true → ⊥
  no_data kind control e =
      let is : kind ≡ data_type = eqb-true kind data_type e in
      let no : false ≡ true = sym (ap (λ (n : ℕ). (n == settings_type) || (n == ping_type) || (n == window_update_type) || (n == rst_stream_type)) is) ∙ control in absurd (cc)

  control_data : (n : ℕ) (o : Option FrameSeen) → slice_get l.owed n ≡ o → list_all is_control l.owed ≡ true → DataIf (option_map (λ (f : FrameSeen). sent.Frame f) o)
  control_data n None got e = tt
  control_data n (Some f) got e = λ kind. absurd (no_data f.kind (all_get is_control l.owed n f e got) kind)

  headers_data : (a : Attempt) (o : Option Call) → DataIf (option_map (λ (c : Call). sent.Frame (headers_frame (next_stream l) (request_block c a l s))) o)
  headers_data a None = tt
  headers_data a (Some c) = λ kind. absurd (let no : false ≡ true = kind in (cc))

  data_by : (b : Attempt) (stream : ℕ) (content : List ℕ) (ends c : Bool) → IsThere b → is_outstanding_on l b ≡ true → b.row.stream ≡ Some stream
      → DataIf (if c then Some (sent.Frame (data_frame stream content ends)) else None)
  data_by b stream content ends true there goes has = λ kind. (b, there, goes, has)
  data_by b stream content ends false there goes has = tt

  data_on_of : (b : Attempt) (stream : ℕ) (c : Call) (w : Bool) (len : ℕ) → IsThere b → is_outstanding_on l b ≡ true → b.row.stream ≡ Some stream
      → DataIf (if w then None else data_of c l stream len)
  data_on_of b stream c true len there goes has = tt
  data_on_of b stream c false len there goes has =
      let done : ℕ = used stream l in
      let ends : Bool = c.finished && (done + len == accepted_bytes c) in
      data_by b stream (take len (drop done (framed_all c.messages))) ends (nat_lt 0 len || ends) there goes has

  data_of_row : (b : Attempt) (o : Option ℕ) → b.row.stream ≡ o → IsThere b → is_outstanding_on l b ≡ true
      → DataIf (option_and_then (λ (stream : ℕ). option_and_then (data_on l stream) (call_of b s)) o)
  data_of_row b None has there goes = tt
  data_of_row b (Some stream) has there goes =
      data_then (data_on l stream) (λ c. data_on_of b stream c (has_written_end stream l) (data_len l stream (accepted_bytes c - used stream l)) there goes has) (call_of b s)

  data_first : (o : Option Attempt) → HasIf (λ (b : Attempt). IsThere b × (is_outstanding_on l b ≡ true)) o → DataIf (option_and_then (data_for l s) o)
  data_first None has = tt
  data_first (Some b) has = data_of_row b b.row.stream refl has.0 has.1

  abbrev Continues : Attempt → Type 0
  Continues b = IsThere b × (is_outstanding_on l b ≡ true)

  going : Each Continues (outstanding_on l s)
  going = each_filter IsThere (is_outstanding_on l) s.attempts are_there

  less : {X : Type 0} (P Q : X → Type 0) → ((x : X) → P x → Q x) → (xs : List X) → Each P xs → Each Q xs
  less P Q wide [] e = tt
  less P Q wide (x ∷ xs) e = (wide x e.0, less P Q wide xs e.1)

  streaming : Each Continues (filter (λ (a : Attempt). is_some (data_for l s a)) (streaming_on l s))
  streaming =
      less (λ b. Continues b × (is_some (data_for l s b) ≡ true)) Continues (λ b e. e.0) (filter (λ (a : Attempt). is_some (data_for l s a)) (streaming_on l s))
      (each_filter Continues (λ (a : Attempt). is_some (data_for l s a)) (streaming_on l s)
      (less (λ b. Continues b × (is_some b.row.stream ≡ true)) Continues (λ b e. e.0) (streaming_on l s) (each_filter Continues (λ (a : Attempt). is_some a.row.stream) (outstanding_on l s) going)))

  sends_data : list_all is_control l.owed ≡ true → DataIf (sendable l s)
  sends_data e =
      data_if (not (has_begun l)) (Some sent.Preface) (option_or (next_control l) (option_or (next_headers l s) (next_data l s))) tt
      (data_or (next_control l) (option_or (next_headers l s) (next_data l s)) (control_data (controls_written l) (slice_get l.owed (controls_written l)) refl e)
      (data_or (next_headers l s) (next_data l s)
      (data_if (may_open_stream l s) (option_and_then (headers_for l s) (slice_get (waiting_on l s) 0)) None
      (data_then (headers_for l s) (λ a. headers_data a (call_of a s)) (slice_get (waiting_on l s) 0)) tt)
      (data_first (foremost is_stream_before (filter (λ (a : Attempt). is_some (data_for l s a)) (streaming_on l s)))
      (foremost_has Continues is_stream_before (filter (λ (a : Attempt). is_some (data_for l s a)) (streaming_on l s)) streaming))))

  data_is : (o : Option Sent) (f : FrameSeen) → o ≡ Some (sent.Frame f) → DataIf o → (f.kind == data_type) ≡ true → IsOf f
  data_is o f is e = subst DataIf is e

  -- an attempt that does not go on there
  module _ (i : ℕ) (a : Attempt) (got : slice_get s.attempts i ≡ Some a) (off : goes_on_at l.number a ≡ false) where
    not_it : (b : Attempt) → IsThere b → is_outstanding_on l b ≡ true → suc i ≡ b.place → ⊥
    not_it b there goes at =
        let same : a ≡ b = one_of (numbered s.attempts b.place) a b (sym (ap (numbered s.attempts) at) ∙ got) there in
        let no : false ≡ true = sym off ∙ (ap (goes_on_at l.number) same ∙ goes) in absurd (cc)

    -- no DATA is of its stream
    not_own : (n : ℕ) (at : Placed) (f : FrameSeen) → a.row.stream ≡ Some n → a.row.placed ≡ Some at → at.link ≡ l.number → IsOf f → f.stream ≡ n → ⊥
    not_own n at f has on here of is =
        let to : (p : Placed) × (of.0.row.placed ≡ Some p) × (p.link ≡ l.number)
        = placed_by l of.0.row.placed (and_parts (is_outstanding of.0) (holds (λ (p : Placed). p.link == l.number) of.0.row.placed) of.2).1 in
        let same : suc i ≡ of.0.place
        = own.apart (suc i) of.0.place n a of.0 at to.0 got of.1 on to.1 (here ∙ sym to.2) has (of.3 ∙ ap (λ (k : ℕ). Some k) is) in
        not_it of.0 of.1 of.2 same

    other_data : (n : ℕ) (at : Placed) (f : FrameSeen) (d z w : Bool) → a.row.stream ≡ Some n → a.row.placed ≡ Some at → at.link ≡ l.number → (d ≡ true → IsOf f)
        → (n == 0) ≡ z → z ≡ false → (f.stream == n) ≡ w → (d && (z || w)) ≡ false
    other_data n at f false z w has on here of zero_ nz is = refl
    other_data n at f true true w has on here of zero_ nz is = absurd (cc)
    other_data n at f true false false has on here of zero_ nz is = refl
    other_data n at f true false true has on here of zero_ nz is = absurd (not_own n at f has on here (of refl) (eqb-true f.stream n is))

    -- so nothing is added to what was written on it
    used_more : (n : ℕ) (x : Sent) → used n (with_sent x l) ≡ used n l + sum_by (λ (f : FrameSeen). if is_data_on n f then length f.payload else 0) (filter_map written_in (traffic.Written x ∷ []))
    used_more n x =
        ap (sum_by (λ (f : FrameSeen). if is_data_on n f then length f.payload else 0)) (filter_map-append written_in l.traffic (traffic.Written x ∷ []))
        ∙ sum_by-append (λ (f : FrameSeen). if is_data_on n f then length f.payload else 0) (frames_written l) (filter_map written_in (traffic.Written x ∷ []))

    plus_none : (c : ℕ) → c + 0 ≡ c
    plus_none c = omega arith

    stream_not : (n : ℕ) → a.row.stream ≡ Some n → (n == 0) ≡ false
    stream_not n has =
        let sound : not (is_number 0 a.row.stream) ≡ true = all_get (λ (q : Attempt). not (is_number 0 q.row.stream)) s.attempts i a kept.streams got in
        not_true (n == 0) (sym (ap (λ (o : Option ℕ). not (is_number 0 o)) has) ∙ sound)

    used_same : (n : ℕ) (at : Placed) (x : Sent) → a.row.stream ≡ Some n → a.row.placed ≡ Some at → at.link ≡ l.number → sendable l s ≡ Some x → list_all is_control l.owed ≡ true
        → used n (with_sent x l) ≡ used n l
    used_same n at sent.Preface has on here sends e = used_more n sent.Preface ∙ plus_none (used n l)
    used_same n at (sent.Frame f) has on here sends e =
        let off_ : is_data_on n f ≡ false
        = other_data n at f (f.kind == data_type) (n == 0) (f.stream == n) has on here (data_is (sendable l s) f sends (sends_data e)) refl (stream_not n has) refl in
        used_more n (sent.Frame f)
        ∙ (ap (λ (b : Bool). used n l + (0 + (if b then length f.payload else 0))) off_ ∙ plus_none (used n l))

    -- on another link, or on this
    link_by : (n : ℕ) (at : Placed) (x : Sent) (b : Bool) → a.row.stream ≡ Some n → a.row.placed ≡ Some at → (at.link == l.number) ≡ b → sendable l s ≡ Some x → list_all is_control l.owed ≡ true
        → option_map_or (used n) (numbered (changed (with_sent x) l.number s.links) at.link) 0 ≡ option_map_or (used n) (numbered s.links at.link) 0
    link_by n at x false has on is sends e =
        ap (λ (o : Option Link). option_map_or (used n) o 0) (changed_away (with_sent x) l.number at.link s.links (eqb-false at.link l.number is))
    link_by n at x true has on is sends e =
        let here : at.link ≡ l.number = eqb-true at.link l.number is in
        ap (λ (k : ℕ). option_map_or (used n) (numbered (changed (with_sent x) l.number s.links) k) 0) here
        ∙ (ap (λ (o : Option Link). option_map_or (used n) o 0) (changed_here (with_sent x) l.number s.links l line)
        ∙ (used_same n at x has on here sends e
        ∙ (sym (ap (λ (o : Option Link). option_map_or (used n) o 0) line) ∙ sym (ap (λ (k : ℕ). option_map_or (used n) (numbered s.links k) 0) here))))

    placed_same : (n : ℕ) (p : Option Placed) (x : Sent) → a.row.stream ≡ Some n → a.row.placed ≡ p → sendable l s ≡ Some x → list_all is_control l.owed ≡ true
        → option_map_or (used n) (option_and_then (λ (at : Placed). numbered (changed (with_sent x) l.number s.links) at.link) p) 0
        ≡ option_map_or (used n) (option_and_then (λ (at : Placed). numbered s.links at.link) p) 0
    placed_same n None x has on sends e = refl
    placed_same n (Some at) x has on sends e = link_by n at x (at.link == l.number) has on refl sends e

    drained_by : (q : Option ℕ) (x : Sent) → a.row.stream ≡ q → sendable l s ≡ Some x → list_all is_control l.owed ≡ true
        → option_map_or (λ (n : ℕ). option_map_or (used n) (option_and_then (λ (at : Placed). numbered (changed (with_sent x) l.number s.links) at.link) a.row.placed) 0) q 0
        ≡ option_map_or (λ (n : ℕ). option_map_or (used n) (option_and_then (λ (at : Placed). numbered s.links at.link) a.row.placed) 0) q 0
    drained_by None x has sends e = refl
    drained_by (Some n) x has sends e = placed_same n a.row.placed x has refl sends e

    -- it has no new stream
    first_goes : (b : Attempt) → slice_get (waiting_on l s) 0 ≡ Some b → Continues b
    first_goes b at =
        (first_has (λ q. Continues q × (is_none q.row.stream ≡ true)) (waiting_on l s) b at (each_filter Continues (λ (q : Attempt). is_none q.row.stream) (outstanding_on l s) going)).0

    row_by : (f : FrameSeen) (o : Option Attempt) → slice_get (waiting_on l s) 0 ≡ o
        → slice_get (option_map_or (λ (b : Attempt). with_attempt (with_stream f.stream) b.place s) o s).attempts i ≡ Some a
    row_by f None at = got
    row_by f (Some b) at =
        let goes : Continues b = first_goes b at in changed_away (with_stream f.stream) b.place (suc i) s.attempts (λ same. not_it b goes.0 goes.1 same) ∙ got

    row_if : (f : FrameSeen) (b : Bool) → slice_get (if b then stream_opened f l s else s).attempts i ≡ Some a
    row_if f true = row_by f (slice_get (waiting_on l s) 0) refl
    row_if f false = got

    row_same : (x : Sent) → slice_get (stream_opened_by x l s).attempts i ≡ Some a
    row_same sent.Preface = got
    row_same (sent.Frame f) = row_if f (f.kind == headers_type)

    links_same : (x : Sent) → (stream_opened_by x l s).links ≡ s.links
    links_same sent.Preface = refl
    links_same (sent.Frame f) = links_by s l f (f.kind == headers_type)

    drained_same : (x : Sent) → sendable l s ≡ Some x → list_all is_control l.owed ≡ true → drained a (frame_written_on x s l) ≡ drained a s
    drained_same x sends e =
        ap (λ (ls : List Link). option_map_or (λ (n : ℕ). option_map_or (used n) (option_and_then (λ (at : Placed). numbered (changed (with_sent x) l.number ls) at.link) a.row.placed) 0) a.row.stream 0)
        (links_same x)
        ∙ drained_by a.row.stream x refl sends e

-- one frame, and several
abbrev IsLeft : ℕ → Attempt → Seen → Seen → Type 0
IsLeft i a s t = (slice_get t.attempts i ≡ Some a) × (drained a t ≡ drained a s)

one_link : (s : Seen) (link : ℕ) (x : Sent) (i : ℕ) (a : Attempt) (o : Option Link) → IsKept s → StreamsAreOwn s → numbered s.links link ≡ o
    → ((l : Link) → numbered s.links link ≡ Some l → sendable l s ≡ Some x) → slice_get s.attempts i ≡ Some a → goes_on_at link a ≡ false
    → IsLeft i a s (option_map_or (frame_written_on x s) o s)
one_link s link x i a None kept own at sends got off = (got, refl)
one_link s link x i a (Some l) kept own at sends got off =
    let here : l.number ≡ link = counted_places (λ (k : Link). k.number) s.links kept.links link l at in
    let line : numbered s.links l.number ≡ Some l = ap (numbered s.links) here ∙ at in
    let away : goes_on_at l.number a ≡ false = ap (λ (k : ℕ). goes_on_at k a) here ∙ off in
    (row_same s l kept own line i a got away x, drained_same s l kept own line i a got away x (sends l at) (all_at (λ (k : Link). list_all is_control k.owed) s.links link l kept.queued at))

one_entry : (c : Option OpenEntry) (s : Seen) (link : ℕ) (x : Sent) (i : ℕ) (a : Attempt) → IsKept s → StreamsAreOwn s
    → ((l : Link) → numbered s.links link ≡ Some l → sendable l s ≡ Some x) → slice_get s.attempts i ≡ Some a → goes_on_at link a ≡ false
    → IsLeft i a s (after_if c (action.FrameWritten link x) s)
one_entry None s link x i a kept own sends got off = (got, refl)
one_entry (Some o) s link x i a kept own sends got off = one_link s link x i a (numbered s.links link) kept own refl sends got off

pub writes_leave_others : WritesLeaveOthers
writes_leave_others [] link s t kept prefaced own does i a got off =
    (ap (λ (u : Seen). slice_get u.attempts i) does ∙ got, ap (drained a) does)
writes_leave_others (x ∷ sent) link s t kept prefaced own does i a got off =
    let act : Action = action.FrameWritten link x in
    let one : IsLeft i a s (after act s)
    = one_entry s.current s link x i a kept own (λ l at. frames_are_sendable s link x l kept prefaced does.0 at) got off in
    let rest : IsLeft i a (after act s) t
    = writes_leave_others sent link (after act s) t (kept_stays s act kept does.0) (prefaced_stays s act kept prefaced does.0) (streams_stay s act kept prefaced own does.0) does.1 i a one.0 off in
    (rest.0, rest.1 ∙ one.1)
