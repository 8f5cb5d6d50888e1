-- GOAWAY was read: those that wait for a stream and those whose streams it leaves out are to end, and nothing else is new.
use Rattle.std.proofs.Common.{◌≡◌, ◌&&◌, ◌||◌, ◌==◌, ap, refl, subst, sym, ◌∙◌, not, Bool, true, false, List, [], Option, None, Some, ℕ, if◌then◌else◌, is_none, is_some, nat_lt, slice_get, suc}
use Rattle.std.proofs.lemmas.Bool.{eq-eqb, eqb-false, eqb-true}
use Rattle.std.specs.List.{list_all}
use Rattle.std.specs.Option.{option_map_or, option_or}
use Rattle.std.specs.Prelude.{option_and_then, unwrap_or}
use Rattle.attempt_ledger.specs.declared.row.Placed.{Placed}
use Rattle.attempt_ledger.specs.declared.row.RowEnd.{RowEnd}
use Rattle.call_actions.specs.TakeActions.Serves.{came}
use Rattle.channel_actions.proofs.Gone.{all_numbered}
use Rattle.channel_actions.specs.Links.{lines_in}
use Rattle.channel_core.specs.States.{StateSeen}
use Rattle.channel_core.specs.Tables.{Received, received_in}
use Rattle.frame_cases.proofs.OwnFrames.Frame as frame
use Rattle.frame_cases.proofs.QuietFrames.Lines as lines
use Rattle.frame_cases.proofs.QuietFrames.ReadStill as read
use Rattle.frame_cases.proofs.RetiredLinks.Shapes.{AfterGoaway, IsPlainEnd, is_left, out_for}
use Rattle.frame_cases.specs.PieceWalks.Points.{IsReceiving}
use Rattle.grpc_base.specs.ErrorCodes.{cancel}
use Rattle.grpc_base.specs.declared.fields.Field.{Field}
use Rattle.h2_frame.specs.Frames.{FrameSeen}
use Rattle.h2_frame.specs.Numbers.{goaway_type, settings_type}
use Rattle.h2_frame.specs.Payloads.{last_stream}
use Rattle.h2_link.specs.Wire.{Wire}
use Rattle.link_actions.proofs.Receiving.{not_kind, of_settings}
use Rattle.link_actions.proofs.History.{retiring_more, settings_more}
use Rattle.link_actions.proofs.LossActions.Losses.{link_is}
use Rattle.link_actions.proofs.LossActions.Over.{all_go}
use Rattle.link_actions.proofs.ReaderActions.Goaways.{goaway_leaves}
use Rattle.link_actions.proofs.ResponseActions.Counted.{response_saw}
use Rattle.link_actions.proofs.StreamActions.Closes.{goes_open}
use Rattle.link_actions.proofs.StreamActions.EndCodes.{goaway_ended}
use Rattle.link_actions.proofs.StreamActions.Going.{response_is}
use Rattle.link_actions.specs.LossActions.Sees.{IsGoing}
use Rattle.link_actions.specs.ResponseActions.Laws.{left_out_end}
use Rattle.link_actions.specs.StreamActions.Laws.{Comes, IsOn, is_left_out}
use Rattle.link_actions.specs.StreamActions.Sees.{SeesStreams, response_of}
use Rattle.session_actions.specs.AttemptEnds.{code_for_stream, code_to_reset, is_framing, lost_end, outcome_of, outcome_on, reset_code_of, unsent_end, with_end}
use Rattle.session_actions.specs.Attempts.{commitment, is_commitment, is_outstanding, is_over}
use Rattle.session_actions.specs.Deliveries.{response_items}
use Rattle.session_actions.specs.Entries.{entry}
use Rattle.session_actions.specs.Links.{has_settings, has_written_end, is_retiring, is_settings, link_of, read_bytes}
use Rattle.session_actions.specs.Reading.{is_outstanding_on}
use Rattle.session_actions.specs.Responses.{ended, is_read_by, limit_of_attempt, response, response_by, response_on, no_response}
use Rattle.session_actions.specs.Words.{holds, numbered}
use Rattle.session_actions.specs.Writing.{next_frame_read, with_frame_read}
use Rattle.session_actions.specs.declared.action.Action.TheVariants as action
use Rattle.session_actions.specs.declared.attempt.Attempt.{Attempt}
use Rattle.session_actions.specs.declared.call.Call.{Call}
use Rattle.session_actions.specs.declared.entry.OpenEntry.{OpenEntry}
use Rattle.session_actions.specs.declared.link.Link.{Link}
use Rattle.session_actions.specs.declared.link.LinkOver.{LinkOver}
use Rattle.session_actions.specs.declared.link.ReadFrame.{ReadFrame}
use Rattle.session_actions.specs.declared.response.Outcome.{Outcome}
use Rattle.session_actions.specs.declared.response.Response.{Response}
use Rattle.session_actions.specs.declared.seen.Seen.{Seen}
use Rattle.session_order.proofs.Begun.{last_in}
use Rattle.session_order.proofs.Changed.{changed_away, passes_not}
use Rattle.session_order.specs.Quiescent.{is_to_end}
use Rattle.session_order.specs.declared.line.Line.TheVariants as line

-- a response has come so far and no further, however it ends
record HasNoMore (p q : Response) : Type 0 where
  head : q.head ≡ p.head
  messages : q.messages ≡ p.messages
  large : q.large ≡ p.large

no_more_self : (p : Response) → HasNoMore p p
no_more_self p = record { head = refl; messages = refl; large = refl }

items_same : (p q : Response) → HasNoMore p q → response_items q ≡ response_items p
items_same p q is =
    ap (λ (h : Option (List Field)). response_items (record q { head = h })) is.head ∙ ap (λ (ms : List (List ℕ)). response_items (record q { head = p.head; messages = ms })) is.messages

or_last : (b : Bool) → (b || true) ≡ true
or_last true = refl
or_last false = refl

and_last : (b : Bool) → (b && false) ≡ false
and_last true = refl
and_last false = refl

both_true : (a b : Bool) → (a && b) ≡ true → (a ≡ true) × (b ≡ true)
both_true true b e = (refl, e)
both_true false b e = absurd (cc)

never : (b : Bool) → b ≡ true → b ≡ false → ⊥
never true e h = (cc)
never false e h = (cc)

is_reset_not : (p q : Bool) → p ≡ false → (p || not q) ≡ true → q ≡ false
is_reset_not true q e h = absurd (never true refl e)
is_reset_not false true e h = absurd (never false h refl)
is_reset_not false false e h = refl

is_on : (l : Link) (a : Attempt) (at : Placed) → a.row.placed ≡ Some at → a.row.ended ≡ None → at.link ≡ l.number → is_outstanding_on l a ≡ true
is_on l a at placed goes same =
    ap (λ (p : Option Placed). (is_some p && is_none a.row.ended) && holds (λ (q : Placed). q.link == l.number) p) placed
    ∙ ap (λ (e : Option RowEnd). is_none e && (at.link == l.number)) goes ∙ eq-eqb at.link l.number same

no_end : (e : Option RowEnd) → is_none e ≡ true → is_some e ≡ false
no_end None h = refl
no_end (Some e) h = absurd (cc)

module _ (link : ℕ) (piece : List ℕ) (x : StateSeen) (o : OpenEntry) (s : Seen) (is : IsReceiving link piece x o s) (h : Received) (r : ReadFrame)
    (next : next_frame_read link s ≡ Some (action.FrameRead link r)) (receives : received_in link piece x.links ≡ Some h) (goes : (r.frame.kind == goaway_type) ≡ true) where
  abbrev l : Link
  l = is.l

  abbrev m : Link
  m = read.m link piece x o s is h r next receives

  abbrev t : Seen
  t = read.t link piece x o s is h r next receives

  abbrev last : ℕ
  last = last_stream r.frame.payload

  abbrev frames : List FrameSeen
  frames = read.frames link piece x o s is h r next receives

  abbrev w : Wire
  w = read.w link piece x o s is h r next receives

  own : l.number ≡ link
  own = read.own link piece x o s is h r next receives

  kind : r.frame.kind ≡ goaway_type
  kind = eqb-true r.frame.kind goaway_type goes

  streams : SeesStreams l s w (lines_in l s)
  streams = (read.going link piece x o s is h r next receives).streams

  comes : Comes l w r
  comes = (read.come link piece x o s is h r next receives).comes

  unbroken : l.over ≡ None
  unbroken = (read.shown link piece x o s is h r next receives).unbroken

  here : numbered s.links l.number ≡ Some l
  here = read.here_own link piece x o s is h r next receives

  here_t : numbered t.links l.number ≡ Some m
  here_t = ap (numbered t.links) own ∙ read.there link piece x o s is h r next receives

  places : (i : ℕ) (a : Attempt) → numbered s.attempts i ≡ Some a → a.place ≡ i
  places = read.places link piece x o s is h r next receives

  retiring : is_retiring m ≡ true
  retiring = retiring_more l r frames ∙ ap (λ (b : Bool). is_retiring l || b) goes ∙ or_last (is_retiring l)

  no_settings : is_settings r.frame ≡ false
  no_settings = of_settings r.frame.kind r.frame.flags (not_kind r.frame.kind goaway_type settings_type false kind refl)

  or_none : (b : Bool) → (b || false) ≡ b
  or_none true = refl
  or_none false = refl

  settings : has_settings m ≡ has_settings l
  settings = settings_more l r frames ∙ ap (λ (b : Bool). has_settings l || b) no_settings ∙ or_none (has_settings l)

  -- the response on a stream of the link
  low_same : (n : ℕ) (a : Attempt) → IsOn l s n a → nat_lt last n ≡ false → response_of m t n a ≡ response_of l s n a
  low_same n a on low =
      subst (λ (v : Seen). response_of m v n a ≡ response_of l s n a) (read.on_is link piece x o s is h r next receives) (goaway_leaves l s w (lines_in l s) r n a streams comes kind on low)

  high_ended : (n : ℕ) (a : Attempt) → IsOn l s n a → nat_lt last n ≡ true → response_of m t n a ≡ ended left_out_end (response_of l s n a)
  high_ended n a on high =
      subst (λ (v : Seen). response_of m v n a ≡ ended left_out_end (response_of l s n a)) (read.on_is link piece x o s is h r next receives)
      (goaway_ended l s w (lines_in l s) r a n streams on goes high)

  new_by : (n : ℕ) (a : Attempt) (b : Bool) → nat_lt last n ≡ b → IsOn l s n a → HasNoMore (response_of l s n a) (response_of m t n a)
  new_by n a true e on = subst (HasNoMore (response_of l s n a)) (sym (high_ended n a on e)) (record { head = refl; messages = refl; large = refl })
  new_by n a false e on = subst (HasNoMore (response_of l s n a)) (sym (low_same n a on e)) (no_more_self (response_of l s n a))

  no_more : (i : ℕ) (a : Attempt) → numbered s.attempts i ≡ Some a → HasNoMore (response a s) (response a t)
  no_more i a got =
      lines.each_new s link l is.here own r frames (Some o) places (read.less link piece x o s is h r next receives) (λ (z : Attempt). Unit {0}) HasNoMore no_more_self
      (λ n z on its. new_by n z (nat_lt last n) refl on) i a got tt

  came_by : (k : Option Attempt) → ((q : Attempt) → k ≡ Some q → HasNoMore (response q s) (response q t))
      → option_map_or (λ (q : Attempt). response_items (response q t)) k [] ≡ option_map_or (λ (q : Attempt). response_items (response q s)) k []
  came_by None each = refl
  came_by (Some q) each = items_same (response q s) (response q t) (each q refl)

  came_same : (c : Call) → came c t ≡ came c s
  came_same c =
      came_by (commitment c s)
      (λ q e. let one : (i : ℕ) × (slice_get s.attempts i ≡ Some q) = last_in (is_commitment c) s.attempts q e in no_more (suc one.0) q one.1)

  -- an attempt on the link
  on_number : (a : Attempt) → is_outstanding_on l a ≡ true → (q : Link) → q.number ≡ l.number → is_outstanding_on q a ≡ true
  on_number a out q same = ap (λ (n : ℕ). is_outstanding a && holds (λ (at : Placed). at.link == n) a.row.placed) same ∙ out

  link_t : (a : Attempt) → is_outstanding_on l a ≡ true → link_of a t ≡ Some m
  link_t a out = link_is m t a here_t (on_number a out m refl)

  there_place : (i : ℕ) (a : Attempt) → numbered s.attempts i ≡ Some a → numbered s.attempts a.place ≡ Some a
  there_place i a got = ap (numbered s.attempts) (places i a got) ∙ got

  on_stream : (i n : ℕ) (a : Attempt) → numbered s.attempts i ≡ Some a → is_outstanding_on l a ≡ true → a.row.stream ≡ Some n → IsOn l s n a
  on_stream i n a got out stream = record { there = there_place i a got; out = out; stream = stream }

  on_t : (n : ℕ) (a : Attempt) → IsOn l s n a → IsOn m t n a
  on_t n a on = record { there = on.there; out = on.out; stream = on.stream }

  response_t : (n : ℕ) (a : Attempt) → IsOn l s n a → response a t ≡ response_of m t n a
  response_t n a on = response_is m t n a here_t on.out on.stream

  above : (a : Attempt) (n : ℕ) → a.row.stream ≡ Some n → (is_none a.row.stream || is_left_out last a) ≡ nat_lt last n
  above a n stream =
      ap (λ (k : Option ℕ). is_none k || nat_lt last (unwrap_or k 0)) stream

  ended_t : (n : ℕ) (a : Attempt) → IsOn l s n a → nat_lt last n ≡ true → response a t ≡ ended left_out_end (response_of l s n a)
  ended_t n a on high = response_t n a on ∙ high_ended n a on high

  -- those that are to end
  left_by : (i : ℕ) (a : Attempt) (k : Option ℕ) → a.row.stream ≡ k → numbered s.attempts i ≡ Some a → is_outstanding_on l a ≡ true → (is_none a.row.stream || is_left_out last a) ≡ true
      → outcome_on a t k m ≡ Some (if is_some k then left_out_end else unsent_end)
  left_by i a None stream got out gone =
      ap (λ (b : Bool). if is_some l.over || b then Some unsent_end else None) retiring ∙ ap (λ (b : Bool). if b then Some unsent_end else None) (or_last (is_some l.over))
  left_by i a (Some n) stream got out gone =
      let on : IsOn l s n a = on_stream i n a got out stream in
      ap (λ (p : Response). option_or p.end (if is_some l.over then Some lost_end else None)) (ended_t n a on (sym (above a n stream) ∙ gone))

  left : (i : ℕ) (a : Attempt) → numbered s.attempts i ≡ Some a → is_left l last a ≡ true → outcome_of a t ≡ Some (out_for a)
  left i a got gone =
      let parts = both_true (is_outstanding_on l a) (is_none a.row.stream || is_left_out last a) gone in
      ap (option_and_then (outcome_on a t a.row.stream)) (link_t a parts.0) ∙ left_by i a a.row.stream refl got parts.0 parts.1

  -- the others are as they were
  no_action : (b : Bool) (k : Option Outcome) → k ≡ None → (b && is_some k) ≡ false
  no_action b k none = ap (λ (q : Option Outcome). b && is_some q) none ∙ and_last b

  same_link : (a : Attempt) → link_of a t ≡ link_of a s → (k : Option ℕ) → a.row.stream ≡ k → option_and_then (outcome_on a t k) (link_of a t) ≡ option_and_then (outcome_on a s k) (link_of a s)
  same_link a same None stream = ap (option_and_then (outcome_on a s None)) same
  same_link a same (Some n) stream =
      let before : response a s ≡ option_map_or (response_on a n s) (link_of a s) no_response = ap (response_by a s) stream in
      let after : response a t ≡ option_map_or (response_on a n s) (link_of a t) no_response = ap (response_by a t) stream in
      let one : response a t ≡ response a s = after ∙ ap (λ (q : Option Link). option_map_or (response_on a n s) q no_response) same ∙ sym before in
      ap (λ (p : Response). option_and_then (λ (q : Link). option_or p.end (if is_some q.over then Some lost_end else None)) (link_of a t)) one
      ∙ ap (option_and_then (outcome_on a s (Some n))) same

  on_same : (i : ℕ) (a : Attempt) → numbered s.attempts i ≡ Some a → is_outstanding_on l a ≡ true → (is_none a.row.stream || is_left_out last a) ≡ false → (k : Option ℕ) → a.row.stream ≡ k
      → outcome_on a t k m ≡ outcome_on a s k l
  on_same i a got out stays None stream = absurd (never (is_none a.row.stream || is_left_out last a) (ap (λ (q : Option ℕ). is_none q || is_left_out last a) stream) stays)
  on_same i a got out stays (Some n) stream =
      let on : IsOn l s n a = on_stream i n a got out stream in
      let one : response a t ≡ response a s = response_t n a on ∙ low_same n a on (sym (above a n stream) ∙ stays) ∙ sym (response_is l s n a here out stream) in
      ap (λ (p : Response). option_or p.end (if is_some l.over then Some lost_end else None)) one

  second_off : (b c : Bool) → b ≡ true → (b && c) ≡ false → c ≡ false
  second_off true c e off = off
  second_off false c e off = absurd (cc)

  placed_same : (i : ℕ) (a : Attempt) (at : Placed) (b : Bool) → (at.link == link) ≡ b → numbered s.attempts i ≡ Some a → a.row.placed ≡ Some at → a.row.ended ≡ None → is_left l last a ≡ false
      → outcome_of a t ≡ outcome_of a s
  placed_same i a at true e got placed goes_on stays =
      let out : is_outstanding_on l a ≡ true = is_on l a at placed goes_on (eqb-true at.link link e ∙ sym own) in
      ap (option_and_then (outcome_on a t a.row.stream)) (link_t a out)
      ∙ on_same i a got out (second_off (is_outstanding_on l a) (is_none a.row.stream || is_left_out last a) out stays) a.row.stream refl
      ∙ sym (ap (option_and_then (outcome_on a s a.row.stream)) (link_is l s a here out))
  placed_same i a at false e got placed goes_on stays =
      let same : link_of a t ≡ link_of a s
      = ap (option_and_then (λ (p : Placed). numbered t.links p.link)) placed
      ∙ changed_away (λ (k : Link). with_frame_read r frames k) link at.link s.links (eqb-false at.link link e)
      ∙ sym (ap (option_and_then (λ (p : Placed). numbered s.links p.link)) placed) in
      same_link a same a.row.stream refl

  gone_none : (k : Option RowEnd) → is_none k ≡ true → k ≡ None
  gone_none None e = refl
  gone_none (Some q) e = absurd (cc)

  others_by : (i : ℕ) (a : Attempt) (b : Bool) (p : Option Placed) → is_outstanding a ≡ b → a.row.placed ≡ p → numbered s.attempts i ≡ Some a → is_left l last a ≡ false → is_to_end t a ≡ false
  others_by i a false p out placed got stays = ap (λ (b : Bool). (b && not (is_over a t)) && is_some (outcome_of a t)) out
  others_by i a true None out placed got stays =
      no_action (is_outstanding a && not (is_over a t)) (outcome_of a t)
      (ap (λ (q : Option Placed). option_and_then (outcome_on a t a.row.stream) (option_and_then (λ (at : Placed). numbered t.links at.link) q)) placed)
  others_by i a true (Some at) out placed got stays =
      ap (λ (k : Option Outcome). (is_outstanding a && not (is_over a s)) && is_some k)
      (placed_same i a at (at.link == link) refl got placed (gone_none a.row.ended (both_true (is_some a.row.placed) (is_none a.row.ended) out).1) stays)
      ∙ passes_not (is_to_end s) s.attempts i a (frame.quiescent_s link piece x o s is h r next receives line.WireEnd) got

  -- the codes of their resets
  unreset : (i : ℕ) (a : Attempt) → numbered s.attempts i ≡ Some a → is_outstanding_on l a ≡ true → a.reset ≡ false
  unreset i a got out =
      let going : is_outstanding a ≡ true = (both_true (is_outstanding a) (holds (λ (at : Placed). at.link == l.number) a.row.placed) out).0 in
      is_reset_not (is_some a.row.ended) a.reset (no_end a.row.ended (both_true (is_some a.row.placed) (is_none a.row.ended) going).1)
      (all_numbered (λ (b : Attempt). is_some b.row.ended || not b.reset) s.attempts i a got is.known.early.resets)

  counted : list_all (is_read_by (read_bytes m)) m.traffic ≡ true
  counted =
      all_numbered (λ (k : Link). list_all (is_read_by (read_bytes k)) k.traffic) t.links link m (read.there link piece x o s is h r next receives) (read.kept_t link piece x o s is h r next receives).reads

  open_still : (n : ℕ) (a : Attempt) (e : RowEnd) → IsOn l s n a → nat_lt last n ≡ true → e.seen ≡ read_bytes m → (response (with_end e a) t).closes ≡ false
  open_still n a e on high seen =
      let going : IsGoing (response_of l s n a) = all_go l s w (lines_in l s) n a streams on in
      ap (λ (p : Response). p.closes) (response_saw m t t n a e refl refl here_t (on_t n a on) seen counted ∙ ended_t n a on high)
      ∙ goes_open (limit_of_attempt a s) n l.traffic going.goes going.small

  code_by : (i : ℕ) (a : Attempt) (e : RowEnd) (k : Option ℕ) → a.row.stream ≡ k → numbered s.attempts i ≡ Some a → is_outstanding_on l a ≡ true
      → (is_none a.row.stream || is_left_out last a) ≡ true → IsPlainEnd (entry t) (read_bytes m) e
      → option_and_then (code_for_stream (with_end e a) e t) k ≡ (if is_some k then Some cancel else None)
  code_by i a e None stream got out gone plain = refl
  code_by i a e (Some n) stream got out gone plain =
      let b : Attempt = with_end e a in
      let on : IsOn l s n a = on_stream i n a got out stream in
      let high : nat_lt last n ≡ true = sym (above a n stream) ∙ gone in
      let G : Bool → Option LinkOver → Bool → Bool → Option ℕ
      = λ rs ov cl fr. if rs || is_some ov || (has_written_end n m && cl) then None else if fr then option_and_then (λ (k : Outcome). k.reset) (response b t).end else Some cancel in
      let none : Option ℕ = None in
      ap (λ (z : Bool). if z && not a.reset then option_and_then (code_to_reset b e n t) (link_of a t) else none) (eq-eqb e.entry (entry t) plain.entry_is)
      ∙ ap (λ (z : Bool). if not z then option_and_then (code_to_reset b e n t) (link_of a t) else none) (unreset i a got out)
      ∙ ap (option_and_then (code_to_reset b e n t)) (link_t a out)
      ∙ ap (λ (z : Bool). G z l.over (response b t).closes (is_framing e.cause)) plain.unreset
      ∙ ap (λ (z : Option LinkOver). G false z (response b t).closes (is_framing e.cause)) unbroken
      ∙ ap (λ (z : Bool). G false None z (is_framing e.cause)) (open_still n a e on high plain.seen_is)
      ∙ ap (λ (z : Bool). if z then none else if is_framing e.cause then option_and_then (λ (k : Outcome). k.reset) (response b t).end else Some cancel) (and_last (has_written_end n m))
      ∙ ap (λ (z : Bool). if z then option_and_then (λ (k : Outcome). k.reset) (response b t).end else Some cancel) plain.unbroken

  codes : (i : ℕ) (a : Attempt) (e : RowEnd) → numbered s.attempts i ≡ Some a → is_left l last a ≡ true → IsPlainEnd (entry t) (read_bytes m) e
      → reset_code_of t (with_end e a) ≡ (if is_some a.row.stream then Some cancel else None)
  codes i a e got gone plain =
      let parts = both_true (is_outstanding_on l a) (is_none a.row.stream || is_left_out last a) gone in
      code_by i a e a.row.stream refl got parts.0 parts.1 plain

  pub after_goaway : AfterGoaway l m s t last
  after_goaway = record {
    retiring = retiring;
    settings = settings;
    heads = λ i a got. ap (λ (k : Option (List Field)). is_some k) (no_more i a got).head;
    larges = λ i a got. (no_more i a got).large;
    came_same = came_same;
    left = left;
    others = λ i a got stays. others_by i a (is_outstanding a) a.row.placed refl refl got stays;
    codes = codes;
  }
