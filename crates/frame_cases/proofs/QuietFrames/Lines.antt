-- Nothing follows from a frame of which nothing is reported.
use Rattle.std.proofs.Common.{◌≡◌, ◌++◌, ◌&&◌, ◌||◌, ◌==◌, ◌∷◌, ◌<◌, ap, refl, subst, sym, ◌∙◌, Bool, true, false, List, [], Option, None, Some, ℕ, suc, if◌then◌else◌, is_none, is_some, not, slice_get}
use Rattle.std.proofs.lemmas.Bool.{eqb-false, eqb-true, lt-leb}
use Rattle.std.proofs.Common.{arith}
use Rattle.std.proofs.lemmas.Bool.Decides.{nat_tests}
use Rattle.std.specs.Option.{option_and_then, option_map_or, option_or}
use Rattle.attempt_ledger.specs.declared.row.Placed.{Placed}
use Rattle.attempt_ledger.specs.declared.row.RowEnd.{RowEnd}
use Rattle.call_actions.proofs.Lists.{changed_away, changed_here}
use Rattle.call_actions.specs.TakeActions.Serves.{came}
use Rattle.frame_cases.specs.QuietFrames.Laws.{HasNothingNew}
use Rattle.h2_frame.specs.Frames.{FrameSeen}
use Rattle.link_actions.proofs.StreamActions.Going.{response_is}
use Rattle.link_actions.specs.StreamActions.Laws.{IsOn}
use Rattle.link_actions.specs.StreamActions.Sees.{response_of}
use Rattle.session_actions.specs.AttemptEnds.{lost_end, outcome_on, unsent_end}
use Rattle.session_actions.specs.Attempts.{commitment, is_commitment, is_outstanding, is_over}
use Rattle.session_actions.specs.CallEnds.{has_long_response}
use Rattle.session_actions.specs.Calls.{is_open_call}
use Rattle.session_actions.specs.Commitments.{is_free_call, is_headed}
use Rattle.session_actions.specs.Deliveries.{response_items}
use Rattle.session_actions.specs.Links.{has_settings, is_retiring, link_of}
use Rattle.session_actions.specs.Reading.{is_outstanding_on}
use Rattle.session_actions.specs.Responses.{is_read_by, limit_of_attempt, no_response, response, response_by, response_in, response_on, traffic_by, traffic_of}
use Rattle.session_actions.specs.Subchannels.{is_connecting, is_going_down, is_to_be_ready, is_to_go_down}
use Rattle.session_actions.specs.Words.{changed, holds, is_number, numbered}
use Rattle.session_actions.specs.Writing.{with_frame_read}
use Rattle.session_actions.specs.declared.action.Action.TheVariants as action
use Rattle.session_actions.specs.declared.attempt.Attempt.{Attempt}
use Rattle.session_actions.specs.declared.call.Call.{Call}
use Rattle.session_actions.specs.declared.entry.OpenEntry.{OpenEntry}
use Rattle.session_actions.specs.declared.link.Link.{Link}
use Rattle.session_actions.specs.declared.link.ReadFrame.{ReadFrame}
use Rattle.session_actions.specs.declared.link.Traffic.{Traffic}
use Rattle.session_actions.specs.declared.link.Traffic.TheVariants as traffic
use Rattle.session_actions.specs.declared.response.Outcome.{Outcome}
use Rattle.session_actions.specs.declared.response.Response.{Response}
use Rattle.session_actions.specs.declared.seen.Seen.{Seen}
use Rattle.session_actions.specs.declared.subchannel.Subchannel.{Subchannel}
use Rattle.session_order.proofs.Begun.{last_in}
use Rattle.session_order.proofs.Lists.{any_in}
use Rattle.session_order.specs.Quiescent.{IsStill, is_link_new, is_to_end}
use Rattle.session_order.specs.Stirs.{SawLess, stirs}
use Rattle.session_order.specs.declared.line.Line.{Line}
use Rattle.session_order.specs.declared.line.Line.TheVariants as line

pub new_self : (p : Response) → HasNothingNew p p
new_self p = record { head = refl; messages = refl; large = refl; end = refl }

-- what an end saw of a link is not more by a frame that came after it
by_seen : (seen : ℕ) (r : ReadFrame) (ts : List Traffic) → seen < r.end → traffic_by seen (ts ++ traffic.Read r ∷ []) ≡ traffic_by seen ts
by_seen seen r [] less = ap (λ (b : Bool). if b then traffic.Read r ∷ [] else []) (lt-leb r.end seen less)
by_seen seen r (x ∷ ts) less = ap (λ (l : List Traffic). if is_read_by seen x then x ∷ l else []) (by_seen seen r ts less)

is_on_by : (l : Link) (a : Attempt) (at : Placed) → a.row.placed ≡ Some at → a.row.ended ≡ None → at.link ≡ l.number → is_outstanding_on l a ≡ true
is_on_by l a at placed goes same =
    ap (λ (p : Option Placed). (is_some p && is_none a.row.ended) && holds (λ (q : Placed). q.link == l.number) p) placed
    ∙ ap (λ (e : Option RowEnd). is_none e && (at.link == l.number)) goes ∙ same_true at.link l.number same
  where
    same_true : (m n : ℕ) → m ≡ n → (true && (m == n)) ≡ true
    same_true m n e = (let yes : (m == n) ≡ true = grind (arith, nat_tests, e) in yes)

module _ (s : Seen) (link : ℕ) (l : Link) (here : numbered s.links link ≡ Some l) (own : l.number ≡ link) (r : ReadFrame) (frames : List FrameSeen) (current : Option OpenEntry)
    (places : (i : ℕ) (a : Attempt) → numbered s.attempts i ≡ Some a → a.place ≡ i) (less : SawLess l.number r s) where
  abbrev f : Link → Link
  f k = with_frame_read r frames k

  abbrev pub t : Seen
  t = record s { links = changed f link s.links; current = current }

  abbrev m : Link
  m = f l

  pub there : numbered t.links link ≡ Some m
  there = changed_here f link s.links l here

  -- what is so of each attempt that goes on there, and of what stays as it was, is so of each attempt
  module _ (Q : Attempt → Type 0) (R : Response → Response → Type 0) (self : (p : Response) → R p p)
      (new : (n : ℕ) (a : Attempt) → IsOn l s n a → Q a → R (response_of l s n a) (response_of m t n a)) where
    same_new : (p q : Response) → q ≡ p → R p q
    same_new p q e = subst (R p) (sym e) (self p)

    -- an attempt on the link
    on_link_by : (i : ℕ) (a : Attempt) (n : ℕ) (at : Placed) → numbered s.attempts i ≡ Some a → Q a → a.row.stream ≡ Some n → a.row.placed ≡ Some at → at.link ≡ link
        → (e : Option RowEnd) → a.row.ended ≡ e → R (response a s) (response a t)
    on_link_by i a n at got its stream placed same None ended =
        let there_is : numbered s.attempts a.place ≡ Some a = ap (numbered s.attempts) (places i a got) ∙ got in
        let out : is_outstanding_on l a ≡ true = is_on_by l a at placed ended (same ∙ sym own) in
        let on : IsOn l s n a = record { there = there_is; out = out; stream = stream } in
        let before : response a s ≡ response_of l s n a = response_is l s n a (ap (numbered s.links) own ∙ here) out stream in
        let after : response a t ≡ response_of m t n a = response_is m t n a (ap (numbered t.links) own ∙ there) out stream in
        subst (λ (p : Response). R p (response a t)) (sym before) (subst (R (response_of l s n a)) (sym after) (new n a on its))
    on_link_by i a n at got its stream placed same (Some e) ended =
        let saw : e.seen < r.end = less i a e at got ended placed (same ∙ sym own) in
        let link_s : link_of a s ≡ Some l = ap (option_and_then (λ (p : Placed). numbered s.links p.link)) placed ∙ ap (numbered s.links) same ∙ here in
        let link_t : link_of a t ≡ Some m = ap (option_and_then (λ (p : Placed). numbered t.links p.link)) placed ∙ ap (numbered t.links) same ∙ there in
        let traffic_same : traffic_of a m.traffic ≡ traffic_of a l.traffic
        = ap (λ (o : Option RowEnd). option_map_or (λ (x : RowEnd). traffic_by x.seen m.traffic) o m.traffic) ended
        ∙ by_seen e.seen r l.traffic saw ∙ sym (ap (λ (o : Option RowEnd). option_map_or (λ (x : RowEnd). traffic_by x.seen l.traffic) o l.traffic) ended) in
        same_new (response a s) (response a t)
        (ap (response_by a t) stream ∙ ap (λ (o : Option Link). option_map_or (response_on a n t) o no_response) link_t
        ∙ ap (λ (ts : List Traffic). response_in (limit_of_attempt a s) n ts) traffic_same
        ∙ sym (ap (response_by a s) stream ∙ ap (λ (o : Option Link). option_map_or (response_on a n s) o no_response) link_s))

    -- on any
    off_link : (a : Attempt) (n : ℕ) (at : Placed) → a.row.stream ≡ Some n → a.row.placed ≡ Some at → (at.link == link) ≡ false → response a t ≡ response a s
    off_link a n at stream placed other =
        let same : link_of a t ≡ link_of a s
        = ap (option_and_then (λ (p : Placed). numbered t.links p.link)) placed ∙ changed_away f link at.link s.links (eqb-false at.link link other)
        ∙ sym (ap (option_and_then (λ (p : Placed). numbered s.links p.link)) placed) in
        ap (response_by a t) stream ∙ ap (λ (o : Option Link). option_map_or (response_on a n t) o no_response) same ∙ sym (ap (response_by a s) stream)

    placed_by : (i : ℕ) (a : Attempt) (n : ℕ) → numbered s.attempts i ≡ Some a → Q a → a.row.stream ≡ Some n → (p : Option Placed) → a.row.placed ≡ p → R (response a s) (response a t)
    placed_by i a n got its stream None placed =
        same_new (response a s) (response a t)
        (ap (response_by a t) stream ∙ ap (λ (p : Option Placed). option_map_or (response_on a n t) (option_and_then (λ (q : Placed). numbered t.links q.link) p) no_response) placed
        ∙ sym (ap (response_by a s) stream ∙ ap (λ (p : Option Placed). option_map_or (response_on a n s) (option_and_then (λ (q : Placed). numbered s.links q.link) p) no_response) placed))
    placed_by i a n got its stream (Some at) placed = by_link (at.link == link) refl
      where
        by_link : (b : Bool) → (at.link == link) ≡ b → R (response a s) (response a t)
        by_link true e = on_link_by i a n at got its stream placed (eqb-true at.link link e) a.row.ended refl
        by_link false e = same_new (response a s) (response a t) (off_link a n at stream placed e)

    stream_by : (i : ℕ) (a : Attempt) → numbered s.attempts i ≡ Some a → Q a → (o : Option ℕ) → a.row.stream ≡ o → R (response a s) (response a t)
    stream_by i a got its None stream = same_new (response a s) (response a t) (ap (response_by a t) stream ∙ sym (ap (response_by a s) stream))
    stream_by i a got its (Some n) stream = placed_by i a n got its stream a.row.placed refl

    pub each_new : (i : ℕ) (a : Attempt) → numbered s.attempts i ≡ Some a → Q a → R (response a s) (response a t)
    each_new i a got its = stream_by i a got its a.row.stream refl

  -- the lines stay still: that of heads, and that of messages which are too long
  module _ (heads : (i : ℕ) (a : Attempt) → numbered s.attempts i ≡ Some a → is_some (response a t).head ≡ is_some (response a s).head) where
    head_one : (i : ℕ) (a : Attempt) → numbered s.attempts i ≡ Some a → is_headed t a ≡ is_headed s a
    head_one i a got = ap (λ (b : Bool). is_outstanding a && holds (λ (c : Call). is_free_call s c && b) (numbered s.calls a.row.call)) (heads i a got)

    pub heads_stay : (o : OpenEntry) → IsStill line.Head o s → IsStill line.Head o t
    heads_stay o h = any_in (is_headed t) (is_headed s) s.attempts head_one ∙ h

  module _ (larges : (i : ℕ) (a : Attempt) → numbered s.attempts i ≡ Some a → (response a t).large ≡ (response a s).large) where
    large_by : (c : Call) (o : Option Attempt) → commitment c s ≡ o
        → holds (λ (k : Attempt). is_outstanding k && (response k t).large) o ≡ holds (λ (k : Attempt). is_outstanding k && (response k s).large) o
    large_by c None e = refl
    large_by c (Some k) e =
        let one : (i : ℕ) × (slice_get s.attempts i ≡ Some k) = last_in (is_commitment c) s.attempts k e in
        ap (λ (b : Bool). is_outstanding k && b) (larges (suc one.0) k one.1)

    long_one : (c : Call) → has_long_response t c ≡ has_long_response s c
    long_one c = ap (λ (b : Bool). is_open_call c && b) (large_by c (commitment c s) refl)

    pub larges_stay : (o : OpenEntry) → IsStill line.Response o s → IsStill line.Response o t
    larges_stay o h = any_in (has_long_response t) (has_long_response s) s.calls (λ i c got. long_one c) ∙ h

  -- those of links and of ends by the wire
  module _ (retiring : is_retiring m ≡ is_retiring l) where
    through : {Y : Type 0} (F : Link → Y) (d : Y) → F m ≡ F l → (k : ℕ) (b : Bool) → (k == link) ≡ b → option_map_or F (numbered t.links k) d ≡ option_map_or F (numbered s.links k) d
    through F d same k true e =
        let one : k ≡ link = eqb-true k link e in
        ap (λ (j : ℕ). option_map_or F (numbered t.links j) d) one ∙ ap (λ (o : Option Link). option_map_or F o d) there ∙ same
        ∙ sym (ap (λ (j : ℕ). option_map_or F (numbered s.links j) d) one ∙ ap (λ (o : Option Link). option_map_or F o d) here)
    through F d same k false e = ap (λ (o : Option Link). option_map_or F o d) (changed_away f link k s.links (eqb-false k link e))

    as_or : {X : Type 0} (test : X → Bool) (o : Option X) → holds test o ≡ option_map_or test o false
    as_or test None = refl
    as_or test (Some x) = refl

    holds_link : (test : Link → Bool) → test m ≡ test l → (o : Option ℕ)
        → holds test (option_and_then (λ (k : ℕ). numbered t.links k) o) ≡ holds test (option_and_then (λ (k : ℕ). numbered s.links k) o)
    holds_link test same None = refl
    holds_link test same (Some k) =
        as_or test (numbered t.links k) ∙ through test false same k (k == link) refl ∙ sym (as_or test (numbered s.links k))

    going_same : is_going_down m ≡ is_going_down l
    going_same = ap (λ (b : Bool). is_some l.over || b) retiring

    pub down_stays : (b : Subchannel) → is_to_go_down t b ≡ is_to_go_down s b
    down_stays b = holds_link is_going_down going_same b.link

    new_one : has_settings m ≡ has_settings l → (b : Subchannel) → is_link_new t b ≡ is_link_new s b
    new_one settings b =
        ap (λ (z : Bool). (is_connecting b.state && z) || is_to_go_down t b) (holds_link has_settings settings b.link) ∙ ap (λ (z : Bool). is_to_be_ready s b || z) (down_stays b)

    pub links_stay : has_settings m ≡ has_settings l → (o : OpenEntry) → IsStill line.Link o s → IsStill line.Link o t
    links_stay settings o h = any_in (is_link_new t) (is_link_new s) s.subs (λ i b got. new_one settings b) ∙ h

    -- of one attempt
    module _ (a : Attempt) (same_end : (response a t).end ≡ (response a s).end) where
      outcome_by_link : (o : Option ℕ) → (p : Option Placed)
          → option_and_then (outcome_on a t o) (option_and_then (λ (q : Placed). numbered t.links q.link) p) ≡ option_and_then (outcome_on a s o) (option_and_then (λ (q : Placed). numbered s.links q.link) p)
      outcome_by_link o None = refl
      outcome_by_link o (Some at) = on_number o at.link (at.link == link) refl
        where
          same_outcome : (o : Option ℕ) → (q : Link) → outcome_on a t o q ≡ outcome_on a s o q
          same_outcome None q = refl
          same_outcome (Some n) q = ap (λ (e : Option Outcome). option_or e (if is_some q.over then Some lost_end else None)) same_end

          own_outcome : (o : Option ℕ) → outcome_on a t o m ≡ outcome_on a s o l
          own_outcome None = ap (λ (b : Bool). if is_some l.over || b then Some unsent_end else None) retiring
          own_outcome (Some n) = ap (λ (e : Option Outcome). option_or e (if is_some l.over then Some lost_end else None)) same_end

          on_number : (o : Option ℕ) → (k : ℕ) (b : Bool) → (k == link) ≡ b
              → option_and_then (outcome_on a t o) (numbered t.links k) ≡ option_and_then (outcome_on a s o) (numbered s.links k)
          on_number o k true e =
              let one : k ≡ link = eqb-true k link e in
              ap (λ (j : ℕ). option_and_then (outcome_on a t o) (numbered t.links j)) one ∙ ap (option_and_then (outcome_on a t o)) there ∙ own_outcome o
              ∙ sym (ap (λ (j : ℕ). option_and_then (outcome_on a s o) (numbered s.links j)) one ∙ ap (option_and_then (outcome_on a s o)) here)
          on_number o k false e =
              ap (option_and_then (outcome_on a t o)) (changed_away f link k s.links (eqb-false k link e)) ∙ each (numbered s.links k)
            where
              each : (q : Option Link) → option_and_then (outcome_on a t o) q ≡ option_and_then (outcome_on a s o) q
              each None = refl
              each (Some q) = same_outcome o q

      pub end_same : is_to_end t a ≡ is_to_end s a
      end_same = ap (λ (o : Option Outcome). (is_outstanding a && not (is_over a s)) && is_some o) (outcome_by_link a.row.stream a.row.placed)

    -- of all
    module _ (ends : (i : ℕ) (a : Attempt) → numbered s.attempts i ≡ Some a → (response a t).end ≡ (response a s).end) where
      pub ends_stay : (o : OpenEntry) → IsStill line.WireEnd o s → IsStill line.WireEnd o t
      ends_stay o h = any_in (is_to_end t) (is_to_end s) s.attempts (λ i a got. end_same a (ends i a got)) ∙ h

  -- what came for an application, where it is of an attempt that gained nothing
  items_same : (p q : Response) → HasNothingNew p q → response_items q ≡ response_items p
  items_same p q is =
      ap (λ (h : _). response_items (record q { head = h })) is.head ∙ ap (λ (ms : List (List ℕ)). response_items (record q { head = p.head; messages = ms })) is.messages

  came_by : (c : Call) (o : Option Attempt) → commitment c s ≡ o → ((i : ℕ) (k : Attempt) → numbered s.attempts i ≡ Some k → o ≡ Some k → HasNothingNew (response k s) (response k t))
      → option_map_or (λ (k : Attempt). response_items (response k t)) o [] ≡ option_map_or (λ (k : Attempt). response_items (response k s)) o []
  came_by c None e each = refl
  came_by c (Some k) e each =
      let one : (i : ℕ) × (slice_get s.attempts i ≡ Some k) = last_in (is_commitment c) s.attempts k e in
      items_same (response k s) (response k t) (each (suc one.0) k one.1 refl)

  pub came_alike : (c : Call) → ((i : ℕ) (k : Attempt) → numbered s.attempts i ≡ Some k → commitment c s ≡ Some k → HasNothingNew (response k s) (response k t)) → came c t ≡ came c s
  came_alike c each = came_by c (commitment c s) refl each

  -- where nothing is new at all
  module _ (new : (n : ℕ) (a : Attempt) → IsOn l s n a → HasNothingNew (response_of l s n a) (response_of m t n a)) where
    pub all_new : (i : ℕ) (a : Attempt) → numbered s.attempts i ≡ Some a → HasNothingNew (response a s) (response a t)
    all_new i a got = each_new (λ (z : Attempt). Unit {0}) HasNothingNew new_self (λ n z on its. new n z on) i a got tt

    pub came_same : (c : Call) → came c t ≡ came c s
    came_same c = came_alike c (λ i k got is. all_new i k got)

    module _ (retiring : is_retiring m ≡ is_retiring l) where
      pub head_line : (o : OpenEntry) → IsStill line.Head o s → IsStill line.Head o t
      head_line o h = heads_stay (λ i a got. ap (λ (p : _). is_some p) (all_new i a got).head) o h

      pub response_line : (o : OpenEntry) → IsStill line.Response o s → IsStill line.Response o t
      response_line o h = larges_stay (λ i a got. (all_new i a got).large) o h

      pub end_line : (o : OpenEntry) → IsStill line.WireEnd o s → IsStill line.WireEnd o t
      end_line o h = ends_stay retiring (λ i a got. (all_new i a got).end) o h

      pub down_same : (b : Subchannel) → is_to_go_down t b ≡ is_to_go_down s b
      down_same b = down_stays retiring b

      -- a subchannel that has another link, or none
      other_link : (o : Option ℕ) → is_number link o ≡ false → option_and_then (λ (k : ℕ). numbered t.links k) o ≡ option_and_then (λ (k : ℕ). numbered s.links k) o
      other_link None e = refl
      other_link (Some k) e = changed_away f link k s.links (eqb-false k link e)

      pub new_other : (b : Subchannel) → is_number link b.link ≡ false → is_link_new t b ≡ is_link_new s b
      new_other b e =
          ap (λ (q : Option Link). (is_connecting b.state && holds has_settings q) || holds is_going_down q) (other_link b.link e)

      pub stirred_still : has_settings m ≡ has_settings l → (k : Line) (o : OpenEntry) → stirs (action.FrameRead link r) k ≡ true → IsStill k o s → IsStill k o t
      stirred_still settings line.Head o e h = head_line o h
      stirred_still settings line.Response o e h = response_line o h
      stirred_still settings line.Link o e h = links_stay retiring settings o h
      stirred_still settings line.WireEnd o e h = end_line o h
      stirred_still settings line.Cut o e h = absurd (cc)
      stirred_still settings line.Transparent o e h = absurd (cc)
      stirred_still settings line.Inherited o e h = absurd (cc)
      stirred_still settings line.Row o e h = absurd (cc)
      stirred_still settings line.Final o e h = absurd (cc)
      stirred_still settings line.Cancelled o e h = absurd (cc)
      stirred_still settings line.Request o e h = absurd (cc)
      stirred_still settings line.Overflow o e h = absurd (cc)
      stirred_still settings line.Pick o e h = absurd (cc)
      stirred_still settings line.Reset o e h = absurd (cc)
      stirred_still settings line.Shut o e h = absurd (cc)
      stirred_still settings line.Retire o e h = absurd (cc)
      stirred_still settings line.Begin o e h = absurd (cc)
      stirred_still settings line.Give o e h = absurd (cc)
      stirred_still settings line.Drop o e h = absurd (cc)
      stirred_still settings line.Add o e h = absurd (cc)
