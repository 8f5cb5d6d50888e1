-- What was not read of a link shows no whole frame, but while the entry reads it.
use Rattle.channel_actions.proofs.Changes.{Small, asked_in, noted_now, placed_in, small_in, sub_now, written_in}
use Rattle.channel_actions.proofs.Calls.Few.Begins.{begins_at_event, is_at_event}
use Rattle.channel_actions.proofs.KeptSessions.Along.{kept_begins, kept_stays}
use Rattle.channel_actions.proofs.KeptSessions.Lists.{all_more}
use Rattle.channel_actions.proofs.Stamps.{counted_at}
use Rattle.channel_actions.specs.KeptSessions.Kept.{IsKept}
use Rattle.run_cases.proofs.ReadOut.Shown.{event_link, nothing_by, partial_by, read_fair, shows_by}
use Rattle.run_cases.proofs.ReadOut.ReportsThat.{ReadsNext, arrives_on, reports_next}
use Rattle.frame_cases.specs.PieceWalks.Points.{IsReadFairly}
use Rattle.run_cases.specs.ReadOut.Laws.{LinksAreReadOut}
use Rattle.grpc_base.specs.declared.event.Event.TheVariants as event
use Rattle.grpc_base.specs.declared.event.Event.{Event}
use Rattle.grpc_base.specs.declared.event.Reply.TheVariants as reply
use Rattle.grpc_base.specs.declared.event.Reply.{Reply}
use Rattle.h2_frame.specs.Frames.{FrameSeen}
use Rattle.h2_frame.specs.Readings.{Partial, reading_of}
use Rattle.link_actions.specs.ResponseActions.Gained.{is_listed_fairly}
use Rattle.session_actions.specs.Actions.{after, after_if, after_in}
use Rattle.session_actions.specs.Attempts.{with_attempt}
use Rattle.session_actions.specs.CallEnds.{is_after_event, is_refusal, is_replied}
use Rattle.session_actions.specs.Calls.{with_call}
use Rattle.session_actions.specs.Closing.{entry_made, noted_gone}
use Rattle.session_actions.specs.Deliveries.{begun_call, call_begun_by, item_taken}
use Rattle.session_actions.specs.Entries.{entry, now, opened, replied, settling}
use Rattle.session_actions.specs.Events.{frame_action, frame_of_event}
use Rattle.session_actions.specs.Links.{read_bytes, read_in, with_link}
use Rattle.session_actions.specs.Making.{new_row, with_row}
use Rattle.session_actions.specs.Policies.{with_placing}
use Rattle.session_actions.specs.Reading.{next_read}
use Rattle.session_actions.specs.Refusals.{is_gone}
use Rattle.session_actions.specs.Sessions.{Does, IsNext, new_session}
use Rattle.session_actions.specs.Subchannels.{dial_taken_of, link_up, new_link, sub_added, with_dial, with_sub}
use Rattle.session_actions.specs.Words.{changed, holds, last_of, numbered}
use Rattle.session_actions.specs.Writing.{frame_read_on, next_frame_read, owed_for, read_action, read_next, with_frame_read, with_piece, with_stream}
use Rattle.session_actions.specs.declared.action.Action.TheVariants as action
use Rattle.session_actions.specs.declared.action.Action.{Action}
use Rattle.session_actions.specs.declared.call.Call.{Call}
use Rattle.session_actions.specs.declared.entry.OpenEntry.{OpenEntry}
use Rattle.session_actions.specs.declared.entry.Stage.TheVariants as stage
use Rattle.session_actions.specs.declared.entry.Stage.{Stage}
use Rattle.session_actions.specs.declared.link.Link.{Link}
use Rattle.session_actions.specs.declared.link.LinkOver.{LinkOver}
use Rattle.session_actions.specs.declared.link.NextRead.TheVariants as nextread
use Rattle.session_actions.specs.declared.link.ReadFrame.{ReadFrame}
use Rattle.session_actions.specs.declared.link.Sent.{Sent}
use Rattle.session_actions.specs.declared.link.Traffic.TheVariants as traffic
use Rattle.session_actions.specs.declared.link.Traffic.{Traffic}
use Rattle.session_actions.specs.declared.seen.Seen.{Seen}
use Rattle.session_actions.specs.declared.seen.Setup.{Setup}
use Rattle.session_actions.specs.declared.subchannel.Subchannel.{Subchannel}
use Rattle.session_order.proofs.Changed.{changed_away, changed_map}
use Rattle.session_order.proofs.SessionLaws.Lists.{past}
use Rattle.std.proofs.Common.{Bool, List, None, Option, Some, [], ap, arith, drop, false, filter_map, if◌then◌else◌, inl, inr, is_none, length, map, not, option_and_then, option_map, refl, slice_get, subst, suc, sym, true, zero, ℕ, ◌&&◌, ◌++◌, ◌+◌, ◌-◌, ◌==◌, ◌∙◌, ◌∷◌, ◌≡◌, ◌≤◌, ◌⊎◌}
use Rattle.std.proofs.lemmas.Bool.{and_from, and_parts, eqb-false, eqb-true}
use Rattle.std.proofs.lemmas.List.Elements.{filter_map-append}
use Rattle.std.proofs.lemmas.List.{append-nil, length-append}
use Rattle.std.specs.List.{list_all}
use Rattle.std.specs.Option.{option_map_or}

-- the entry reads a link
abbrev is_busy : ℕ → Seen → Bool
is_busy n s = option_map_or (λ o. arrives_on n o.event && is_after_event o) s.current false

-- a link as it was, as far as it is read
record SameAs (b l : Link) : Type 0 where
  received : l.received ≡ b.received
  read : read_bytes l ≡ read_bytes b
  listed : list_all is_listed_fairly b.traffic ≡ true → list_all is_listed_fairly l.traffic ≡ true
  over : l.over ≡ None → b.over ≡ None

record Was (s : Seen) (n : ℕ) (l : Link) : Type 0 where
  before : Link
  there : numbered s.links n ≡ Some before
  same : SameAs before l

record Stays (s t : Seen) : Type 0 where
  links : (n : ℕ) (l : Link) → numbered t.links n ≡ Some l → Was s n l
  busy : (n : ℕ) → is_busy n s ≡ true → is_busy n t ≡ true

-- what holds of every session
record IsOut (n : ℕ) (s : Seen) (l : Link) : Type 0 where
  fair : IsReadFairly l
  part : l.over ≡ None → is_busy n s ≡ false → reading_of (drop (read_bytes l) l.received) ≡ Partial

abbrev AreOut : Seen → Type 0
AreOut s = (n : ℕ) (l : Link) → numbered s.links n ≡ Some l → IsOut n s l

same_self : (l : Link) → SameAs l l
same_self l = record { received = refl; read = refl; listed = λ e. e; over = λ e. e }

fair_same : (b l : Link) → SameAs b l → IsReadFairly b → IsReadFairly l
fair_same b l same fair = record {
  within = within_on (read_bytes l) (read_bytes b) (length b.received) (length l.received) same.read fair.within (ap length same.received);
  listed = same.listed fair.listed;
}
  where
    within_on : (i j k m : ℕ) → i ≡ j → j ≤ k → m ≡ k → i ≤ m
    within_on i j k m e f g = omega (arith, e, f, g)

part_same : (b l : Link) → SameAs b l → reading_of (drop (read_bytes b) b.received) ≡ Partial → reading_of (drop (read_bytes l) l.received) ≡ Partial
part_same b l same e =
    ap (λ (bytes : List ℕ). reading_of (drop (read_bytes l) bytes)) same.received ∙ ap (λ (n : ℕ). reading_of (drop n b.received)) same.read ∙ e

-- so it is kept
free_before : (c d : Bool) → (c ≡ true → d ≡ true) → d ≡ false → c ≡ false
free_before true d so free = absurd (let bad : true ≡ false = sym (so refl) ∙ free in (cc))
free_before false d so free = refl

kept : (s t : Seen) → Stays s t → AreOut s → AreOut t
kept s t c k n l there =
    let was : Was s n l = c.links n l there in
    let out : IsOut n s was.before = k n was.before was.there in
    record {
      fair = fair_same was.before l was.same out.fair;
      part = λ none free.
          part_same was.before l was.same (out.part (was.same.over none) (free_before (is_busy n s) (is_busy n t) (c.busy n) free));
    }

joined : (s t u : Seen) → Stays s t → Stays t u → Stays s u
joined s t u c d = record {
  links = λ n l there.
      (let later : Was t n l = d.links n l there in
      let first : Was s n later.before = c.links n later.before later.there in
      record {
        before = first.before;
        there = first.there;
        same = record {
          received = later.same.received ∙ first.same.received;
          read = later.same.read ∙ first.same.read;
          listed = λ e. later.same.listed (first.same.listed e);
          over = λ e. first.same.over (later.same.over e);
        };
      });
  busy = λ n e. d.busy n (c.busy n e);
}

still : (s : Seen) (n : ℕ) (l : Link) → numbered s.links n ≡ Some l → Was s n l
still s n l there = record { before = l; there = there; same = same_self l }

aside : (s t : Seen) → t.current ≡ s.current → t.links ≡ s.links → Stays s t
aside s t current links = record {
  links = λ n l there. still s n l (ap (λ (ls : List Link). numbered ls n) (sym links) ∙ there);
  busy = λ n e. ap (λ (c : Option OpenEntry). option_map_or (λ (o : OpenEntry). arrives_on n o.event && is_after_event o) c false) current ∙ e;
}

-- the open entry, changed
busy_by : (f : OpenEntry → OpenEntry) → ((o : OpenEntry) → (f o).event ≡ o.event) → ((o : OpenEntry) → is_after_event o ≡ true → is_after_event (f o) ≡ true) → (n : ℕ) (c : Option OpenEntry)
    → option_map_or (λ (o : OpenEntry). arrives_on n o.event && is_after_event o) c false ≡ true
    → option_map_or (λ (o : OpenEntry). arrives_on n o.event && is_after_event o) (option_map f c) false ≡ true
busy_by f same after_it n None e = e
busy_by f same after_it n (Some o) e =
    let both : (arrives_on n o.event ≡ true) × (is_after_event o ≡ true) = and_parts (arrives_on n o.event) (is_after_event o) e in
    and_from (arrives_on n (f o).event) (is_after_event (f o)) (ap (arrives_on n) (same o) ∙ both.0) (after_it o both.1)

entered : (f : OpenEntry → OpenEntry) → ((o : OpenEntry) → (f o).event ≡ o.event) → ((o : OpenEntry) → is_after_event o ≡ true → is_after_event (f o) ≡ true) → (s : Seen)
    → Stays s (record s { current = option_map f s.current })
entered f same after_it s = record { links = still s; busy = λ n e. busy_by f same after_it n s.current e }

not_refused : (r : Reply) → is_refusal r ≡ false → not (is_refusal r) ≡ true
not_refused r e = ap not e

answered_so : (r : Reply) → is_refusal r ≡ false → (s : Seen) → Stays s (replied r s)
answered_so r e s = entered (λ (o : OpenEntry). record o { stage = stage.Replied; reply = Some r }) (λ o. refl) (λ o f. not_refused r e) s

-- one link, changed
record Linked (f : Link → Link) (n : ℕ) (s : Seen) (m : ℕ) (l : Link) : Type 0 where
  before : Link
  there : numbered s.links m ≡ Some before
  how : ((m ≡ n) × (l ≡ f before)) ⊎ (l ≡ before)

mapped : (f : Link → Link) (o : Option Link) (l : Link) → option_map f o ≡ Some l → (b : Link) × (o ≡ Some b) × (l ≡ f b)
mapped f None l e = absurd (let no : None ≡ Some l = e in (cc))
mapped f (Some b) l e = (b, refl, (let one : f b ≡ l = (cc) in sym one))

linked_by : (f : Link → Link) (n : ℕ) (s : Seen) (m : ℕ) (l : Link) (c : Bool) → (m == n) ≡ c → numbered (changed f n s.links) m ≡ Some l → Linked f n s m l
linked_by f n s m l true e there =
    let same : m ≡ n = eqb-true m n e in
    let here : option_map f (numbered s.links n) ≡ Some l = sym (changed_map f n s.links) ∙ ap (λ (k : ℕ). numbered (changed f n s.links) k) (sym same) ∙ there in
    let b = mapped f (numbered s.links n) l here in
    record { before = b.0; there = ap (numbered s.links) same ∙ b.1; how = inl (same, b.2) }
linked_by f n s m l false e there =
    record { before = l; there = sym (changed_away f n m s.links (eqb-false m n e)) ∙ there; how = inr refl }

linked : (f : Link → Link) (n : ℕ) (s : Seen) (m : ℕ) (l : Link) → numbered (changed f n s.links) m ≡ Some l → Linked f n s m l
linked f n s m l there = linked_by f n s m l (m == n) refl there

was_linked : (f : Link → Link) → ((l : Link) → SameAs l (f l)) → (n : ℕ) (s : Seen) (m : ℕ) (l : Link) → Linked f n s m l → Was s m l
was_linked f same n s m l k = record { before = k.before; there = k.there; same = by k.how }
  where
    by : ((m ≡ n) × (l ≡ f k.before)) ⊎ (l ≡ k.before) → SameAs k.before l
    by (inl q) = subst (λ (z : Link). SameAs k.before z) (sym q.1) (same k.before)
    by (inr q) = subst (λ (z : Link). SameAs k.before z) (sym q) (same_self k.before)

link_now : (f : Link → Link) → ((l : Link) → SameAs l (f l)) → (n : ℕ) (s : Seen) → Stays s (with_link f n s)
link_now f same n s = record { links = λ m l there. was_linked f same n s m l (linked f n s m l there); busy = λ m e. e }

same_traffic : (b l : Link) → l.received ≡ b.received → l.traffic ≡ b.traffic → (l.over ≡ None → b.over ≡ None) → SameAs b l
same_traffic b l received passed over = record {
  received = received;
  read = ap (λ (ts : List Traffic). option_map_or (λ (r : ReadFrame). r.end) (last_of (filter_map read_in ts)) 0) passed;
  listed = λ e. ap (list_all is_listed_fairly) passed ∙ e;
  over = over;
}

-- (what is written is not read)
written_same : (x : Sent) (b : Link) → SameAs b (record b { traffic = b.traffic ++ traffic.Written x ∷ [] })
written_same x b = record {
  received = refl;
  read =
      ap (λ (rs : List ReadFrame). option_map_or (λ (r : ReadFrame). r.end) (last_of rs) 0)
      (filter_map-append read_in b.traffic (traffic.Written x ∷ []) ∙ append-nil (filter_map read_in b.traffic));
  listed = λ e. all_more is_listed_fairly b.traffic (traffic.Written x ∷ []) e refl;
  over = λ e. e;
}

small : Small Stays
small = record {
  joined = joined;
  beside = λ s t entries current calls attempts asks subs links. aside s t current links;
  call = λ f request begun n s. aside s (with_call f n s) refl refl;
  attempt = λ f waits placed stream n s. aside s (with_attempt f n s) refl refl;
  row = λ call number kind due s. aside s (with_row (new_row call number kind due) s) refl refl;
  link = λ f received passed over n s. link_now f (λ l. same_traffic l (f l) (received l) (passed l) (over l)) n s;
  sub = λ f less n s. aside s (record s { subs = changed f n s.subs }) refl refl;
  added = λ address s. aside s (sub_added address s) refl refl;
  entry = λ f moment event_is stage_is after_it s. entered f event_is after_it s;
  replied = answered_so;
}

-- at its event an entry reads nothing
free_at : (g : Stage) (b : Bool) → is_at_event g ≡ true → (is_replied g && b) ≡ false
free_at stage.Event b e = refl
free_at stage.Replied b e = absurd (let no : false ≡ true = e in (cc))
free_at stage.Settling b e = absurd (let no : false ≡ true = e in (cc))

none_busy : (a b : Bool) → b ≡ false → (a && b) ≡ false
none_busy true b e = e
none_busy false b e = refl

free_event : (n : ℕ) (o : OpenEntry) (s : Seen) → s.current ≡ Some o → is_at_event o.stage ≡ true → is_busy n s ≡ false
free_event n o s at first =
    ap (λ (c : Option OpenEntry). option_map_or (λ (q : OpenEntry). arrives_on n q.event && is_after_event q) c false) at
    ∙ none_busy (arrives_on n o.event) (is_after_event o) (free_at o.stage (holds (λ (r : Reply). not (is_refusal r)) o.reply) first)

-- so all is read out, and stays so whatever is answered
free_out : (s t : Seen) → ((n : ℕ) → is_busy n s ≡ false) → ((n : ℕ) (l : Link) → numbered t.links n ≡ Some l → Was s n l) → AreOut s → AreOut t
free_out s t free links k n l there =
    let was : Was s n l = links n l there in
    let out : IsOut n s was.before = k n was.before was.there in
    record { fair = fair_same was.before l was.same out.fair; part = λ none busy. part_same was.before l was.same (out.part (was.same.over none) (free n)) }

-- what events alone do
begun_now : (e : Event) (s : Seen) → Stays s (call_begun_by e s)
begun_now (event.Begin request) s =
    let u : Seen = record s { calls = s.calls ++ begun_call (length s.calls + 1) (entry s) (now s) request ∷ [] } in
    joined s u (replied (reply.Call (length s.calls + 1)) u) (aside s u refl refl) (answered_so (reply.Call (length s.calls + 1)) refl u)
begun_now e s = aside s s refl refl

dial_by : (again until : ℕ) (s : Seen) (q : Option Subchannel) → Stays s (option_map_or (dial_taken_of again until s) q s)
dial_by again until s None = aside s s refl refl
dial_by again until s (Some b) =
    let r : Reply = reply.Dial b.number b.address until in
    let draw : OpenEntry → OpenEntry = λ (x : OpenEntry). record x { drawn = x.drawn + (if not (b.dials == 0) then 1 else 0) } in
    let u : Seen = record s { subs = changed (with_dial again until) b.number s.subs } in
    let v : Seen = with_sub (with_dial again until) b.number s in
    let w : Seen = record v { current = option_map draw v.current } in
    joined s u (replied r w) (aside s u refl refl)
    (joined u v (replied r w) (noted_now Stays small u (numbered u.subs b.number))
    (joined v w (replied r w) (entered draw (λ x. refl) (λ x e. e) v) (answered_so r refl w)))

-- a link comes up
new_out : (n m : ℕ) (sub : ℕ) (s t : Seen) → IsOut n t (new_link m sub s)
new_out n m sub s t = record {
  fair = record { within = (let none : 0 ≤ 0 = omega arith in none); listed = refl };
  part = λ none free. refl;
}

up_by : (sub : ℕ) (s : Seen) → AreOut s → AreOut (record s { links = s.links ++ new_link (length s.links + 1) sub s ∷ [] })
up_by sub s k zero l there = absurd (let no : None ≡ Some l = there in (cc))
up_by sub s k (suc i) l there = by (past s.links (new_link (length s.links + 1) sub s) l i there)
  where
    by : (slice_get s.links i ≡ Some l) ⊎ ((i ≡ length s.links) × (new_link (length s.links + 1) sub s ≡ l)) → IsOut (suc i) (record s { links = s.links ++ new_link (length s.links + 1) sub s ∷ [] }) l
    by (inl old) = let out : IsOut (suc i) s l = k (suc i) l old in record { fair = out.fair; part = out.part }
    by (inr q) =
        subst (IsOut (suc i) (record s { links = s.links ++ new_link (length s.links + 1) sub s ∷ [] })) q.1
        (new_out (suc i) (length s.links + 1) sub s (record s { links = s.links ++ new_link (length s.links + 1) sub s ∷ [] }))

up_now : (sub : ℕ) (s : Seen) → AreOut s → AreOut (link_up sub s)
up_now sub s k =
    let n : ℕ = length s.links + 1 in
    let v : Seen = record s { links = s.links ++ new_link n sub s ∷ [] } in
    let f : Subchannel → Subchannel = λ (b : Subchannel). record b { link = Some n } in
    let w : Seen = with_sub f sub v in
    kept v (replied (reply.Link n) w)
    (joined v w (replied (reply.Link n) w) (sub_now Stays small f (λ b. (let same : b.dials ≤ b.dials = omega arith in same)) sub v) (answered_so (reply.Link n) refl w)) (up_by sub s k)

-- bytes come
piece_same : (e : Event) (l : Link) → ((with_piece e l).traffic ≡ l.traffic) × ((with_piece e l).over ≡ l.over) × (length l.received ≤ length (with_piece e l).received)
piece_same (event.Arrived link piece) l =
    (refl, refl, (let long : length (l.received ++ piece) ≡ length l.received + length piece = length-append l.received piece in omega (arith, long)))
piece_same e l = (refl, refl, (let same : length l.received ≤ length l.received = omega arith in same))

come_now : (link : ℕ) (o : OpenEntry) (s : Seen) → s.current ≡ Some o → is_at_event o.stage ≡ true → arrives_on link o.event ≡ true → AreOut s
    → AreOut (replied reply.Done (with_link (with_piece o.event) link s))
come_now link o s at first arrives k m l there = by (linked (with_piece o.event) link s m l there)
  where
    by : Linked (with_piece o.event) link s m l → IsOut m (replied reply.Done (with_link (with_piece o.event) link s)) l
    by q = by_how q.how
      where
        out : IsOut m s q.before
        out = k m q.before q.there

        by_how : ((m ≡ link) × (l ≡ with_piece o.event q.before)) ⊎ (l ≡ q.before) → IsOut m (replied reply.Done (with_link (with_piece o.event) link s)) l
        by_how (inl both) =
            let same = piece_same o.event q.before in
            let reads : read_bytes (with_piece o.event q.before) ≡ read_bytes q.before
            = ap (λ (ts : List Traffic). option_map_or (λ (r : ReadFrame). r.end) (last_of (filter_map read_in ts)) 0) same.0 in
            let busy : is_busy m (replied reply.Done (with_link (with_piece o.event) link s)) ≡ true
            = ap (λ (c : Option OpenEntry). option_map_or (λ (z : OpenEntry). arrives_on m z.event && is_after_event z) (option_map (λ (z : OpenEntry). record z { stage = stage.Replied; reply = Some reply.Done }) c) false) at
            ∙ ap (λ (c : Bool). c && true) (ap (λ (j : ℕ). arrives_on j o.event) both.0 ∙ arrives) in
            record {
              fair = subst IsReadFairly (sym both.1)
                  (record {
                    within = within_on (read_bytes (with_piece o.event q.before)) (read_bytes q.before) (length q.before.received) (length (with_piece o.event q.before).received) reads out.fair.within same.2;
                    listed = ap (list_all is_listed_fairly) same.0 ∙ out.fair.listed;
                  });
              part = λ none free. absurd (let bad : true ≡ false = sym busy ∙ free in (cc));
            }
          where
            within_on : (i j n p : ℕ) → i ≡ j → j ≤ n → n ≤ p → i ≤ p
            within_on i j n p e f g = omega (arith, e, f, g)
        by_how (inr same) =
            record {
              fair = subst IsReadFairly (sym same) out.fair;
              part = λ none free.
                  part_same q.before l (subst (λ (z : Link). SameAs q.before z) (sym same) (same_self q.before))
                  (out.part (ap (λ (z : Link). z.over) (sym same) ∙ none) (free_event m o s at first));
            }

-- a frame is read
busy_at : (link : ℕ) (o : OpenEntry) (s : Seen) → s.current ≡ Some o → arrives_on link o.event ≡ true → is_after_event o ≡ true → is_busy link s ≡ true
busy_at link o s at arrives answered =
    ap (λ (c : Option OpenEntry). option_map_or (λ (z : OpenEntry). arrives_on link z.event && is_after_event z) c false) at ∙ and_from (arrives_on link o.event) (is_after_event o) arrives answered

read_by : (link : ℕ) (r : ReadFrame) (o : OpenEntry) (s : Seen) → s.current ≡ Some o → IsKept s → ReadsNext o.event o s link (action.FrameRead link r) → AreOut s → (q : Option Link) → numbered s.links link ≡ q
    → AreOut (option_map_or (frame_read_on r s) q s)
read_by link r o s at in_order reads k None got m l there = k m l there
read_by link r o s at in_order reads k (Some a) got m l there = by (linked (with_frame_read r (owed_for r.frame a s)) a.number s m l there)
  where
    frames : List FrameSeen
    frames = owed_for r.frame a s

    own : a.number ≡ link
    own = counted_at (λ (z : Link). z.number) s.links link a in_order.links got

    shows : next_read a s ≡ nextread.Frame r
    shows =
        shows_by link r a s (is_none a.over) (next_read a s)
        (ap (λ (z : Option Link). option_and_then (read_next link s) z) (sym got) ∙ reads.next)

    by : Linked (with_frame_read r (owed_for r.frame a s)) a.number s m l → IsOut m (frame_read_on r s a) l
    by q = by_how q.how
      where
        out : IsOut m s q.before
        out = k m q.before q.there

        by_how : ((m ≡ a.number) × (l ≡ with_frame_read r (owed_for r.frame a s) q.before)) ⊎ (l ≡ q.before) → IsOut m (frame_read_on r s a) l
        by_how (inl both) =
            let here : m ≡ link = both.0 ∙ own in
            let it : q.before ≡ a = (let one : Some q.before ≡ Some a = sym q.there ∙ ap (numbered s.links) here ∙ got in (cc)) in
            let busy : is_busy m s ≡ true = subst (λ (j : ℕ). is_busy j s ≡ true) (sym here) (busy_at link o s at reads.arrives reads.answered) in
            record {
              fair = subst IsReadFairly (sym both.1) (read_fair q.before r (owed_for r.frame a s) s (ap (λ (z : Link). next_read z s) it ∙ shows) out.fair);
              part = λ none free. absurd (let bad : true ≡ false = sym busy ∙ free in (cc));
            }
        by_how (inr same) =
            record {
              fair = subst IsReadFairly (sym same) out.fair;
              part = λ none free.
                  part_same q.before l (subst (λ (z : Link). SameAs q.before z) (sym same) (same_self q.before))
                  (out.part (ap (λ (z : Link). z.over) (sym same) ∙ none) free);
            }

-- an entry settles
busy_parts : (n : ℕ) (o : OpenEntry) (s : Seen) → s.current ≡ Some o → is_busy n s ≡ true → (arrives_on n o.event ≡ true) × (is_after_event o ≡ true)
busy_parts n o s at busy =
    and_parts (arrives_on n o.event) (is_after_event o)
    (sym (ap (λ (c : Option OpenEntry). option_map_or (λ (q : OpenEntry). arrives_on n q.event && is_after_event q) c false) at) ∙ busy)

frames_none : (b : Bool) (q : Option Action) → b ≡ true → (if b then q else None) ≡ None → q ≡ None
frames_none true q e none = none
frames_none false q e none = absurd (let no : false ≡ true = e in (cc))

read_none : (o : Option LinkOver) (q : Option Action) → o ≡ None → (if is_none o then q else None) ≡ None → q ≡ None
read_none None q e none = none
read_none (Some why) q e none = absurd (let no : Some why ≡ None = e in (cc))

settled_part : (n : ℕ) (l : Link) (o : OpenEntry) (s : Seen) → s.current ≡ Some o → frame_action o s ≡ None → numbered s.links n ≡ Some l → IsOut n s l → l.over ≡ None → (c : Bool) → is_busy n s ≡ c
    → reading_of (drop (read_bytes l) l.received) ≡ Partial
settled_part n l o s at none there out over false e = out.part over e
settled_part n l o s at none there out over true e =
    let both = busy_parts n o s at e in
    let quiet : next_frame_read n s ≡ None = event_link n o.event o s both.0 (frames_none (is_after_event o) (frame_of_event o.event o s) both.1 none) in
    let here : (if is_none l.over then read_action n (next_read l s) else None) ≡ None
    = sym (ap (λ (z : Option Link). option_and_then (read_next n s) z) there) ∙ quiet in
    partial_by (reading_of (drop (read_bytes l) l.received)) l s (nothing_by n (next_read l s) (read_none l.over (read_action n (next_read l s)) over here))

settled_now : (o : OpenEntry) (s : Seen) → s.current ≡ Some o → frame_action o s ≡ None → AreOut s → AreOut (settling s)
settled_now o s at none k n l there =
    let out : IsOut n s l = k n l there in
    record { fair = out.fair; part = λ over free. settled_part n l o s at none there out over (is_busy n s) refl }

-- an entry closes, and opens
get_mapped : (f : Link → Link) (links : List Link) (i : ℕ) → slice_get (map f links) i ≡ option_map f (slice_get links i)
get_mapped f [] i = refl
get_mapped f (l ∷ links) zero = refl
get_mapped f (l ∷ links) (suc i) = get_mapped f links i

gone_same : (s : Seen) (l : Link) (b : Bool) (n : ℕ) → SameAs l (if b then record l { gone = Some n } else l)
gone_same s l true n = same_traffic l (record l { gone = Some n }) refl refl (λ e. e)
gone_same s l false n = same_self l

closed_was : (o : OpenEntry) (s : Seen) (n : ℕ) (l : Link) → numbered (entry_made o s).links n ≡ Some l → Was s n l
closed_was o s zero l there = absurd (let no : None ≡ Some l = there in (cc))
closed_was o s (suc i) l there =
    let b = mapped (noted_gone s) (slice_get s.links i) l (sym (get_mapped (noted_gone s) s.links i) ∙ there) in
    record {
      before = b.0;
      there = b.1;
      same = subst (λ (z : Link). SameAs b.0 z) (sym b.2) (gone_same s b.0 (is_none b.0.gone && is_gone b.0 s) (entry s));
    }

free_closing : (n : ℕ) (o : OpenEntry) (s : Seen) → s.current ≡ Some o → is_after_event o ≡ false → is_busy n s ≡ false
free_closing n o s at settled =
    ap (λ (c : Option OpenEntry). option_map_or (λ (q : OpenEntry). arrives_on n q.event && is_after_event q) c false) at ∙ none_busy (arrives_on n o.event) (is_after_event o) settled

-- each action
out_in : (o : OpenEntry) (a : Action) (s : Seen) → s.current ≡ Some o → IsKept s → IsNext a s → AreOut s → AreOut (after_in o a s)
out_in o action.EntryCloses s at in_order next k =
    free_out s (entry_made o s) (λ n. free_closing n o s at (reports_next s o action.EntryCloses refl at next)) (closed_was o s) k
out_in o action.CallBegins s at in_order next k = kept s (call_begun_by o.event s) (begun_now o.event s) k
out_in o (action.EventRefused why) s at in_order next k =
    free_out s (replied (reply.Refused why) s) (λ n. free_event n o s at (begins_at_event s o (action.EventRefused why) refl refl at next)) (still s) k
out_in o (action.EventAnswered r) s at in_order next k =
    free_out s (replied r s) (λ n. free_event n o s at (begins_at_event s o (action.EventAnswered r) refl refl at next)) (still s) k
out_in o (action.ItemTaken call item) s at in_order next k =
    free_out s (item_taken call item s) (λ n. free_event n o s at (begins_at_event s o (action.ItemTaken call item) refl refl at next)) (still s) k
out_in o action.SettlingBegins s at in_order next k = settled_now o s at (reports_next s o action.SettlingBegins refl at next) k
out_in o (action.DialTaken sub again until) s at in_order next k = kept s (after_in o (action.DialTaken sub again until) s) (dial_by again until s (numbered s.subs sub)) k
out_in o (action.LinkUp sub) s at in_order next k = up_now sub s k
out_in o (action.BytesArrive link) s at in_order next k =
    come_now link o s at (begins_at_event s o (action.BytesArrive link) refl refl at next) (reports_next s o (action.BytesArrive link) refl at next) k
out_in o (action.FrameRead link r) s at in_order next k = read_by link r o s at in_order (reports_next s o (action.FrameRead link r) refl at next) k (numbered s.links link) refl
out_in o (action.FrameWritten link x) s at in_order next k =
    kept s (after_in o (action.FrameWritten link x) s)
    (written_in Stays small (λ stream n v. aside v (with_attempt (with_stream stream) n v) refl refl)
    (λ y n v. link_now (λ (l : Link). record l { traffic = l.traffic ++ traffic.Written y ∷ [] }) (written_same y) n v) link x s) k
out_in o (action.PickRequested row generation answer) s at in_order next k =
    kept s (after_in o (action.PickRequested row generation answer) s) (asked_in Stays small (λ ask v. aside v (record v { asks = v.asks ++ ask ∷ [] }) refl refl) row generation answer s) k
out_in o (action.AttemptPlaced row on_link) s at in_order next k =
    kept s (after_in o (action.AttemptPlaced row on_link) s) (placed_in Stays small (λ at_it n v. aside v (with_attempt (with_placing at_it) n v) refl refl) row on_link s) k
out_in o a s at in_order next k = kept s (after_in o a s) (small_in Stays small o a s refl) k

out_if : (o : Option OpenEntry) (a : Action) (s : Seen) → s.current ≡ o → IsKept s → IsNext a s → AreOut s → AreOut (after_if o a s)
out_if (Some o) a s at in_order next k = out_in o a s at in_order next k
out_if None (action.EntryOpens posted word e) s at in_order next k =
    free_out s (opened posted word e s)
    (λ n. ap (λ (c : Option OpenEntry). option_map_or (λ (q : OpenEntry). arrives_on n q.event && is_after_event q) c false) at) (still s) k
out_if None a s at in_order next k = k

out_along : (actions : List Action) (s t : Seen) → IsKept s → AreOut s → Does actions s t → AreOut t
out_along [] s t in_order k does = subst AreOut (sym does) k
out_along (a ∷ actions) s t in_order k does =
    out_along actions (after a s) t (kept_stays s a in_order does.0) (out_if s.current a s refl in_order does.0 k) does.1

none_there : (setup : Setup) → AreOut (new_session setup)
none_there setup zero l there = absurd (let no : None ≡ Some l = there in (cc))
none_there setup (suc i) l there = absurd (let no : None ≡ Some l = there in (cc))

pub links_are_read_out : LinksAreReadOut
links_are_read_out setup actions s does o at first link l there =
    let out : IsOut link s l = out_along actions (new_session setup) s (kept_begins setup) (none_there setup) does link l there in
    record { fair = out.fair; part = λ none. out.part none (free_event link o s at (ap is_at_event first)) }
