-- What a frame that is read or written brings to a call.
-- of the link of an attempt: as before, or with one thing more
use Rattle.attempt_ledger.specs.declared.row.Placed.{Placed}
use Rattle.attempt_ledger.specs.declared.row.RowEnd.{RowEnd}
use Rattle.channel_actions.proofs.ActionsFit.Lines.{next_actions_fit}
use Rattle.channel_actions.specs.FewCalls.Reached.{IsReached}
use Rattle.grpc_base.specs.declared.event.Reply.{Reply}
use Rattle.h2_frame.specs.Frames.{FrameSeen}
use Rattle.h2_frame.specs.Numbers.{headers_type}
use Rattle.session_actions.specs.Actions.{after_in, following}
use Rattle.session_actions.specs.Attempts.{call_of, commitment, is_of, is_outstanding, with_attempt}
use Rattle.session_actions.specs.Deliveries.{response_items}
use Rattle.session_actions.specs.Reading.{is_outstanding_on, outstanding_on}
use Rattle.session_actions.specs.Responses.{limit_of_attempt, response_in}
use Rattle.session_actions.specs.Words.{changed, holds, numbered}
use Rattle.session_actions.specs.Writing.{frame_read_on, frame_written_on, owed_for, stream_opened, stream_opened_by, waiting_on, with_frame_read, with_stream}
use Rattle.session_actions.specs.declared.attempt.Attempt.{Attempt}
use Rattle.session_actions.specs.declared.call.Call.{Call}
use Rattle.session_actions.specs.declared.entry.OpenEntry.{OpenEntry}
use Rattle.session_actions.specs.declared.link.Link.{Link}
use Rattle.session_actions.specs.declared.link.ReadFrame.{ReadFrame}
use Rattle.session_actions.specs.declared.link.Sent.{Sent}
use Rattle.session_actions.specs.declared.link.Traffic.{Traffic}
use Rattle.session_actions.specs.declared.seen.Seen.{Seen}
use Rattle.session_order.proofs.Changed.{changed_away, changed_map}
use Rattle.session_order.proofs.SessionLaws.Found.{AtFiltered, filter_at, none_of, same_of}
use Rattle.session_order.specs.Stirs.{SawLess}
use Rattle.session_takes.proofs.Cuts.{never_outstanding}
use Rattle.session_takes.proofs.Prefixes.{IsPrefix, prefix_of_none, prefix_same}
use Rattle.session_takes.proofs.Continues.{Continues, early, goes_by, kept, one_changed, own_key, place, quiet_limits}
use Rattle.session_takes.proofs.Growing.{more_grows, read_is_later, written_adds_none}
use Rattle.session_takes.proofs.Received.{KeepsLimits, alike_items, items_at, items_is, limit_same, no_stream, row_moves, traffic_on}
use Rattle.session_takes.proofs.Pairs.{AllMove, Receives, Moves, MovesIf, items, last_moves, moves_self}
use Rattle.session_takes.proofs.Rows.{OpensOne, opened_rows}
use Rattle.std.proofs.Common.{Bool, List, None, Option, Some, [], ap, false, if◌then◌else◌, inl, inr, is_none, is_some, refl, slice_get, subst, suc, sym, true, ℕ, ◌&&◌, ◌++◌, ◌<◌, ◌==◌, ◌∙◌, ◌∷◌, ◌≡◌, ◌⊎◌}
use Rattle.std.proofs.lemmas.Bool.{and_parts, eqb-false, eqb-true}
use Rattle.std.specs.Option.{option_map, option_map_or}
use Rattle.std.specs.Prelude.{option_and_then}
use Rattle.session_actions.specs.declared.action.Action.TheVariants as action
use Rattle.session_actions.specs.declared.link.Sent.TheVariants as sent
use Rattle.session_actions.specs.declared.link.Traffic.TheVariants as traffic

record IsMore (a : Attempt) (n : ℕ) (before after_ : List Link) (x : Traffic) : Type 0 where
  at : Placed
  placed : a.row.placed ≡ Some at
  on : at.link ≡ n
  passed : List Traffic
  was : traffic_on a before ≡ Some passed
  is : traffic_on a after_ ≡ Some (passed ++ x ∷ [])

added_by : (f : Link → Link) (x : Traffic) → ((l : Link) → (f l).traffic ≡ l.traffic ++ x ∷ []) → (n : ℕ) (links : List Link) (a : Attempt) (at : Placed) → a.row.placed ≡ Some at → at.link ≡ n
    → (o : Option Link) → numbered links n ≡ o → (traffic_on a (changed f n links) ≡ traffic_on a links) ⊎ IsMore a n links (changed f n links) x
added_by f x adds n links a at placed on None got =
    inl (ap (λ (p : Option Placed). option_map (λ (l : Link). l.traffic) (option_and_then (λ (q : Placed). numbered (changed f n links) q.link) p)) placed
    ∙ ap (λ (k : ℕ). option_map (λ (l : Link). l.traffic) (numbered (changed f n links) k)) on
    ∙ ap (option_map (λ (l : Link). l.traffic)) (changed_map f n links)
    ∙ ap (λ (p : Option Link). option_map (λ (l : Link). l.traffic) (option_map f p)) got
    ∙ ap (option_map (λ (l : Link). l.traffic)) (sym got)
    ∙ ap (λ (k : ℕ). option_map (λ (l : Link). l.traffic) (numbered links k)) (sym on)
    ∙ ap (λ (p : Option Placed). option_map (λ (l : Link). l.traffic) (option_and_then (λ (q : Placed). numbered links q.link) p)) (sym placed))
added_by f x adds n links a at placed on (Some l) got =
    inr (record {
      at = at;
      placed = placed;
      on = on;
      passed = l.traffic;
      was = ap (λ (p : Option Placed). option_map (λ (l : Link). l.traffic) (option_and_then (λ (q : Placed). numbered links q.link) p)) placed
          ∙ ap (λ (k : ℕ). option_map (λ (l : Link). l.traffic) (numbered links k)) on ∙ ap (option_map (λ (l : Link). l.traffic)) got;
      is = ap (λ (p : Option Placed). option_map (λ (l : Link). l.traffic) (option_and_then (λ (q : Placed). numbered (changed f n links) q.link) p)) placed
          ∙ ap (λ (k : ℕ). option_map (λ (l : Link). l.traffic) (numbered (changed f n links) k)) on
          ∙ ap (option_map (λ (l : Link). l.traffic)) (changed_map f n links)
          ∙ ap (λ (p : Option Link). option_map (λ (l : Link). l.traffic) (option_map f p)) got
          ∙ ap (λ (ts : List Traffic). Some ts) (adds l);
    })

added_at : (f : Link → Link) (x : Traffic) → ((l : Link) → (f l).traffic ≡ l.traffic ++ x ∷ []) → (n : ℕ) (links : List Link) (a : Attempt) (at : Placed) → a.row.placed ≡ Some at
    → (b : Bool) → (at.link == n) ≡ b → (traffic_on a (changed f n links) ≡ traffic_on a links) ⊎ IsMore a n links (changed f n links) x
added_at f x adds n links a at placed true e = added_by f x adds n links a at placed (eqb-true at.link n e) (numbered links n) refl
added_at f x adds n links a at placed false e =
    inl (ap (λ (p : Option Placed). option_map (λ (l : Link). l.traffic) (option_and_then (λ (q : Placed). numbered (changed f n links) q.link) p)) placed
    ∙ ap (option_map (λ (l : Link). l.traffic)) (changed_away f n at.link links (eqb-false at.link n e))
    ∙ ap (λ (p : Option Placed). option_map (λ (l : Link). l.traffic) (option_and_then (λ (q : Placed). numbered links q.link) p)) (sym placed))

added_if : (f : Link → Link) (x : Traffic) → ((l : Link) → (f l).traffic ≡ l.traffic ++ x ∷ []) → (n : ℕ) (links : List Link) (a : Attempt) (p : Option Placed) → a.row.placed ≡ p
    → (traffic_on a (changed f n links) ≡ traffic_on a links) ⊎ IsMore a n links (changed f n links) x
added_if f x adds n links a None e =
    inl (ap (λ (p : Option Placed). option_map (λ (l : Link). l.traffic) (option_and_then (λ (q : Placed). numbered (changed f n links) q.link) p)) e
    ∙ ap (λ (p : Option Placed). option_map (λ (l : Link). l.traffic) (option_and_then (λ (q : Placed). numbered links q.link) p)) (sym e))
added_if f x adds n links a (Some at) e = added_at f x adds n links a at e (at.link == n) refl

added : (f : Link → Link) (x : Traffic) → ((l : Link) → (f l).traffic ≡ l.traffic ++ x ∷ []) → (n : ℕ) (links : List Link) (a : Attempt)
    → (traffic_on a (changed f n links) ≡ traffic_on a links) ⊎ IsMore a n links (changed f n links) x
added f x adds n links a = added_if f x adds n links a a.row.placed refl

opened_calls_if : (f : FrameSeen) (l : Link) (s : Seen) (o : Option Attempt) → (option_map_or (λ (a : Attempt). with_attempt (with_stream f.stream) a.place s) o s).calls ≡ s.calls
opened_calls_if f l s None = refl
opened_calls_if f l s (Some a) = refl

opened_calls_by : (b : Bool) (f : FrameSeen) (l : Link) (s : Seen) → (if b then stream_opened f l s else s).calls ≡ s.calls
opened_calls_by true f l s = opened_calls_if f l s (slice_get (waiting_on l s) 0)
opened_calls_by false f l s = refl

opened_calls : (x : Sent) (l : Link) (s : Seen) → (stream_opened_by x l s).calls ≡ s.calls
opened_calls sent.Preface l s = refl
opened_calls (sent.Frame f) l s = opened_calls_by (f.kind == headers_type) f l s

opened_links_if : (f : FrameSeen) (l : Link) (s : Seen) (o : Option Attempt) → (option_map_or (λ (a : Attempt). with_attempt (with_stream f.stream) a.place s) o s).links ≡ s.links
opened_links_if f l s None = refl
opened_links_if f l s (Some a) = refl

opened_links_by : (b : Bool) (f : FrameSeen) (l : Link) (s : Seen) → (if b then stream_opened f l s else s).links ≡ s.links
opened_links_by true f l s = opened_links_if f l s (slice_get (waiting_on l s) 0)
opened_links_by false f l s = refl

opened_links : (x : Sent) (l : Link) (s : Seen) → (stream_opened_by x l s).links ≡ s.links
opened_links sent.Preface l s = refl
opened_links (sent.Frame f) l s = opened_links_by (f.kind == headers_type) f l s

-- the first one that waits on a link
record IsWaiting (s : Seen) (w : Attempt) : Type 0 where
  index : ℕ
  here : slice_get s.attempts index ≡ Some w
  goes : is_outstanding w ≡ true
  stream : w.row.stream ≡ None

waiting : (l : Link) (s : Seen) (w : Attempt) → slice_get (waiting_on l s) 0 ≡ Some w → IsWaiting s w
waiting l s w got =
    let f : AtFiltered (λ (a : Attempt). is_none a.row.stream) (outstanding_on l s) w = filter_at (λ (a : Attempt). is_none a.row.stream) (outstanding_on l s) 0 w got in
    let h : AtFiltered (is_outstanding_on l) s.attempts w = filter_at (is_outstanding_on l) s.attempts f.at.index w f.at.here in
    record {
      index = h.at.index;
      here = h.at.here;
      goes = (and_parts (is_outstanding w) (holds (λ (at : Placed). at.link == l.number) w.row.placed) h.passes).0;
      stream = none_of w.row.stream f.passes;
    }

module _ (s : Seen) (reached : IsReached s) (c : Call) (own : numbered s.calls c.number ≡ Some c) (o : OpenEntry) (current : s.current ≡ Some o) where
  call_is : (a : Attempt) → is_of c a ≡ true → call_of a s ≡ Some c
  call_is a mine = ap (numbered s.calls) (eqb-true a.row.call c.number mine) ∙ own

  -- a frame that is read
  module _ (link : ℕ) (r : ReadFrame) (next : following s ≡ Some (action.FrameRead link r)) (l : Link) (got : numbered s.links link ≡ Some l) where
    abbrev t : Seen
    t = after_in o (action.FrameRead link r) s

    t_is : t ≡ frame_read_on r s l
    t_is = ap (λ (p : Option Link). option_map_or (frame_read_on r s) p s) got

    limits : KeepsLimits s t
    limits = quiet_limits s o (action.FrameRead link r) refl

    less : SawLess l.number r s
    less = next_actions_fit o s (action.FrameRead link r) (kept s reached c own) (early s reached c own) current next l got

    lines : (a : Attempt) → (traffic_on a t.links ≡ traffic_on a s.links) ⊎ IsMore a l.number s.links t.links (traffic.Read r)
    lines a =
        subst (λ (z : Seen). (traffic_on a z.links ≡ traffic_on a s.links) ⊎ IsMore a l.number s.links z.links (traffic.Read r)) (sym t_is)
        (added (with_frame_read r (owed_for r.frame l s)) (traffic.Read r) (λ k. refl) l.number s.links a)

    -- what more is seen of it
    at_limit : (a : Attempt) → limit_of_attempt a t ≡ limit_of_attempt a s
    at_limit a = limit_same s t a a limits refl

    items_then : (a : Attempt) (m : IsMore a l.number s.links t.links (traffic.Read r)) (ended : Option RowEnd) (stream : Option ℕ) → a.row.ended ≡ ended → a.row.stream ≡ stream
        → items a t ≡ items_at (limit_of_attempt a s) ended (Some (m.passed ++ traffic.Read r ∷ [])) stream
    items_then a m ended stream e f =
        items_is a t ∙ ap (λ (n : ℕ). items_at n a.row.ended (traffic_on a t.links) a.row.stream) (at_limit a)
        ∙ ap (λ (x : Option RowEnd). items_at (limit_of_attempt a s) x (traffic_on a t.links) a.row.stream) e
        ∙ ap (λ (x : Option (List Traffic)). items_at (limit_of_attempt a s) ended x a.row.stream) m.is
        ∙ ap (items_at (limit_of_attempt a s) ended (Some (m.passed ++ traffic.Read r ∷ []))) f

    items_now : (a : Attempt) (m : IsMore a l.number s.links t.links (traffic.Read r)) (ended : Option RowEnd) (stream : Option ℕ) → a.row.ended ≡ ended → a.row.stream ≡ stream
        → items a s ≡ items_at (limit_of_attempt a s) ended (Some m.passed) stream
    items_now a m ended stream e f =
        items_is a s ∙ ap (λ (x : Option RowEnd). items_at (limit_of_attempt a s) x (traffic_on a s.links) a.row.stream) e
        ∙ ap (λ (x : Option (List Traffic)). items_at (limit_of_attempt a s) ended x a.row.stream) m.was
        ∙ ap (items_at (limit_of_attempt a s) ended (Some m.passed)) f

    more_by : (i : ℕ) (a : Attempt) → slice_get s.attempts i ≡ Some a → is_of c a ≡ true → (m : IsMore a l.number s.links t.links (traffic.Read r)) (ended : Option RowEnd) (stream : Option ℕ)
        → a.row.ended ≡ ended → a.row.stream ≡ stream → Receives (is_some c.end) s t a a
    more_by i a there mine m ended None e f =
        let same : items a t ≡ items a s = items_then a m ended None e f ∙ sym (items_now a m ended None e f) in
        record { prefix = prefix_same (items a s) (items a t) same; still = λ x. same; ended = λ x. refl }
    more_by i a there mine m (Some end) (Some stream) e f =
        let later : end.seen < r.end = less (suc i) a end m.at there e m.placed m.on in
        let same : items a t ≡ items a s
        = items_then a m (Some end) (Some stream) e f
        ∙ ap (λ (ts : List Traffic). response_items (response_in (limit_of_attempt a s) stream ts)) (read_is_later end.seen r m.passed later)
        ∙ sym (items_now a m (Some end) (Some stream) e f) in
        record { prefix = prefix_same (items a s) (items a t) same; still = λ x. same; ended = λ x. refl }
    more_by i a there mine m None (Some stream) e f = record {
      prefix = subst (λ (x : List Reply). IsPrefix x (items a t)) (sym (items_now a m None (Some stream) e f))
          (subst (λ (x : List Reply). IsPrefix (response_items (response_in (limit_of_attempt a s) stream m.passed)) x) (sym (items_then a m None (Some stream) e f))
          (more_grows (limit_of_attempt a s) stream m.passed (traffic.Read r)));
      still = λ closed. absurd
          (never_outstanding s (action.FrameRead link r) o current next refl c i a there (call_is a mine) closed
          (and_so (ap (λ (p : Option Placed). is_some p) m.placed) (ap (λ (p : Option RowEnd). is_none p) e)));
      ended = λ x. refl;
    }
      where
        and_so : is_some a.row.placed ≡ true → is_none a.row.ended ≡ true → is_outstanding a ≡ true
        and_so p q = ap (λ (b : Bool). b && is_none a.row.ended) p ∙ q

    read_moves : (i : ℕ) (a : Attempt) → slice_get s.attempts i ≡ Some a → (traffic_on a t.links ≡ traffic_on a s.links) ⊎ IsMore a l.number s.links t.links (traffic.Read r) → Moves c s t a a
    read_moves i a there (inl same) =
        row_moves c s t a a refl refl (λ e. refl) (alike_items s t a a (record { limit = at_limit a; ended = refl; traffic = same; stream = refl }))
    read_moves i a there (inr m) = record { call = refl; committed = refl; receives = λ mine. more_by i a there mine m a.row.ended a.row.stream refl refl }

    pub read_goes : Continues s t c 0
    read_goes =
        goes_by s reached c own t (ap (λ (z : Seen). option_map own_key (numbered z.calls c.number)) t_is)
        (λ d number.
        last_moves c d s t number s.attempts t.attempts
        (subst (λ (rows : List Attempt). AllMove c s t s.attempts rows) (sym (ap (λ (z : Seen). z.attempts) t_is))
        (moves_self c d s t number s.attempts (λ i a there. read_moves i a there (lines a)))))

  -- a frame that is written
  module _ (link : ℕ) (x : Sent) (next : following s ≡ Some (action.FrameWritten link x)) (l : Link) (got : numbered s.links link ≡ Some l) where
    abbrev u : Seen
    u = after_in o (action.FrameWritten link x) s

    u_is : u ≡ frame_written_on x s l
    u_is = ap (λ (p : Option Link). option_map_or (frame_written_on x s) p s) got

    limits_then : KeepsLimits s u
    limits_then = quiet_limits s o (action.FrameWritten link x) refl

    lines_then : (a : Attempt) → (traffic_on a u.links ≡ traffic_on a s.links) ⊎ IsMore a l.number s.links u.links (traffic.Written x)
    lines_then a =
        subst (λ (z : Seen). (traffic_on a z.links ≡ traffic_on a s.links) ⊎ IsMore a l.number s.links z.links (traffic.Written x)) (sym u_is)
        (subst
        (λ (ls : List Link). (traffic_on a (changed (λ (k : Link). record k { traffic = k.traffic ++ traffic.Written x ∷ [] }) l.number ls) ≡ traffic_on a s.links)
        ⊎ IsMore a l.number s.links (changed (λ (k : Link). record k { traffic = k.traffic ++ traffic.Written x ∷ [] }) l.number ls) (traffic.Written x))
        (sym (opened_links x l s))
        (added (λ (k : Link). record k { traffic = k.traffic ++ traffic.Written x ∷ [] }) (traffic.Written x) (λ k. refl) l.number s.links a))

    written_by : (a : Attempt) (ended : Option RowEnd) (stream : Option ℕ) (ts : List Traffic)
        → items_at (limit_of_attempt a s) ended (Some (ts ++ traffic.Written x ∷ [])) stream ≡ items_at (limit_of_attempt a s) ended (Some ts) stream
    written_by a ended None ts = refl
    written_by a ended (Some stream) ts = written_adds_none (limit_of_attempt a s) stream ended ts x

    same_items : (a : Attempt) → (traffic_on a u.links ≡ traffic_on a s.links) ⊎ IsMore a l.number s.links u.links (traffic.Written x) → items a u ≡ items a s
    same_items a (inl same) = alike_items s u a a (record { limit = limit_same s u a a limits_then refl; ended = refl; traffic = same; stream = refl })
    same_items a (inr m) =
        items_is a u ∙ ap (λ (n : ℕ). items_at n a.row.ended (traffic_on a u.links) a.row.stream) (limit_same s u a a limits_then refl)
        ∙ ap (λ (p : Option (List Traffic)). items_at (limit_of_attempt a s) a.row.ended p a.row.stream) m.is
        ∙ written_by a a.row.ended a.row.stream m.passed
        ∙ ap (λ (p : Option (List Traffic)). items_at (limit_of_attempt a s) a.row.ended p a.row.stream) (sym m.was)
        ∙ sym (items_is a s)

    others_move : (i : ℕ) (a : Attempt) → slice_get s.attempts i ≡ Some a → Moves c s u a a
    others_move i a there = row_moves c s u a a refl refl (λ e. refl) (same_items a (lines_then a))

    -- the attempt that gets a stream
    opens_move : (n : ℕ) (w a : Attempt) (f : IsWaiting s w) → numbered s.attempts w.place ≡ Some a → Moves c s u a (with_stream n a)
    opens_move n w a f there =
        let at : w.place ≡ suc f.index = (place s reached c own).attempts (suc f.index) w f.here in
        let one : w ≡ a = same_of (numbered s.attempts w.place) w a (ap (numbered s.attempts) at ∙ f.here) there in
        let none : items a s ≡ [] = no_stream a s (ap (λ (z : Attempt). z.row.stream) (sym one) ∙ f.stream) in
        record {
          call = refl;
          committed = refl;
          receives = λ mine. record {
            prefix = prefix_of_none (items a s) (items (with_stream n a) u) none;
            still = λ closed. absurd
                (never_outstanding s (action.FrameWritten link x) o current next refl c f.index a (f.here ∙ ap (λ (z : Attempt). Some z) one) (call_is a mine) closed
                (ap is_outstanding (sym one) ∙ f.goes));
            ended = λ e. refl;
          };
        }

    written_moves : (d : Call) → d.number ≡ c.number → ((stream_opened_by x l s).attempts ≡ s.attempts) ⊎ OpensOne l s (stream_opened_by x l s).attempts
        → MovesIf (is_some c.end) s u (commitment c s) (commitment d u)
    written_moves d number (inl same) =
        last_moves c d s u number s.attempts u.attempts
        (subst (λ (rows : List Attempt). AllMove c s u s.attempts rows) (sym (ap (λ (z : Seen). z.attempts) u_is ∙ same)) (moves_self c d s u number s.attempts others_move))
    written_moves d number (inr k) =
        one_changed s reached c own u (with_stream k.number) k.waits.place (ap (λ (z : Seen). z.attempts) u_is ∙ k.is) others_move
        (λ a there. opens_move k.number k.waits a (waiting l s k.waits k.first) there) d number

    pub written_goes : Continues s u c 0
    written_goes =
        goes_by s reached c own u
        (ap (λ (z : Seen). option_map own_key (numbered z.calls c.number)) u_is ∙ ap (λ (cs : List Call). option_map own_key (numbered cs c.number)) (opened_calls x l s))
        (λ d number. written_moves d number (opened_rows x l s))
