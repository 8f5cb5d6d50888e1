-- An attempt that waits for a pick is placed on a link.
use Rattle.std.proofs.Common.{◌≡◌, ◌∷◌, ◌++◌, ◌||◌, ◌&&◌, ◌==◌, not, nat_lt, ap, refl, subst, sym, ◌∙◌, Bool, true, false, List, [], Option, None, Some, ℕ, filter, if◌then◌else◌, is_none, is_some, map, option_map}
use Rattle.std.proofs.lemmas.Bool.{and_parts, eq-eqb, eqb-true, ne_eqb, not_from_true, or_right}
use Rattle.std.proofs.lemmas.List.{append-nil}
use Rattle.std.proofs.lemmas.List.Elements.{filter_map-append}
use Rattle.std.proofs.lemmas.List.Folds.{list_all-append}
use Rattle.std.specs.List.{list_all, list_any}
use Rattle.std.specs.Option.{option_map_or}
use Rattle.std.specs.Prelude.{filter_map}
use Rattle.attempt_ledger.specs.declared.ledger.CallSeen.{CallSeen}
use Rattle.attempt_ledger.specs.declared.row.Placed.{Placed}
use Rattle.attempt_ledger.specs.declared.row.Row.{Row}
use Rattle.attempt_ledger.specs.declared.row.RowEnd.{RowEnd}
use Rattle.call_actions.proofs.Columns as columns
use Rattle.call_actions.proofs.Columns.{written, written_seen}
use Rattle.call_actions.proofs.Frames as frames
use Rattle.call_actions.proofs.Lists.{changed_here}
use Rattle.call_actions.proofs.PlacedFrames as placing
use Rattle.call_actions.proofs.PlacedFrames.{none_bad}
use Rattle.call_actions.proofs.Places.{changed_is, found_live, numbered_written, only_here, place_is, rows_are}
use Rattle.call_actions.proofs.Ranks.{all_so, any_map_all, filter_mapped, map_through, numbered_map}
use Rattle.call_actions.proofs.Report.{fold_last}
use Rattle.call_actions.specs.Laws.{AttemptsArePlaced}
use Rattle.call_actions.specs.Order.{IsInOrder, Keeps, is_beyond, is_own_mark}
use Rattle.call_actions.specs.Sees.{AttemptsAgree, DuesAgree, Sees, is_live, live_row, live_rows}
use Rattle.call_core.specs.Parts.{begun_row, find_live, linked, names, placed_attempts}
use Rattle.call_core.specs.Steps as steps
use Rattle.call_core.specs.Steps.{Stepped, placed_if_live}
use Rattle.call_core.specs.declared.attempts.Attempts.{Attempts}
use Rattle.call_core.specs.declared.live.LiveRow.{LiveRow}
use Rattle.ledger_stamps.specs.Steps as stamps
use Rattle.session_actions.specs.Attempts.{is_of, is_outstanding, is_over, is_queued, marked_row}
use Rattle.session_actions.specs.Calls.{marked}
use Rattle.session_actions.specs.DueAttempts.{counted_row, due_after_mark, due_state, last_counted, no_due}
use Rattle.session_actions.specs.Entries.{now}
use Rattle.session_actions.specs.Policies.{attempt_placed, with_placing}
use Rattle.session_actions.specs.Sessions.{call_seen}
use Rattle.session_actions.specs.Tokens.{run_of}
use Rattle.session_actions.specs.Words.{changed, is_number, last_of, numbered}
use Rattle.session_actions.specs.declared.attempt.Attempt.{Attempt}
use Rattle.session_actions.specs.declared.call.Call.{Call}
use Rattle.session_actions.specs.declared.call.Mark.{Mark}
use Rattle.session_actions.specs.declared.call.MarkKind.{MarkKind}
use Rattle.session_actions.specs.declared.call.MarkKind.TheVariants as mark
use Rattle.session_actions.specs.declared.due.DueState.{DueState}
use Rattle.session_actions.specs.declared.seen.Seen.{Seen}

abbrev seen_with : CallSeen → List ℕ → CallSeen
seen_with k made = record k { made = made }

none_of : {X : Type 0} (o : Option X) → is_none o ≡ true → o ≡ None
none_of None e = refl
none_of (Some x) e = absurd (cc)

names_is : (n : ℕ) (o : Option ℕ) → is_number n o ≡ names n o
names_is n None = refl
names_is n (Some m) = refl

-- when the newest attempt was placed
abbrev placed_at_if : Bool → ℕ → DueState → DueState
placed_at_if b moment d = if b then record d { placed = Some moment } else d

abbrev placed_in : Bool → ℕ → Attempts → Attempts
placed_in b moment a = record a { placed = (if b then Some moment else a.placed) }

placed_due : (b : Bool) (moment : ℕ) (d : DueState) (a : Attempts) → DuesAgree d a → DuesAgree (placed_at_if b moment d) (placed_in b moment a)
placed_due true moment d a due = record { newest = due.newest; placed = refl; stopped = due.stopped; forced = due.forced }
placed_due false moment d a due = record { newest = due.newest; placed = due.placed; stopped = due.stopped; forced = due.forced }

newest_if : (b : Bool) (moment : ℕ) (d : DueState) → (placed_at_if b moment d).newest ≡ d.newest
newest_if true moment d = refl
newest_if false moment d = refl

stopped_if : (b : Bool) (moment : ℕ) (d : DueState) → (placed_at_if b moment d).stopped ≡ d.stopped
stopped_if true moment d = refl
stopped_if false moment d = refl

module _ (s : Seen) (c : Call) (x : Stepped) (place : ℕ) (a : Attempt) (at : Placed) (h : Sees s c x) (o : IsInOrder s c) (got : numbered s.attempts place ≡ Some a)
    (own : is_of c a ≡ true) (waits : is_queued a s ≡ true) (moment : at.moment ≡ now s) where
  unplaced : a.row.placed ≡ None
  unplaced =
      let both : ((is_none a.row.placed && is_none a.row.ended) ≡ true) × (not (is_over a s) ≡ true)
      = and_parts (is_none a.row.placed && is_none a.row.ended) (not (is_over a s)) waits in
      let first : (is_none a.row.placed ≡ true) × (is_none a.row.ended ≡ true) = and_parts (is_none a.row.placed) (is_none a.row.ended) both.0 in
      none_of a.row.placed first.0

  -- the columns
  abbrev put : Bool → Attempt → Attempt
  put b q = record q { row = record q.row { placed = (if b then Some at else q.row.placed); ended = q.row.ended } }

  abbrev pl : Attempt → Option Placed
  pl q = if q.place == place then Some at else q.row.placed

  abbrev en : Attempt → Option RowEnd
  en q = q.row.ended

  abbrev g : Attempt → Attempt
  g q = written pl en q

  its_place : a.place ≡ place
  its_place = place_is place s.attempts a o.places got

  here : g a ≡ with_placing at a
  here = ap (λ (b : Bool). put b a) (eq-eqb a.place place its_place)

  away : (q : Attempt) → (q.place ≡ place → ⊥) → g q ≡ q
  away q off = ap (λ (b : Bool). put b q) (ne_eqb q.place place off)

  row_here : (g a).row ≡ stamps.placed_row at a.row
  row_here =
      ap (λ (q : Attempt). q.row) here ∙ sym (ap (λ (p : Option Placed). record a.row { placed = stamps.stamped at p }) unplaced)

  -- what the session then is
  abbrev w : Mark
  w = record { what = mark.Placed place; moment = now s }

  abbrev d : Call
  d = record c { marks = c.marks ++ w ∷ [] }

  abbrev more : Seen
  more = written_seen pl en s

  abbrev t : Seen
  t = record more { calls = changed (λ (k : Call). record k { marks = k.marks ++ w ∷ [] }) c.number s.calls }

  is_placed : attempt_placed place at s ≡ t
  is_placed =
      ap (λ (l : List Attempt). marked_row (mark.Placed place) place (record s { attempts = l })) (changed_is (with_placing at) g place a here away s.attempts o.places got)
      ∙ ap (λ (q : Option Attempt). option_map_or (λ (q : Attempt). marked (mark.Placed place) q.row.call more) q more)
      (numbered_map g s.attempts place ∙ ap (option_map g) got)
      ∙ ap (λ (n : ℕ). marked (mark.Placed place) n more) (eqb-true a.row.call c.number own)

  abbrev is_newest : Bool
  is_newest = is_number place (due_state c s).newest

  due_now : due_state d t ≡ placed_at_if is_newest (now s) (due_state c s)
  due_now =
      fold_last (λ (z : DueState) (m : Mark). due_after_mark d t m.what m.moment z) no_due c.marks w
      ∙ ap (λ (z : DueState). due_after_mark d t w.what w.moment z)
      (frames.due_same more c.number (λ k. k.messages) (λ k. k.finished) (λ k. k.taken) (λ k. k.end_taken) (λ k. k.marks ++ w ∷ []) (λ k. k.end) s.current c no_due c.marks
      ∙ placing.due_same s pl c no_due c.marks)

  rows_now : last_counted d t ≡ last_counted c s
  rows_now =
      ap last_of
      (filter_map-append (λ (m : Mark). counted_row t m.what) c.marks (w ∷ []) ∙ append-nil (filter_map (λ (m : Mark). counted_row t m.what) c.marks)
      ∙ frames.counted_rows_same more c.number (λ k. k.messages) (λ k. k.finished) (λ k. k.taken) (λ k. k.end_taken) (λ k. k.marks ++ w ∷ []) (λ k. k.end) s.current c.marks
      ∙ placing.counted_rows_same s pl c.marks)

  newest_same : is_newest ≡ names place x.call.attempts.newest
  newest_same = names_is place (due_state c s).newest ∙ ap (names place) h.attempts.due.newest

  due_is : DuesAgree (placed_at_if is_newest (now s) (due_state c s)) (placed_attempts place at.moment x.call.attempts)
  due_is =
      subst (λ (n : ℕ). DuesAgree (placed_at_if is_newest (now s) (due_state c s)) (placed_attempts place n x.call.attempts)) (sym moment)
      (subst (λ (b : Bool). DuesAgree (placed_at_if is_newest (now s) (due_state c s)) (placed_in b (now s) x.call.attempts)) newest_same
      (placed_due is_newest (now s) (due_state c s) x.call.attempts h.attempts.due))

  none_newest : x.call.attempts.sent ≡ 0 → x.call.attempts.newest ≡ None
  none_newest e = sym h.attempts.due.newest ∙ o.first (h.attempts.sent ∙ e)

  attempts_now : AttemptsAgree t d (placed_attempts place at.moment x.call.attempts)
  attempts_now =
      let k : AttemptsAgree s c x.call.attempts = h.attempts in
      record {
        sent = placing.made_same s pl c ∙ k.sent;
        due = subst (λ (z : DueState). DuesAgree z (placed_attempts place at.moment x.call.attempts)) (sym due_now) due_is;
        unplaced = λ e. ap (λ (z : Option ℕ). if names place z then Some at.moment else x.call.attempts.placed) (none_newest e) ∙ k.unplaced e;
        delayed = λ keeps free.
            frames.delayed_same more c.number (λ k. k.messages) (λ k. k.finished) (λ k. k.taken) (λ k. k.end_taken) (λ k. k.marks ++ w ∷ []) (λ k. k.end) s.current c x.call.attempts.sent
            ∙ placing.delayed_same s pl c x.call.attempts.sent ∙ k.delayed keeps free;
        last = λ free. rows_now ∙ k.last free;
        refused = columns.retried_same s pl en (λ q. false) (placing.writes s pl) c ∙ k.refused;
        committed = columns.place_same s pl en (λ q. false) (placing.writes s pl) c ∙ k.committed;
      }

  -- which attempts go on, and on which links
  abbrev elsewhere : Attempt → Bool
  elsewhere q = (q.place == place) && not (is_queued q s)

  none_elsewhere : list_any elsewhere s.attempts ≡ false
  none_elsewhere = only_here (λ (q : Attempt). not (is_queued q s)) place a (not_from_true (is_queued a s) waits) s.attempts o.places got

  live_by : (b mine : Bool) (p : Option Placed) (e over : Bool) → (b && not ((is_none p && e) && not over)) ≡ false
      → (mine && ((is_some (if b then Some at else p) && e) || ((is_none (if b then Some at else p) && e) && not over)))
      ≡ (mine && ((is_some p && e) || ((is_none p && e) && not over)))
  live_by false mine p e over good = refl
  live_by true mine (Some p) e over good = absurd (cc)
  live_by true mine None false over good = absurd (cc)
  live_by true mine None true true good = absurd (cc)
  live_by true mine None true false good = refl

  live_one : (q : Attempt) → elsewhere q ≡ false → is_live more c (g q) ≡ is_live s c q
  live_one q good =
      ap (λ (over : Bool). is_of c q && ((is_some (pl q) && is_none q.row.ended) || ((is_none (pl q) && is_none q.row.ended) && not over)))
      (columns.over_same s pl en (λ z. false) (placing.writes s pl) q)
      ∙ live_by (q.place == place) (is_of c q) q.row.placed (is_none q.row.ended) (is_over q s) good

  abbrev row_with : Bool → Attempt → LiveRow
  row_with b q = record { place = q.place; number = q.row.number; link = option_map (λ (p : Placed). p.link) (if b then Some at else q.row.placed) }

  row_by : (b : Bool) (q : Attempt) → row_with b q ≡ (if b then record (live_row q) { link = Some at.link } else live_row q)
  row_by true q = refl
  row_by false q = refl

  row_one : (q : Attempt) → live_row (g q) ≡ linked place at.link (live_row q)
  row_one q = row_by (q.place == place) q

  live_now : live_rows t d ≡ map (linked place at.link) x.call.live
  live_now =
      let going : List Attempt = filter (is_live s c) s.attempts in
      frames.live_same more c.number (λ k. k.messages) (λ k. k.finished) (λ k. k.taken) (λ k. k.end_taken) (λ k. k.marks ++ w ∷ []) s.current c
      ∙ ap (map live_row) (filter_mapped (is_live more c) (is_live s c) elsewhere g live_one s.attempts none_elsewhere)
      ∙ map_through live_row g (λ (q : Attempt). linked place at.link (live_row q)) row_one going
      ∙ sym (map_through (linked place at.link) live_row (λ (q : Attempt). linked place at.link (live_row q)) (λ q. refl) going)
      ∙ ap (map (linked place at.link)) h.live

  noted_now : map (λ (q : Attempt). q.made) (filter (is_of d) (map g s.attempts)) ≡ (call_seen s c).made
  noted_now =
      ap (map (λ (q : Attempt). q.made)) (filter_mapped (is_of c) (is_of c) (λ (q : Attempt). false) g (λ q good. refl) s.attempts (none_bad s.attempts))
      ∙ map_through (λ (q : Attempt). q.made) g (λ (q : Attempt). q.made) (λ q. refl) (filter (is_of c) s.attempts)

  -- what the channel makes of it
  abbrev after : ℕ → Stepped
  after n = record x {
    call = record x.call {
      buffer = begun_row n (names n x.call.attempts.committed) x.call.buffer;
      live = map (linked n at.link) x.call.live;
      attempts = placed_attempts n at.moment x.call.attempts;
    };
    ledger = record x.ledger { rows = stamps.changed_at (stamps.placed_row at) x.ledger.rows n };
  }

  lives : is_live s c a ≡ true
  lives = ap (λ (b : Bool). b && (is_outstanding a || is_queued a s)) own ∙ or_right (is_outstanding a) (is_queued a s) waits

  found : find_live place x.call.live ≡ Some (live_row a)
  found = ap (find_live place) (sym h.live) ∙ found_live (is_live s c) place a lives s.attempts o.places got

  after_is : steps.placed_at place at x ≡ after place
  after_is =
      ap (λ (r : Option LiveRow). placed_if_live r at x) found
      ∙ ap (λ (p : Option Placed). if is_some (option_map (λ (z : Placed). z.link) p) then x else after a.place) unplaced
      ∙ ap after its_place

  sees_now : Sees t d (after place)
  sees_now = record {
    own = changed_here (λ (k : Call). record k { marks = k.marks ++ w ∷ [] }) c.number s.calls c h.own;
    number_is = h.number_is;
    request = h.request;
    begun = h.begun;
    chosen = h.chosen;
    finished = h.finished;
    longest_is = h.longest_is;
    ended = h.ended;
    attempts = attempts_now;
    live = live_now;
    tokens = frames.bucket_reported more c.number (λ k. k.messages) (λ k. k.finished) (λ k. k.taken) (λ k. k.end_taken) (λ k. k.marks ++ w ∷ []) (λ k. k.end) s.current (run_of c s)
        ∙ placing.bucket_same s pl (run_of c s) ∙ h.tokens;
    entry_is = h.entry_is;
    rows = sym (rows_are (with_placing at) g place a here away (stamps.placed_row at) row_here s.attempts o.places got)
        ∙ ap (λ (l : List Row). stamps.changed_at (stamps.placed_row at) l place) h.rows;
    call_is = h.call_is ∙ ap (λ (l : List ℕ). Some (seen_with (call_seen s c) l)) (sym noted_now);
  }

  own_now : (k : MarkKind) → is_own_mark s c k ≡ true → is_own_mark t d k ≡ true
  own_now k mine = placing.own_same s pl c k ∙ mine

  marks_now : list_all (λ (m : Mark). is_own_mark t d m.what) (c.marks ++ w ∷ []) ≡ true
  marks_now =
      list_all-append (λ (m : Mark). is_own_mark t d m.what) c.marks (w ∷ [])
      ∙ ap (λ (b : Bool). b && true)
      (all_so (λ (m : Mark). is_own_mark s c m.what) (λ (m : Mark). is_own_mark t d m.what) (λ m mine. own_now m.what mine) c.marks o.marks)

  order_now : IsInOrder t d
  order_now = record {
    places = numbered_written g (λ q. refl) 1 s.attempts o.places;
    marks = marks_now;
    numbers = ap (λ (n : ℕ). list_any (λ (q : Attempt). is_of c q && nat_lt n q.row.number) (map g s.attempts)) (placing.made_same s pl c)
        ∙ any_map_all (is_beyond s c) (is_beyond s c) g (λ q. refl) s.attempts ∙ o.numbers;
    first = λ e. ap (λ (z : DueState). z.newest) due_now ∙ newest_if is_newest (now s) (due_state c s) ∙ o.first (sym (placing.made_same s pl c) ∙ e);
    stops = λ e. ap (λ (z : DueState). z.stopped) due_now ∙ stopped_if is_newest (now s) (due_state c s)
        ∙ o.stops (sym (ap (λ (b : Bool). is_some c.end || b) (columns.free_same s pl en (λ q. false) (placing.writes s pl) c)) ∙ e);
  }

  pub placed_here : Keeps (attempt_placed place at s) c.number (steps.placed_at place at x)
  placed_here =
      subst (λ (z : Seen). Keeps z c.number (steps.placed_at place at x)) (sym is_placed)
      (subst (λ (z : Stepped). Keeps t c.number z) (sym after_is) (record { call = d; number_is = refl; sees = sees_now; order = order_now }))

pub attempts_are_placed : AttemptsArePlaced
attempts_are_placed s c x place a at h o got own waits moment = placed_here s c x place a at h o got own waits moment
