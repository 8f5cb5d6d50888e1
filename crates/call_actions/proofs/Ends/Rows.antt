-- An attempt of a call ends: what a session then is, by what end soever, and what stays of it.
use Rattle.std.proofs.Common.{◌≡◌, ◌+◌, ◌∷◌, ◌++◌, ◌||◌, ◌&&◌, ◌==◌, not, nat_lt, ap, refl, sym, ◌∙◌, Bool, true, false, List, [], Option, Some, ℕ, filter, if◌then◌else◌, is_none, is_some, length, map, option_map}
use Rattle.std.proofs.lemmas.Bool.{and_right, eq-eqb, eqb-true, ne_eqb}
use Rattle.std.proofs.lemmas.List.Folds.{list_all-append}
use Rattle.std.specs.List.{list_any}
use Rattle.std.specs.Option.{option_map_or}
use Rattle.std.specs.Prelude.{fold}
use Rattle.attempt_ledger.specs.declared.ledger.CallSeen.{CallSeen}
use Rattle.attempt_ledger.specs.declared.row.Row.{Row}
use Rattle.attempt_ledger.specs.declared.row.RowEnd.{RowEnd}
use Rattle.call_actions.proofs.Unconfigured.{some_still}
use Rattle.call_actions.proofs.Columns as columns
use Rattle.call_actions.proofs.Ends.Frames as ending
use Rattle.call_actions.proofs.Ends.Frames.{AreLike, Ends, ended_by, ended_seen, with_end_at}
use Rattle.call_actions.proofs.Frames as frames
use Rattle.call_actions.proofs.PlacedFrames.{none_bad}
use Rattle.call_actions.proofs.Places.{changed_is, numbered_written, place_is, rows_are}
use Rattle.call_actions.proofs.Ranks.{all_so, any_map_all, filter_both, filter_mapped, map_through, numbered_map}
use Rattle.call_actions.proofs.Report.{fold_last}
use Rattle.call_actions.specs.Order.{IsInOrder, is_beyond, is_own_mark, is_retried}
use Rattle.call_actions.specs.Sees.{Sees, is_live, live_row, live_rows}
use Rattle.call_core.specs.Parts as parts
use Rattle.call_core.specs.Parts.{without}
use Rattle.call_core.specs.Steps.{Stepped}
use Rattle.call_core.specs.declared.live.LiveRow.{LiveRow}
use Rattle.ledger_stamps.specs.Steps as stamps
use Rattle.session_actions.specs.AttemptEnds.{attempt_ended, attempt_ended_as, with_end, with_end_in_run}
use Rattle.session_actions.specs.Attempts.{call_of, commitment, is_of, is_over, was_retried_so, with_attempt}
use Rattle.session_actions.specs.Calls.{marked}
use Rattle.session_actions.specs.Configs.{plan_of}
use Rattle.session_actions.specs.DueAttempts.{due_after_end, due_after_mark, due_state, no_due}
use Rattle.session_actions.specs.Entries.{drawn_if, entry, now}
use Rattle.session_actions.specs.Sessions.{call_seen}
use Rattle.session_actions.specs.Words.{changed, holds, numbered}
use Rattle.session_actions.specs.declared.attempt.Attempt.{Attempt}
use Rattle.session_actions.specs.declared.call.Call.{Call}
use Rattle.session_actions.specs.declared.call.Mark.{Mark}
use Rattle.session_actions.specs.declared.call.MarkKind.TheVariants as mark
use Rattle.session_actions.specs.declared.config.ThrottleRun.{ThrottleRun}
use Rattle.session_actions.specs.declared.due.DueState.{DueState}
use Rattle.session_actions.specs.declared.entry.OpenEntry.{OpenEntry}
use Rattle.session_actions.specs.declared.seen.Seen.{Seen}

abbrev pub seen_with : CallSeen → List ℕ → CallSeen
seen_with k made = record k { made = made }

-- an attempt that goes on has no end
none_lives : (mine p n over : Bool) → (mine && ((p && false) || ((n && false) && not over))) ≡ false
none_lives false p n over = refl
none_lives true true true over = refl
none_lives true true false over = refl
none_lives true false true over = refl
none_lives true false false over = refl

pub unended_by : (mine p n e over : Bool) → (mine && ((p && e) || ((n && e) && not over))) ≡ true → e ≡ true
unended_by mine p n true over lives = refl
unended_by mine p n false over lives = (let both : true ≡ false = sym lives ∙ none_lives mine p n over in absurd (cc))

pub and_yes : (b : Bool) → (b && true) ≡ b
and_yes true = refl
and_yes false = refl

-- and where it gets one it does not go on
gone_by : (b mine p n : Bool) (e : RowEnd) (o : Option RowEnd) (over : Bool)
    → (mine && ((p && is_none (if b then Some e else o)) || ((n && is_none (if b then Some e else o)) && not over)))
    ≡ ((mine && ((p && is_none o) || ((n && is_none o) && not over))) && not b)
gone_by true mine p n e o over = none_lives mine p n over ∙ sym (and_right (mine && ((p && is_none o) || ((n && is_none o) && not over))) false refl)
gone_by false mine p n e o over = sym (and_yes (mine && ((p && is_none o) || ((n && is_none o) && not over))))

module _ (s : Seen) (c : Call) (x : Stepped) (place : ℕ) (a : Attempt) (e : RowEnd) (runs : List ThrottleRun) (h : Sees s c x) (o : IsInOrder s c)
    (ends : Ends s c place a runs) (own : is_of c a ≡ true) where
  abbrev put : Attempt → Attempt
  put q = with_end_at place e q

  pub its_place : a.place ≡ place
  its_place = place_is place s.attempts a o.places ends.got

  call_is : a.row.call ≡ c.number
  call_is = eqb-true a.row.call c.number own

  pub its_call : numbered s.calls a.row.call ≡ Some c
  its_call = ap (numbered s.calls) call_is ∙ h.own

  -- the columns
  abbrev with_if : Bool → Attempt → Attempt
  with_if b q = record q { row = record q.row { placed = q.row.placed; ended = (if b then Some e else q.row.ended) } }

  here : put a ≡ with_end e a
  here = ap (λ (b : Bool). with_if b a) (eq-eqb a.place place its_place)

  away : (q : Attempt) → (q.place ≡ place → ⊥) → put q ≡ q
  away q off = ap (λ (b : Bool). with_if b q) (ne_eqb q.place place off)

  row_here : (put a).row ≡ stamps.ended_row e a.row
  row_here = ap (λ (q : Attempt). q.row) here ∙ sym (ap (λ (z : Option RowEnd). record a.row { ended = stamps.stamped e z }) ends.unended)

  -- what the session then is
  abbrev pub w : Mark
  w = record { what = mark.Ended place; moment = now s }

  abbrev pub d : Call
  d = record c { marks = c.marks ++ w ∷ [] }

  abbrev pub now_open : Option OpenEntry
  now_open = option_map (λ (q : OpenEntry). record q { drawn = q.drawn + (if is_some e.word then 1 else 0) }) s.current

  abbrev pub base : Seen
  base = ended_seen runs place e s

  abbrev pub t : Seen
  t = record base { calls = changed (λ (k : Call). record k { marks = k.marks ++ w ∷ [] }) c.number s.calls; current = now_open }

  abbrev step : ℕ → ℕ → Seen → Seen
  step p call z = drawn_if (is_some e.word) (marked (mark.Ended p) call (with_attempt (with_end e) p z))

  pub is_ended : option_map_or (with_end_in_run a e s) (call_of a s) s ≡ record s { runs = runs } → attempt_ended place e s ≡ t
  is_ended in_run =
      ap (λ (z : Option Attempt). option_map_or (attempt_ended_as e s) z s) ends.got
      ∙ ap (step a.place a.row.call) in_run
      ∙ ap (λ (p : ℕ). step p a.row.call (record s { runs = runs })) its_place
      ∙ ap (λ (call : ℕ). step place call (record s { runs = runs })) call_is
      ∙ ap (λ (l : List Attempt). drawn_if (is_some e.word) (marked (mark.Ended place) c.number (record s { attempts = l; runs = runs })))
      (changed_is (with_end e) put place a here away s.attempts o.places ends.got)

  own_end : is_own_mark t d w.what ≡ true
  own_end =
      ap (holds (λ (q : Attempt). is_of c q && is_some q.row.ended)) (numbered_map put s.attempts place ∙ ap (option_map put) ends.got)
      ∙ ap (λ (z : Option RowEnd). is_of c a && is_some z) (ending.end_here s c place a e runs ends) ∙ ap (λ (b : Bool). b && true) own

  -- what its marks say of the next attempt
  abbrev pub marks_then : DueState
  marks_then = fold (λ (z : DueState) (m : Mark). due_after_mark c base m.what m.moment z) no_due c.marks

  pub due_then : due_state d t ≡ due_after_end c base marks_then (put a) e
  due_then =
      fold_last (λ (z : DueState) (m : Mark). due_after_mark d t m.what m.moment z) no_due c.marks w
      ∙ ap (λ (z : DueState). due_after_mark d t w.what w.moment z)
      (frames.due_same base c.number (λ k. k.messages) (λ k. k.finished) (λ k. k.taken) (λ k. k.end_taken) (λ k. k.marks ++ w ∷ []) (λ k. k.end) now_open c no_due c.marks)
      ∙ ap (λ (z : Option Attempt). option_map_or (λ (q : Attempt). option_map_or (due_after_end d t marks_then q) q.row.ended marks_then) z marks_then)
      (numbered_map put s.attempts place ∙ ap (option_map put) ends.got)
      ∙ ap (λ (z : Option RowEnd). option_map_or (due_after_end d t marks_then (put a)) z marks_then) (ending.end_here s c place a e runs ends)
      ∙ frames.end_same base c.number (λ k. k.messages) (λ k. k.finished) (λ k. k.taken) (λ k. k.end_taken) (λ k. k.marks ++ w ∷ []) (λ k. k.end) now_open c marks_then (put a) e

  pub like_so : (loose : Bool) → ending.AreDelaysSame s c place a e runs ends loose → AreLike loose marks_then (due_state c s)
  like_so loose delays =
      ending.due_like s c place a e runs ends loose delays no_due no_due c.marks o.marks (record { newest = refl; placed = refl; stopped = refl; forced = λ n. refl })

  pub like_then : AreLike (is_retried (plan_of c s)) marks_then (due_state c s)
  like_then = like_so (is_retried (plan_of c s)) (λ no yes n. (let both : true ≡ false = sym yes ∙ no in absurd (cc)))

  -- which attempts go on
  live_one : (q : Attempt) → is_live base c (put q) ≡ (is_live s c q && not (q.place == place))
  live_one q =
      ap (λ (over : Bool). is_of c q && ((is_some q.row.placed && is_none (ended_by place e q)) || ((is_none q.row.placed && is_none (ended_by place e q)) && not over)))
      (columns.over_same s ending.placed_before (ended_by place e) (ending.was_there s c place a e runs ends) (ending.writes s c place a e runs ends) q)
      ∙ gone_by (q.place == place) (is_of c q) (is_some q.row.placed) (is_none q.row.placed) e q.row.ended (is_over q s)

  pub rest_is : map live_row (filter (λ (q : Attempt). is_live s c q && not (q.place == place)) s.attempts) ≡ without place x.call.live
  rest_is = sym (filter_both (λ (r : LiveRow). not (parts.is_row place r)) live_row (is_live s c) s.attempts) ∙ ap (without place) h.live

  pub live_then : live_rows t d ≡ without place x.call.live
  live_then =
      frames.live_same base c.number (λ k. k.messages) (λ k. k.finished) (λ k. k.taken) (λ k. k.end_taken) (λ k. k.marks ++ w ∷ []) now_open c
      ∙ ap (map live_row)
      (filter_mapped (is_live base c) (λ (q : Attempt). is_live s c q && not (q.place == place)) (λ (q : Attempt). false) put (λ q good. live_one q) s.attempts (none_bad s.attempts))
      ∙ map_through live_row put live_row (λ q. refl) (filter (λ (q : Attempt). is_live s c q && not (q.place == place)) s.attempts) ∙ rest_is

  pub noted_then : map (λ (q : Attempt). q.made) (filter (is_of d) (map put s.attempts)) ≡ (call_seen s c).made
  noted_then =
      ap (map (λ (q : Attempt). q.made)) (filter_mapped (is_of c) (is_of c) (λ (q : Attempt). false) put (λ q good. refl) s.attempts (none_bad s.attempts))
      ∙ map_through (λ (q : Attempt). q.made) put (λ (q : Attempt). q.made) (λ q. refl) (filter (is_of c) s.attempts)

  pub order_then : (due_state d t).newest ≡ marks_then.newest → ((is_some c.end || is_some (commitment c s)) ≡ true → (due_state d t).stopped ≡ true) → IsInOrder t d
  order_then newest stops = record {
    places = numbered_written put (λ q. refl) 1 s.attempts o.places;
    marks =
        list_all-append (λ (m : Mark). is_own_mark t d m.what) c.marks (w ∷ [])
        ∙ ap (λ (b : Bool). b && (is_own_mark t d w.what && true))
        (all_so (λ (m : Mark). is_own_mark s c m.what) (λ (m : Mark). is_own_mark t d m.what) (λ m mine. ending.own_same s c place a e runs ends m.what mine) c.marks o.marks)
        ∙ ap (λ (b : Bool). b && true) own_end;
    numbers = ap (λ (k : ℕ). list_any (λ (q : Attempt). is_of c q && nat_lt k q.row.number) (map put s.attempts)) (ending.made_same s c place a e runs ends)
        ∙ any_map_all (is_beyond s c) (is_beyond s c) put (λ q. refl) s.attempts ∙ o.numbers;
    first = λ z. newest ∙ like_then.newest ∙ o.first (sym (ending.made_same s c place a e runs ends) ∙ z);
    stops = λ z. stops
        (sym (ap (λ (b : Bool). is_some c.end || b)
        (columns.free_same s ending.placed_before (ended_by place e) (ending.was_there s c place a e runs ends) (ending.writes s c place a e runs ends) c)) ∙ z);
  }

  pub entry_then : entry t ≡ x.ledger.entry
  entry_then =
      ap (λ (b : Bool). length s.entries + (if b then 1 else 0)) (some_still (λ (q : OpenEntry). record q { drawn = q.drawn + (if is_some e.word then 1 else 0) }) s.current)
      ∙ h.entry_is

  pub rows_then : map (λ (q : Attempt). q.row) (map put s.attempts) ≡ stamps.changed_at (stamps.ended_row e) x.ledger.rows place
  rows_then =
      sym (rows_are (with_end e) put place a here away (stamps.ended_row e) row_here s.attempts o.places ends.got)
      ∙ ap (λ (l : List Row). stamps.changed_at (stamps.ended_row e) l place) h.rows

  pub call_then : numbered x.ledger.calls c.number ≡ Some (call_seen t d)
  call_then = h.call_is ∙ ap (λ (l : List ℕ). Some (seen_with (call_seen s c) l)) (sym noted_then)

  pub refused_then : was_retried_so d t ≡ x.call.attempts.is_refusal_followed
  refused_then =
      columns.retried_same s ending.placed_before (ended_by place e) (ending.was_there s c place a e runs ends) (ending.writes s c place a e runs ends) c ∙ h.attempts.refused

  pub committed_then : option_map (λ (q : Attempt). q.place) (commitment d t) ≡ x.call.attempts.committed
  committed_then =
      columns.place_same s ending.placed_before (ended_by place e) (ending.was_there s c place a e runs ends) (ending.writes s c place a e runs ends) c ∙ h.attempts.committed
