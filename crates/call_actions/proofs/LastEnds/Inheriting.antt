-- An attempt takes over the commitment of another one of its number: no other attempt of the call is over by it, nor any less.
use Rattle.std.proofs.Common.{◌≡◌, ◌+◌, ◌∷◌, ◌++◌, ◌||◌, ◌&&◌, ◌==◌, not, nat_lt, ap, refl, subst, sym, ◌∙◌, Bool, true, false, List, [], Option, None, Some, ℕ, cond, filter, if◌then◌else◌, is_none, is_some, map, option_map}
use Rattle.std.proofs.lemmas.Bool.{eq-eqb, eqb-true, ne_eqb}
use Rattle.std.proofs.lemmas.List.Folds.{list_all-append}
use Rattle.std.specs.List.{list_any}
use Rattle.std.specs.Option.{option_map_or}
use Rattle.std.specs.Prelude.{fold}
use Rattle.attempt_ledger.specs.Numbering.{is_transparent}
use Rattle.attempt_ledger.specs.declared.row.Row.{Row}
use Rattle.call_actions.proofs.Ends.Rows.{seen_with}
use Rattle.call_actions.proofs.Frames as frames
use Rattle.call_actions.proofs.Frames.{bucket_by}
use Rattle.call_actions.proofs.Lists.{changed_here}
use Rattle.call_actions.proofs.PlacedFrames.{none_bad}
use Rattle.call_actions.proofs.Places.{changed_is, numbered_written, place_is, rows_are}
use Rattle.call_actions.proofs.Ranks.{all_so, any_map_all, filter_mapped, fold_map, map_through, numbered_map}
use Rattle.call_actions.proofs.Report.{fold_last}
use Rattle.call_actions.specs.Order.{IsInOrder, is_beyond, is_own_mark}
use Rattle.call_actions.specs.Sees.{AttemptsAgree, DuesAgree, Sees, bucket_of, is_live, live_row, live_rows}
use Rattle.call_core.specs.Parts.{committed_attempts}
use Rattle.call_core.specs.Steps as steps
use Rattle.call_core.specs.Steps.{Stepped}
use Rattle.call_core.specs.declared.attempts.Attempts.{Attempts}
use Rattle.ledger_stamps.specs.Steps as stamps
use Rattle.session_actions.specs.Attempts.{commitment, is_commitment, is_followed, is_later_of, is_of, is_outstanding, is_over, is_over_in, marked_row, was_refused, was_retried_so}
use Rattle.session_actions.specs.Calls.{marked}
use Rattle.session_actions.specs.Commitments.{call_committed, with_commitment}
use Rattle.session_actions.specs.DueAttempts.{attempts_made, due_after_end, due_after_making, due_after_mark, due_state, no_due}
use Rattle.session_actions.specs.Entries.{entry, now}
use Rattle.session_actions.specs.Sessions.{call_seen}
use Rattle.session_actions.specs.Tokens.{run_of, tokens_by}
use Rattle.session_actions.specs.Words.{changed, find_last, holds, is_number, numbered}
use Rattle.session_actions.specs.declared.attempt.Attempt.{Attempt}
use Rattle.session_actions.specs.declared.call.Call.{Call}
use Rattle.session_actions.specs.declared.call.Mark.{Mark}
use Rattle.session_actions.specs.declared.call.MarkKind.{MarkKind}
use Rattle.session_actions.specs.declared.call.MarkKind.TheVariants as mark
use Rattle.session_actions.specs.declared.config.ThrottleRun.{ThrottleRun}
use Rattle.session_actions.specs.declared.due.DueState.{DueState}
use Rattle.session_actions.specs.declared.seen.Seen.{Seen}
use Rattle.call_actions.proofs.Committing.{IsSameAttempt, committed_at, end_keeps}
use Rattle.call_actions.proofs.TakeActions.Maps.{all_from, kept_map}

ended_keeps : (c : Call) (s : Seen) (d : DueState) (o : Option Attempt)
    → IsSameAttempt (option_map_or (λ (a : Attempt). option_map_or (due_after_end c s d a) a.row.ended d) o d) d
ended_keeps c s d None = record { newest = refl; placed = refl }
ended_keeps c s d (Some a) = end_keeps c s d a a.row.ended

joined : (d e y z : DueState) → IsSameAttempt e d → IsSameAttempt d y → IsSameAttempt z y → IsSameAttempt e z
joined d e y z one two three = record { newest = one.newest ∙ two.newest ∙ sym three.newest; placed = one.placed ∙ two.placed ∙ sym three.placed }

same_both : (b : Bool) (d e y z : DueState) → IsSameAttempt d y → IsSameAttempt e z → IsSameAttempt (if b then d else e) (if b then y else z)
same_both true d e y z one two = one
same_both false d e y z one two = two

module _ (s : Seen) (c : Call) (x : Stepped) (place : ℕ) (a : Attempt) (h : Sees s c x) (o : IsInOrder s c) (got : numbered s.attempts place ≡ Some a) (own : is_of c a ≡ true)
    (k : Attempt) (held : commitment c s ≡ Some k) (same : k.row.number ≡ a.row.number)
    (uncommitted : a.row.committed ≡ None) (taken : find_last (is_commitment c) (map (committed_at place (entry s)) s.attempts) ≡ Some (committed_at place (entry s) a)) where
  abbrev g : Attempt → Attempt
  g q = committed_at place (entry s) q

  its_place : a.place ≡ place
  its_place = place_is place s.attempts a o.places got

  abbrev with_if : Bool → Attempt → Attempt
  with_if b q = record q { row = record q.row { committed = (if b then Some (entry s) else q.row.committed) } }

  here : g a ≡ with_commitment (entry s) a
  here = ap (λ (b : Bool). with_if b a) (eq-eqb a.place place its_place)

  away : (q : Attempt) → (q.place ≡ place → ⊥) → g q ≡ q
  away q off = ap (λ (b : Bool). with_if b q) (ne_eqb q.place place off)

  row_here : (g a).row ≡ stamps.committed_row x.ledger.entry a.row
  row_here =
      ap (λ (q : Attempt). q.row) here ∙ ap (λ (n : ℕ). record a.row { committed = Some n }) h.entry_is
      ∙ sym (ap (λ (k : Option ℕ). record a.row { committed = stamps.stamped x.ledger.entry k }) uncommitted)

  -- what the session then is
  abbrev w : Mark
  w = record { what = mark.Committed; moment = now s }

  abbrev pub d : Call
  d = record c { marks = c.marks ++ w ∷ [] }

  abbrev more : Seen
  more = record s { attempts = map g s.attempts }

  abbrev pub t : Seen
  t = record more { calls = changed (λ (k : Call). record k { marks = k.marks ++ w ∷ [] }) c.number s.calls }

  pub is_committed : call_committed place s ≡ t
  is_committed =
      ap (λ (l : List Attempt). marked_row mark.Committed place (record s { attempts = l })) (changed_is (with_commitment (entry s)) g place a here away s.attempts o.places got)
      ∙ ap (λ (q : Option Attempt). option_map_or (λ (q : Attempt). marked mark.Committed q.row.call more) q more) (numbered_map g s.attempts place ∙ ap (option_map g) got)
      ∙ ap (λ (n : ℕ). marked mark.Committed n more) (eqb-true a.row.call c.number own)

  commitment_now : commitment d t ≡ Some (g a)
  commitment_now = taken

  made_same : attempts_made d t ≡ attempts_made c s
  made_same =
      fold_map (λ (n : ℕ) (q : Attempt). n + cond (is_of c q && not (is_transparent q.row.kind)) 1 0)
      (λ (n : ℕ) (q : Attempt). n + cond (is_of c q && not (is_transparent q.row.kind)) 1 0) g (λ n q. refl) 0 s.attempts

  followed_same : (q : Attempt) → is_followed (g q) t ≡ is_followed q s
  followed_same q = any_map_all (is_later_of (g q)) (is_later_of q) g (λ z. refl) s.attempts

  retried_same : was_retried_so d t ≡ was_retried_so c s
  retried_same =
      any_map_all (λ (q : Attempt). is_of c q && was_refused q && is_followed q t) (λ (q : Attempt). is_of c q && was_refused q && is_followed q s) g
      (λ q. ap (λ (b : Bool). is_of c q && was_refused q && b) (followed_same q)) s.attempts

  -- what its marks say of the newest attempt
  made_keeps : (q : Option Attempt) (y z : DueState) → IsSameAttempt y z
      → IsSameAttempt (option_map_or (due_after_making y) (option_map g q) y) (option_map_or (due_after_making z) q z)
  made_keeps None y z l = l
  made_keeps (Some q) y z l =
      same_both (is_transparent q.row.kind) y (record y { newest = Some q.place; placed = None; forced = None }) z (record z { newest = Some q.place; placed = None; forced = None }) l
      (record { newest = refl; placed = refl })

  mark_keeps : (k : MarkKind) (moment : ℕ) (y z : DueState) → IsSameAttempt y z → IsSameAttempt (due_after_mark c more k moment y) (due_after_mark c s k moment z)
  mark_keeps mark.Configured moment y z l = record { newest = l.newest; placed = l.placed }
  mark_keeps (mark.Made row) moment y z l =
      subst (λ (q : Option Attempt). IsSameAttempt (option_map_or (due_after_making y) q y) (option_map_or (due_after_making z) (numbered s.attempts row) z))
      (sym (numbered_map g s.attempts row)) (made_keeps (numbered s.attempts row) y z l)
  mark_keeps (mark.Placed row) moment y z l =
      subst (λ (b : Bool). IsSameAttempt (if b then record y { placed = Some moment } else y) (if is_number row z.newest then record z { placed = Some moment } else z))
      (sym (ap (is_number row) l.newest))
      (same_both (is_number row z.newest) (record y { placed = Some moment }) y (record z { placed = Some moment }) z (record { newest = l.newest; placed = refl }) l)
  mark_keeps (mark.Ended row) moment y z l =
      joined y (due_after_mark c more (mark.Ended row) moment y) z (due_after_mark c s (mark.Ended row) moment z) (ended_keeps c more y (numbered more.attempts row)) l
      (ended_keeps c s z (numbered s.attempts row))
  mark_keeps mark.Withheld moment y z l = record { newest = l.newest; placed = l.placed }
  mark_keeps mark.Committed moment y z l = record { newest = l.newest; placed = l.placed }
  mark_keeps mark.Closed moment y z l = record { newest = l.newest; placed = l.placed }

  marks_keep : (y z : DueState) (marks : List Mark) → IsSameAttempt y z
      → IsSameAttempt (fold (λ (y : DueState) (m : Mark). due_after_mark c more m.what m.moment y) y marks) (fold (λ (y : DueState) (m : Mark). due_after_mark c s m.what m.moment y) z marks)
  marks_keep y z [] l = l
  marks_keep y z (m ∷ marks) l =
      marks_keep (due_after_mark c more m.what m.moment y) (due_after_mark c s m.what m.moment z) marks (mark_keeps m.what m.moment y z l)

  abbrev before : DueState
  before = fold (λ (y : DueState) (m : Mark). due_after_mark c more m.what m.moment y) no_due c.marks

  same_attempt : IsSameAttempt before (due_state c s)
  same_attempt = marks_keep no_due no_due c.marks (record { newest = refl; placed = refl })

  due_now : due_state d t ≡ record before { stopped = true }
  due_now =
      fold_last (λ (z : DueState) (m : Mark). due_after_mark d t m.what m.moment z) no_due c.marks w
      ∙ ap (λ (z : DueState). record z { stopped = true })
      (frames.due_same more c.number (λ k. k.messages) (λ k. k.finished) (λ k. k.taken) (λ k. k.end_taken) (λ k. k.marks ++ w ∷ []) (λ k. k.end) s.current c no_due c.marks)

  abbrev then_attempts : Attempts
  then_attempts = committed_attempts place x.call.attempts

  attempts_now : AttemptsAgree t d then_attempts
  attempts_now =
      let was : AttemptsAgree s c x.call.attempts = h.attempts in
      record {
        sent = made_same ∙ was.sent;
        due = subst (λ (z : DueState). DuesAgree z then_attempts) (sym due_now)
            (record { newest = same_attempt.newest ∙ was.due.newest; placed = same_attempt.placed ∙ was.due.placed; stopped = refl; forced = λ z. absurd (cc) });
        unplaced = was.unplaced;
        delayed = λ keeps none. absurd (cc);
        last = λ none. absurd (cc);
        refused = retried_same ∙ was.refused;
        committed = ap (option_map (λ (q : Attempt). q.place)) commitment_now ∙ ap (λ (n : ℕ). Some n) its_place;
      }

  -- which go on
  over_same : (q : Attempt) → is_of c q ≡ true → is_over (g q) more ≡ is_over q s
  over_same q mine =
      let its : numbered s.calls q.row.call ≡ Some c = ap (numbered s.calls) (eqb-true q.row.call c.number mine) ∙ h.own in
      ap (holds (λ (z : Call). is_over_in z (g q) more)) its
      ∙ ap (λ (z : Option Attempt). is_some c.end || holds (λ (y : Attempt). not (y.row.number == q.row.number)) z) taken
      ∙ ap (λ (n : ℕ). is_some c.end || not (n == q.row.number)) (sym same)
      ∙ sym (ap (holds (λ (z : Call). is_over_in z q s)) its
      ∙ ap (λ (z : Option Attempt). is_some c.end || holds (λ (y : Attempt). not (y.row.number == q.row.number)) z) held)

  live_one : (q : Attempt) (b : Bool) → is_of c q ≡ b → is_live more c (g q) ≡ is_live s c q
  live_one q true mine =
      ap (λ (z : Bool). is_of c q && (is_outstanding q || ((is_none q.row.placed && is_none q.row.ended) && not z))) (over_same q mine)
  live_one q false mine =
      ap (λ (z : Bool). z && (is_outstanding q || ((is_none q.row.placed && is_none q.row.ended) && not (is_over (g q) more)))) mine
      ∙ sym (ap (λ (z : Bool). z && (is_outstanding q || ((is_none q.row.placed && is_none q.row.ended) && not (is_over q s)))) mine)

  live_now : live_rows t d ≡ x.call.live
  live_now =
      frames.live_same more c.number (λ k. k.messages) (λ k. k.finished) (λ k. k.taken) (λ k. k.end_taken) (λ k. k.marks ++ w ∷ []) s.current c
      ∙ kept_map (is_live more c) (is_live s c) g live_row s.attempts
      (all_from (λ (q : Attempt). is_live more c (g q) ≡ is_live s c q) (λ q. live_one q (is_of c q) refl) s.attempts) ∙ h.live

  noted_now : map (λ (q : Attempt). q.made) (filter (is_of d) (map g s.attempts)) ≡ (call_seen s c).made
  noted_now =
      ap (map (λ (q : Attempt). q.made)) (filter_mapped (is_of c) (is_of c) (λ (q : Attempt). false) g (λ q good. refl) s.attempts (none_bad s.attempts))
      ∙ map_through (λ (q : Attempt). q.made) g (λ (q : Attempt). q.made) (λ q. refl) (filter (is_of c) s.attempts)

  token_by : (run : ThrottleRun) (count : ℕ) (q : Option Attempt) → tokens_by run more count (option_map g q) ≡ tokens_by run s count q
  token_by run count None = refl
  token_by run count (Some q) = refl

  tokens_same : (run : ThrottleRun) (count : ℕ) (places : List ℕ)
      → fold (λ (n at : ℕ). tokens_by run more n (numbered (map g s.attempts) at)) count places ≡ fold (λ (n at : ℕ). tokens_by run s n (numbered s.attempts at)) count places
  tokens_same run count [] = refl
  tokens_same run count (at ∷ places) =
      ap (λ (n : ℕ). fold (λ (j at : ℕ). tokens_by run more j (numbered (map g s.attempts) at)) n places)
      (ap (tokens_by run more count) (numbered_map g s.attempts at) ∙ token_by run count (numbered s.attempts at))
      ∙ tokens_same run (tokens_by run s count (numbered s.attempts at)) places

  bucket_same : (q : Option ThrottleRun) → option_map (bucket_of more) q ≡ option_map (bucket_of s) q
  bucket_same None = refl
  bucket_same (Some run) = ap (λ (n : ℕ). Some (bucket_by run n)) (tokens_same run run.throttle.start run.ends)

  -- what the channel makes of it
  abbrev pub after : Stepped
  after = record x { call = record x.call { attempts = then_attempts }; ledger = steps.commit_stamped place x.ledger }

  pub sees_now : Sees t d after
  sees_now = record {
    own = changed_here (λ (k : Call). record k { marks = k.marks ++ w ∷ [] }) c.number s.calls c h.own;
    number_is = h.number_is;
    request = h.request;
    begun = h.begun;
    chosen = h.chosen;
    finished = h.finished;
    longest_is = h.longest_is;
    ended = h.ended;
    attempts = attempts_now;
    live = live_now;
    tokens = frames.bucket_reported more c.number (λ k. k.messages) (λ k. k.finished) (λ k. k.taken) (λ k. k.end_taken) (λ k. k.marks ++ w ∷ []) (λ k. k.end) s.current (run_of c s)
        ∙ bucket_same (run_of c s) ∙ h.tokens;
    entry_is = h.entry_is;
    rows = sym (rows_are (with_commitment (entry s)) g place a here away (stamps.committed_row x.ledger.entry) row_here s.attempts o.places got)
        ∙ ap (λ (l : List Row). stamps.changed_at (stamps.committed_row x.ledger.entry) l place) h.rows;
    call_is = h.call_is ∙ ap (λ (l : List ℕ). Some (seen_with (call_seen s c) l)) (sym noted_now);
  }

  own_of : (test : Attempt → Bool) → ((q : Attempt) → test (g q) ≡ test q) → (q : Option Attempt) → holds test (option_map g q) ≡ holds test q
  own_of test same None = refl
  own_of test same (Some q) = same q

  own_still : (k : MarkKind) → is_own_mark s c k ≡ true → is_own_mark t d k ≡ true
  own_still mark.Configured mine = mine
  own_still (mark.Made row) mine = ap (holds (is_of c)) (numbered_map g s.attempts row) ∙ own_of (is_of c) (λ q. refl) (numbered s.attempts row) ∙ mine
  own_still (mark.Placed row) mine = mine
  own_still (mark.Ended row) mine =
      ap (holds (λ (q : Attempt). is_of c q && is_some q.row.ended)) (numbered_map g s.attempts row)
      ∙ own_of (λ (q : Attempt). is_of c q && is_some q.row.ended) (λ q. refl) (numbered s.attempts row) ∙ mine
  own_still mark.Withheld mine = mine
  own_still mark.Committed mine = mine
  own_still mark.Closed mine = mine

  pub order_now : IsInOrder t d
  order_now = record {
    places = numbered_written g (λ q. refl) 1 s.attempts o.places;
    marks =
        list_all-append (λ (m : Mark). is_own_mark t d m.what) c.marks (w ∷ [])
        ∙ ap (λ (b : Bool). b && true)
        (all_so (λ (m : Mark). is_own_mark s c m.what) (λ (m : Mark). is_own_mark t d m.what) (λ m mine. own_still m.what mine) c.marks o.marks);
    numbers = ap (λ (n : ℕ). list_any (λ (q : Attempt). is_of c q && nat_lt n q.row.number) (map g s.attempts)) made_same
        ∙ any_map_all (is_beyond s c) (is_beyond s c) g (λ q. refl) s.attempts ∙ o.numbers;
    first = λ e. ap (λ (z : DueState). z.newest) due_now ∙ same_attempt.newest ∙ o.first (sym made_same ∙ e);
    stops = λ e. ap (λ (z : DueState). z.stopped) due_now;
  }
