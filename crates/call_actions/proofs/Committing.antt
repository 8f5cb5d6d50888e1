-- A call is committed to an attempt that ended, and none of its attempts goes on.
use Rattle.std.proofs.Common.{◌≡◌, ◌<◌, ◌+◌, ◌∷◌, ◌++◌, ◌||◌, ◌&&◌, ◌==◌, not, nat_lt, ap, arith, refl, subst, sym, ◌∙◌, Bool, true, false, List, [], Option, None, Some, ℕ, zero, suc, cond, filter, if◌then◌else◌, is_none, is_some, map, option_map, slice_get}
use Rattle.std.proofs.lemmas.Bool.{eq-eqb, eqb-true, ne_eqb, or_parts}
use Rattle.std.proofs.lemmas.List.Folds.{list_all-append}
use Rattle.std.specs.List.{list_any}
use Rattle.std.specs.Option.{option_map_or, option_or}
use Rattle.std.specs.Prelude.{fold}
use Rattle.attempt_ledger.specs.Numbering.{is_transparent}
use Rattle.attempt_ledger.specs.Throttling.{codes_of}
use Rattle.attempt_ledger.specs.declared.ledger.CallEnd.{CallEnd}
use Rattle.attempt_ledger.specs.declared.row.Row.{Row}
use Rattle.attempt_ledger.specs.declared.row.RowEnd.{RowEnd}
use Rattle.call_actions.proofs.Ends.Rows.{seen_with}
use Rattle.call_actions.proofs.Frames as frames
use Rattle.call_actions.proofs.Frames.{bucket_by}
use Rattle.call_actions.proofs.Lists.{changed_here, filter_none, numbered_not}
use Rattle.call_actions.proofs.PlacedFrames.{none_bad}
use Rattle.call_actions.proofs.Places.{changed_is, numbered_written, place_is, rows_are}
use Rattle.call_actions.proofs.Ranks.{all_so, any_map_all, filter_mapped, fold_map, map_through, numbered_map}
use Rattle.call_actions.proofs.Report.{fold_last}
use Rattle.call_actions.specs.Order.{AttemptsAreNumbered, IsInOrder, is_beyond, is_own_mark}
use Rattle.call_actions.specs.Sees.{AttemptsAgree, DuesAgree, Sees, bucket_of, is_live, live_row, live_rows}
use Rattle.call_core.specs.Parts.{committed_attempts}
use Rattle.call_core.specs.Steps as steps
use Rattle.call_core.specs.Steps.{Stepped}
use Rattle.call_core.specs.declared.attempts.Attempts.{Attempts}
use Rattle.grpc_base.specs.Codes.{has_code}
use Rattle.grpc_base.specs.declared.plan.CallPlan.{CallPlan}
use Rattle.grpc_base.specs.declared.plan.CallPlan.TheVariants as plan
use Rattle.grpc_base.specs.declared.plan.Pushback.{Pushback}
use Rattle.grpc_base.specs.declared.plan.Pushback.TheVariants as pushback
use Rattle.ledger_stamps.specs.Steps as stamps
use Rattle.session_actions.specs.Attempts.{commitment, counts_by, is_commitment, is_followed, is_later_of, is_of, is_outstanding, is_over, is_over_in, marked_row, was_refused, was_retried_so}
use Rattle.session_actions.specs.Calls.{marked}
use Rattle.session_actions.specs.Commitments.{call_committed, with_commitment}
use Rattle.session_actions.specs.Configs.{plan_of}
use Rattle.session_actions.specs.DueAttempts.{attempts_made, due_after_end, due_after_making, due_after_mark, due_by_plan, due_state, hedge_forced, no_due}
use Rattle.session_actions.specs.Entries.{entry, now}
use Rattle.session_actions.specs.Sessions.{call_seen}
use Rattle.session_actions.specs.Tokens.{allows_attempt, run_of, tokens_by}
use Rattle.session_actions.specs.Words.{changed, find_last, holds, is_number, numbered}
use Rattle.session_actions.specs.declared.attempt.Attempt.{Attempt}
use Rattle.session_actions.specs.declared.call.Call.{Call}
use Rattle.session_actions.specs.declared.call.Mark.{Mark}
use Rattle.session_actions.specs.declared.call.MarkKind.{MarkKind}
use Rattle.session_actions.specs.declared.call.MarkKind.TheVariants as mark
use Rattle.session_actions.specs.declared.config.ThrottleRun.{ThrottleRun}
use Rattle.session_actions.specs.declared.due.DueState.{DueState}
use Rattle.session_actions.specs.declared.seen.Seen.{Seen}

-- the newest attempt, and when it was placed, hang on no end
pub record IsSameAttempt (d z : DueState) : Type 0 where
  pub newest : d.newest ≡ z.newest
  pub placed : d.placed ≡ z.placed

pub same_if : (b : Bool) (d e z : DueState) → IsSameAttempt d z → IsSameAttempt e z → IsSameAttempt (if b then d else e) z
same_if true d e z one two = one
same_if false d e z one two = two

same_both : (b : Bool) (d e y z : DueState) → IsSameAttempt d y → IsSameAttempt e z → IsSameAttempt (if b then d else e) (if b then y else z)
same_both true d e y z one two = one
same_both false d e y z one two = two

forced_same : (p : Pushback) (allowed : Bool) (e : RowEnd) (d z : DueState) → IsSameAttempt d z → IsSameAttempt (hedge_forced p allowed e d) z
forced_same pushback.Stop allowed e d z l = record { newest = l.newest; placed = l.placed }
forced_same (pushback.After millis) allowed e d z l = record { newest = l.newest; placed = l.placed }
forced_same pushback.None allowed e d z l = record { newest = l.newest; placed = l.placed }

pub plan_same : (p : CallPlan) (c : Call) (a : Attempt) (s : Seen) (d z : DueState) (e : RowEnd) → IsSameAttempt d z → IsSameAttempt (due_by_plan p c a s d e) z
plan_same plan.None c a s d z e l = l
plan_same (plan.Retry p) c a s d z e l = record { newest = l.newest; placed = l.placed }
plan_same (plan.Hedge p) c a s d z e l = forced_same e.pushback (allows_attempt c e.tokens s) e d z l

-- an end says nothing of the newest attempt
pub end_keeps : (c : Call) (s : Seen) (d : DueState) (a : Attempt) (o : Option RowEnd) → IsSameAttempt (option_map_or (due_after_end c s d a) o d) d
end_keeps c s d a None = record { newest = refl; placed = refl }
end_keeps c s d a (Some e) =
    same_if (not d.stopped && counts_by a s e && has_code (codes_of (plan_of c s)) e.code) (due_by_plan (plan_of c s) c a s d e) d d
    (plan_same (plan_of c s) c a s d d e (record { newest = refl; placed = refl })) (record { newest = refl; placed = refl })

ended_keeps : (c : Call) (s : Seen) (d : DueState) (o : Option Attempt)
    → IsSameAttempt (option_map_or (λ (a : Attempt). option_map_or (due_after_end c s d a) a.row.ended d) o d) d
ended_keeps c s d None = record { newest = refl; placed = refl }
ended_keeps c s d (Some a) = end_keeps c s d a a.row.ended

joined : (d e y z : DueState) → IsSameAttempt e d → IsSameAttempt d y → IsSameAttempt z y → IsSameAttempt e z
joined d e y z one two three = record { newest = one.newest ∙ two.newest ∙ sym three.newest; placed = one.placed ∙ two.placed ∙ sym three.placed }

none_of : (o : Option ℕ) → is_some o ≡ false → o ≡ None
none_of None e = refl
none_of (Some n) e = absurd (cc)

-- lists
none_by : (p : Attempt → Bool) (b : Bool) (x : Attempt) (xs : List Attempt) → p x ≡ b → map live_row (cond b (x ∷ filter p xs) (filter p xs)) ≡ []
    → (map live_row (filter p xs) ≡ [] → list_any p xs ≡ false) → (p x || list_any p xs) ≡ false
none_by p true x xs e none rest = absurd (cc)
none_by p false x xs e none rest = ap (λ (b : Bool). b || list_any p xs) e ∙ rest none

pub none_live : (p : Attempt → Bool) (xs : List Attempt) → map live_row (filter p xs) ≡ [] → list_any p xs ≡ false
none_live p [] none = refl
none_live p (x ∷ xs) none = none_by p (p x) x xs refl none (none_live p xs)

found_not : (p : Attempt → Bool) (x : Attempt) (xs : List Attempt) (b : Bool) (o : Option Attempt) → p x ≡ b → find_last p xs ≡ o → option_or o (if b then Some x else None) ≡ None
    → (find_last p xs ≡ None → list_any p xs ≡ false) → (p x || list_any p xs) ≡ false
found_not p x xs b (Some k) e f none rest = absurd (cc)
found_not p x xs true None e f none rest = absurd (cc)
found_not p x xs false None e f none rest = ap (λ (b : Bool). b || list_any p xs) e ∙ rest f

none_found : (p : Attempt → Bool) (xs : List Attempt) → find_last p xs ≡ None → list_any p xs ≡ false
none_found p [] none = refl
none_found p (x ∷ xs) none =
    found_not p x xs (p x) (find_last p xs) refl refl none (none_found p xs)

gone_by : (mine out waits over then_over : Bool) → (mine ≡ true → over ≡ false) → (mine && (out || (waits && not over))) ≡ false
    → (mine && (out || (waits && not then_over))) ≡ false
gone_by false out waits over then_over so e = refl
gone_by true true waits over then_over so e = absurd (cc)
gone_by true false false over then_over so e = refl
gone_by true false true over then_over so e = (let both : true ≡ false = sym (ap (λ (b : Bool). not b) (so refl)) ∙ e in absurd (cc))

-- the column of a commitment
abbrev pub committed_at : ℕ → ℕ → Attempt → Attempt
committed_at place at q = record q { row = record q.row { committed = (if q.place == place then Some at else q.row.committed) } }

module _ (c : Call) (place at : ℕ) where
  abbrev h : Attempt → Attempt
  h q = committed_at place at q

  elsewhere : (x : Attempt) → (x.place ≡ place → ⊥) → is_commitment c x ≡ false → is_commitment c (h x) ≡ false
  elsewhere x off none = ap (λ (b : Bool). is_of c x && is_some (if b then Some at else x.row.committed)) (ne_eqb x.place place off) ∙ none

  none_past : (k : ℕ) (xs : List Attempt) → AttemptsAreNumbered k xs → place < k → list_any (is_commitment c) xs ≡ false → find_last (is_commitment c) (map h xs) ≡ None
  none_past k [] p past none = refl
  none_past k (x ∷ xs) p past none =
      let is_at : x.place ≡ k = p.0 in
      let off : x.place ≡ place → ⊥ = λ g. omega arith in
      let next : place < suc k = omega arith in
      let parts : (is_commitment c x ≡ false) × (list_any (is_commitment c) xs ≡ false) = or_parts (is_commitment c x) (list_any (is_commitment c) xs) none in
      ap (λ (o : Option Attempt). option_or o (if is_commitment c (h x) then Some (h x) else None)) (none_past (suc k) xs p.1 next parts.1)
      ∙ ap (λ (b : Bool). if b then Some (h x) else None) (elsewhere x off parts.0)

  found_from : (k i : ℕ) (xs : List Attempt) (a : Attempt) → AttemptsAreNumbered k xs → k + i ≡ place → slice_get xs i ≡ Some a → is_commitment c (h a) ≡ true
      → list_any (is_commitment c) xs ≡ false → find_last (is_commitment c) (map h xs) ≡ Some (h a)
  found_from k i [] a p there got passes none = absurd (cc)
  found_from k zero (x ∷ xs) a p there got passes none =
      let one : x ≡ a = (cc) in
      let next : place < suc k = omega arith in
      let parts : (is_commitment c x ≡ false) × (list_any (is_commitment c) xs ≡ false) = or_parts (is_commitment c x) (list_any (is_commitment c) xs) none in
      ap (λ (o : Option Attempt). option_or o (if is_commitment c (h x) then Some (h x) else None)) (none_past (suc k) xs p.1 next parts.1)
      ∙ ap (λ (z : Attempt). if is_commitment c (h z) then Some (h z) else None) one ∙ ap (λ (b : Bool). if b then Some (h a) else None) passes
  found_from k (suc i) (x ∷ xs) a p there got passes none =
      let next : suc k + i ≡ place = omega arith in
      let parts : (is_commitment c x ≡ false) × (list_any (is_commitment c) xs ≡ false) = or_parts (is_commitment c x) (list_any (is_commitment c) xs) none in
      ap (λ (o : Option Attempt). option_or o (if is_commitment c (h x) then Some (h x) else None)) (found_from (suc k) i xs a p.1 next got passes parts.1)

  found_by : (m : ℕ) (xs : List Attempt) (a : Attempt) → AttemptsAreNumbered 1 xs → m ≡ place → numbered xs m ≡ Some a → is_commitment c (h a) ≡ true
      → list_any (is_commitment c) xs ≡ false → find_last (is_commitment c) (map h xs) ≡ Some (h a)
  found_by zero xs a p same got passes none = absurd (cc)
  found_by (suc i) xs a p same got passes none = let there : 1 + i ≡ place = omega arith in found_from 1 i xs a p there got passes none

module _ (s : Seen) (c : Call) (x : Stepped) (place : ℕ) (a : Attempt) (h : Sees s c x) (o : IsInOrder s c) (got : numbered s.attempts place ≡ Some a) (own : is_of c a ≡ true)
    (goes_on : c.end ≡ None) (free : commitment c s ≡ None) (none : x.call.live ≡ []) where
  abbrev g : Attempt → Attempt
  g q = committed_at place (entry s) q

  its_place : a.place ≡ place
  its_place = place_is place s.attempts a o.places got

  none_committed : list_any (is_commitment c) s.attempts ≡ false
  none_committed = none_found (is_commitment c) s.attempts free

  uncommitted : a.row.committed ≡ None
  uncommitted =
      let no : (is_of c a && is_some a.row.committed) ≡ false = numbered_not (is_commitment c) s.attempts place a none_committed got in
      none_of a.row.committed (sym (ap (λ (b : Bool). b && is_some a.row.committed) own) ∙ no)

  abbrev with_if : Bool → Attempt → Attempt
  with_if b q = record q { row = record q.row { committed = (if b then Some (entry s) else q.row.committed) } }

  here : g a ≡ with_commitment (entry s) a
  here = ap (λ (b : Bool). with_if b a) (eq-eqb a.place place its_place)

  away : (q : Attempt) → (q.place ≡ place → ⊥) → g q ≡ q
  away q off = ap (λ (b : Bool). with_if b q) (ne_eqb q.place place off)

  row_here : (g a).row ≡ stamps.committed_row x.ledger.entry a.row
  row_here =
      ap (λ (q : Attempt). q.row) here ∙ ap (λ (n : ℕ). record a.row { committed = Some n }) h.entry_is
      ∙ sym (ap (λ (k : Option ℕ). record a.row { committed = stamps.stamped x.ledger.entry k }) uncommitted)

  passes : is_commitment c (g a) ≡ true
  passes =
      ap (λ (b : Bool). is_of c a && is_some (if b then Some (entry s) else a.row.committed)) (eq-eqb a.place place its_place) ∙ ap (λ (b : Bool). b && true) own

  -- what the session then is
  abbrev w : Mark
  w = record { what = mark.Committed; moment = now s }

  abbrev pub d : Call
  d = record c { marks = c.marks ++ w ∷ [] }

  abbrev more : Seen
  more = record s { attempts = map g s.attempts }

  abbrev pub t : Seen
  t = record more { calls = changed (λ (k : Call). record k { marks = k.marks ++ w ∷ [] }) c.number s.calls }

  pub is_committed : call_committed place s ≡ t
  is_committed =
      ap (λ (l : List Attempt). marked_row mark.Committed place (record s { attempts = l })) (changed_is (with_commitment (entry s)) g place a here away s.attempts o.places got)
      ∙ ap (λ (q : Option Attempt). option_map_or (λ (q : Attempt). marked mark.Committed q.row.call more) q more) (numbered_map g s.attempts place ∙ ap (option_map g) got)
      ∙ ap (λ (n : ℕ). marked mark.Committed n more) (eqb-true a.row.call c.number own)

  commitment_now : commitment d t ≡ Some (g a)
  commitment_now = found_by c place (entry s) place s.attempts a o.places refl got passes none_committed

  made_same : attempts_made d t ≡ attempts_made c s
  made_same =
      fold_map (λ (n : ℕ) (q : Attempt). n + cond (is_of c q && not (is_transparent q.row.kind)) 1 0)
      (λ (n : ℕ) (q : Attempt). n + cond (is_of c q && not (is_transparent q.row.kind)) 1 0) g (λ n q. refl) 0 s.attempts

  followed_same : (q : Attempt) → is_followed (g q) t ≡ is_followed q s
  followed_same q = any_map_all (is_later_of (g q)) (is_later_of q) g (λ z. refl) s.attempts

  retried_same : was_retried_so d t ≡ was_retried_so c s
  retried_same =
      any_map_all (λ (q : Attempt). is_of c q && was_refused q && is_followed q t) (λ (q : Attempt). is_of c q && was_refused q && is_followed q s) g
      (λ q. ap (λ (b : Bool). is_of c q && was_refused q && b) (followed_same q)) s.attempts

  -- what its marks say of the newest attempt
  made_keeps : (q : Option Attempt) (y z : DueState) → IsSameAttempt y z
      → IsSameAttempt (option_map_or (due_after_making y) (option_map g q) y) (option_map_or (due_after_making z) q z)
  made_keeps None y z l = l
  made_keeps (Some q) y z l =
      same_both (is_transparent q.row.kind) y (record y { newest = Some q.place; placed = None; forced = None }) z (record z { newest = Some q.place; placed = None; forced = None }) l
      (record { newest = refl; placed = refl })

  mark_keeps : (k : MarkKind) (moment : ℕ) (y z : DueState) → IsSameAttempt y z → IsSameAttempt (due_after_mark c more k moment y) (due_after_mark c s k moment z)
  mark_keeps mark.Configured moment y z l = record { newest = l.newest; placed = l.placed }
  mark_keeps (mark.Made row) moment y z l =
      subst (λ (q : Option Attempt). IsSameAttempt (option_map_or (due_after_making y) q y) (option_map_or (due_after_making z) (numbered s.attempts row) z))
      (sym (numbered_map g s.attempts row)) (made_keeps (numbered s.attempts row) y z l)
  mark_keeps (mark.Placed row) moment y z l =
      subst (λ (b : Bool). IsSameAttempt (if b then record y { placed = Some moment } else y) (if is_number row z.newest then record z { placed = Some moment } else z))
      (sym (ap (is_number row) l.newest))
      (same_both (is_number row z.newest) (record y { placed = Some moment }) y (record z { placed = Some moment }) z (record { newest = l.newest; placed = refl }) l)
  mark_keeps (mark.Ended row) moment y z l =
      joined y (due_after_mark c more (mark.Ended row) moment y) z (due_after_mark c s (mark.Ended row) moment z) (ended_keeps c more y (numbered more.attempts row)) l
      (ended_keeps c s z (numbered s.attempts row))
  mark_keeps mark.Withheld moment y z l = record { newest = l.newest; placed = l.placed }
  mark_keeps mark.Committed moment y z l = record { newest = l.newest; placed = l.placed }
  mark_keeps mark.Closed moment y z l = record { newest = l.newest; placed = l.placed }

  marks_keep : (y z : DueState) (marks : List Mark) → IsSameAttempt y z
      → IsSameAttempt (fold (λ (y : DueState) (m : Mark). due_after_mark c more m.what m.moment y) y marks) (fold (λ (y : DueState) (m : Mark). due_after_mark c s m.what m.moment y) z marks)
  marks_keep y z [] l = l
  marks_keep y z (m ∷ marks) l =
      marks_keep (due_after_mark c more m.what m.moment y) (due_after_mark c s m.what m.moment z) marks (mark_keeps m.what m.moment y z l)

  abbrev before : DueState
  before = fold (λ (y : DueState) (m : Mark). due_after_mark c more m.what m.moment y) no_due c.marks

  same_attempt : IsSameAttempt before (due_state c s)
  same_attempt = marks_keep no_due no_due c.marks (record { newest = refl; placed = refl })

  due_now : due_state d t ≡ record before { stopped = true }
  due_now =
      fold_last (λ (z : DueState) (m : Mark). due_after_mark d t m.what m.moment z) no_due c.marks w
      ∙ ap (λ (z : DueState). record z { stopped = true })
      (frames.due_same more c.number (λ k. k.messages) (λ k. k.finished) (λ k. k.taken) (λ k. k.end_taken) (λ k. k.marks ++ w ∷ []) (λ k. k.end) s.current c no_due c.marks)

  abbrev then_attempts : Attempts
  then_attempts = committed_attempts place x.call.attempts

  attempts_now : AttemptsAgree t d then_attempts
  attempts_now =
      let was : AttemptsAgree s c x.call.attempts = h.attempts in
      record {
        sent = made_same ∙ was.sent;
        due = subst (λ (z : DueState). DuesAgree z then_attempts) (sym due_now)
            (record { newest = same_attempt.newest ∙ was.due.newest; placed = same_attempt.placed ∙ was.due.placed; stopped = refl; forced = λ z. absurd (cc) });
        unplaced = was.unplaced;
        delayed = λ keeps none. absurd (cc);
        last = λ none. absurd (cc);
        refused = retried_same ∙ was.refused;
        committed = ap (option_map (λ (q : Attempt). q.place)) commitment_now ∙ ap (λ (n : ℕ). Some n) its_place;
      }

  -- none goes on
  over_before : (q : Attempt) → is_of c q ≡ true → is_over q s ≡ false
  over_before q mine =
      ap (λ (n : ℕ). holds (λ (k : Call). is_over_in k q s) (numbered s.calls n)) (eqb-true q.row.call c.number mine) ∙ ap (holds (λ (k : Call). is_over_in k q s)) h.own
      ∙ ap (λ (k : Option CallEnd). is_some k || holds (λ (z : Attempt). not (z.row.number == q.row.number)) (commitment c s)) goes_on
      ∙ ap (holds (λ (z : Attempt). not (z.row.number == q.row.number))) free

  no_live : list_any (is_live s c) s.attempts ≡ false
  no_live = none_live (is_live s c) s.attempts (h.live ∙ none)

  live_now : live_rows t d ≡ []
  live_now =
      frames.live_same more c.number (λ k. k.messages) (λ k. k.finished) (λ k. k.taken) (λ k. k.end_taken) (λ k. k.marks ++ w ∷ []) s.current c
      ∙ ap (map live_row)
      (filter_mapped (is_live more c) (λ (q : Attempt). false) (is_live s c) g
      (λ q good. gone_by (is_of c q) (is_outstanding q) (is_none q.row.placed && is_none q.row.ended) (is_over q s) (is_over (g q) more) (over_before q) good) s.attempts no_live
      ∙ ap (map g) (filter_none (λ (q : Attempt). false) (is_live s c) (λ q good. refl) s.attempts no_live))

  noted_now : map (λ (q : Attempt). q.made) (filter (is_of d) (map g s.attempts)) ≡ (call_seen s c).made
  noted_now =
      ap (map (λ (q : Attempt). q.made)) (filter_mapped (is_of c) (is_of c) (λ (q : Attempt). false) g (λ q good. refl) s.attempts (none_bad s.attempts))
      ∙ map_through (λ (q : Attempt). q.made) g (λ (q : Attempt). q.made) (λ q. refl) (filter (is_of c) s.attempts)

  token_by : (run : ThrottleRun) (count : ℕ) (q : Option Attempt) → tokens_by run more count (option_map g q) ≡ tokens_by run s count q
  token_by run count None = refl
  token_by run count (Some q) = refl

  tokens_same : (run : ThrottleRun) (count : ℕ) (places : List ℕ)
      → fold (λ (n at : ℕ). tokens_by run more n (numbered (map g s.attempts) at)) count places ≡ fold (λ (n at : ℕ). tokens_by run s n (numbered s.attempts at)) count places
  tokens_same run count [] = refl
  tokens_same run count (at ∷ places) =
      ap (λ (n : ℕ). fold (λ (j at : ℕ). tokens_by run more j (numbered (map g s.attempts) at)) n places)
      (ap (tokens_by run more count) (numbered_map g s.attempts at) ∙ token_by run count (numbered s.attempts at))
      ∙ tokens_same run (tokens_by run s count (numbered s.attempts at)) places

  bucket_same : (q : Option ThrottleRun) → option_map (bucket_of more) q ≡ option_map (bucket_of s) q
  bucket_same None = refl
  bucket_same (Some run) = ap (λ (n : ℕ). Some (bucket_by run n)) (tokens_same run run.throttle.start run.ends)

  -- what the channel makes of it
  abbrev pub after : Stepped
  after = record x { call = record x.call { attempts = then_attempts }; ledger = steps.commit_stamped place x.ledger }

  pub sees_now : Sees t d after
  sees_now = record {
    own = changed_here (λ (k : Call). record k { marks = k.marks ++ w ∷ [] }) c.number s.calls c h.own;
    number_is = h.number_is;
    request = h.request;
    begun = h.begun;
    chosen = h.chosen;
    finished = h.finished;
    longest_is = h.longest_is;
    ended = h.ended;
    attempts = attempts_now;
    live = live_now ∙ sym none;
    tokens = frames.bucket_reported more c.number (λ k. k.messages) (λ k. k.finished) (λ k. k.taken) (λ k. k.end_taken) (λ k. k.marks ++ w ∷ []) (λ k. k.end) s.current (run_of c s)
        ∙ bucket_same (run_of c s) ∙ h.tokens;
    entry_is = h.entry_is;
    rows = sym (rows_are (with_commitment (entry s)) g place a here away (stamps.committed_row x.ledger.entry) row_here s.attempts o.places got)
        ∙ ap (λ (l : List Row). stamps.changed_at (stamps.committed_row x.ledger.entry) l place) h.rows;
    call_is = h.call_is ∙ ap (λ (l : List ℕ). Some (seen_with (call_seen s c) l)) (sym noted_now);
  }

  own_of : (test : Attempt → Bool) → ((q : Attempt) → test (g q) ≡ test q) → (q : Option Attempt) → holds test (option_map g q) ≡ holds test q
  own_of test same None = refl
  own_of test same (Some q) = same q

  own_still : (k : MarkKind) → is_own_mark s c k ≡ true → is_own_mark t d k ≡ true
  own_still mark.Configured mine = mine
  own_still (mark.Made row) mine = ap (holds (is_of c)) (numbered_map g s.attempts row) ∙ own_of (is_of c) (λ q. refl) (numbered s.attempts row) ∙ mine
  own_still (mark.Placed row) mine = mine
  own_still (mark.Ended row) mine =
      ap (holds (λ (q : Attempt). is_of c q && is_some q.row.ended)) (numbered_map g s.attempts row)
      ∙ own_of (λ (q : Attempt). is_of c q && is_some q.row.ended) (λ q. refl) (numbered s.attempts row) ∙ mine
  own_still mark.Withheld mine = mine
  own_still mark.Committed mine = mine
  own_still mark.Closed mine = mine

  pub order_now : IsInOrder t d
  order_now = record {
    places = numbered_written g (λ q. refl) 1 s.attempts o.places;
    marks =
        list_all-append (λ (m : Mark). is_own_mark t d m.what) c.marks (w ∷ [])
        ∙ ap (λ (b : Bool). b && true)
        (all_so (λ (m : Mark). is_own_mark s c m.what) (λ (m : Mark). is_own_mark t d m.what) (λ m mine. own_still m.what mine) c.marks o.marks);
    numbers = ap (λ (n : ℕ). list_any (λ (q : Attempt). is_of c q && nat_lt n q.row.number) (map g s.attempts)) made_same
        ∙ any_map_all (is_beyond s c) (is_beyond s c) g (λ q. refl) s.attempts ∙ o.numbers;
    first = λ e. ap (λ (z : DueState). z.newest) due_now ∙ same_attempt.newest ∙ o.first (sym made_same ∙ e);
    stops = λ e. ap (λ (z : DueState). z.stopped) due_now;
  }
