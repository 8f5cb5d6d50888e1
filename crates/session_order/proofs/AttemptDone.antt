-- An attempt that ends stirs the lines of transparent retries, of final ends, of the end of its call and of resets.
use Rattle.std.proofs.Common.{◌≡◌, ◌∷◌, ◌++◌, ◌||◌, ◌&&◌, ◌==◌, not, ap, refl, sym, ◌∙◌, Bool, true, false, List, [], Option, None, Some, ℕ, if◌then◌else◌, is_none, is_some, nat_lt}
use Rattle.std.proofs.lemmas.Bool.{and_left, and_right, eqb-false, eqb-true}
use Rattle.std.specs.Option.{option_and_then, option_map, option_map_or}
use Rattle.attempt_ledger.specs.Ends.{is_cut}
use Rattle.attempt_ledger.specs.declared.ledger.Ask.{Ask}
use Rattle.attempt_ledger.specs.declared.row.RowEnd.{RowEnd}
use Rattle.grpc_base.specs.declared.kind.Pick.{Pick}
use Rattle.session_actions.specs.AttemptEnds.{attempt_ended_as, outcome_of, with_end, with_end_in_run}
use Rattle.session_actions.specs.Attempts.{call_of, commitment, is_commitment, is_of, is_outstanding, is_over, is_over_in, is_to_follow}
use Rattle.session_actions.specs.CallEnds.{has_long_response}
use Rattle.session_actions.specs.Calls.{is_open_call}
use Rattle.session_actions.specs.Commitments.{has_head_in, is_free_call, is_headed, is_inherited, is_inherited_by, is_inherited_in}
use Rattle.session_actions.specs.Configs.{config_of_call}
use Rattle.session_actions.specs.Entries.{entry, now}
use Rattle.session_actions.specs.Policies.{is_unfollowed}
use Rattle.session_actions.specs.Responses.{response}
use Rattle.session_actions.specs.Words.{changed, holds, last_of, numbered}
use Rattle.session_actions.specs.Writing.{accepted_bytes}
use Rattle.session_actions.specs.declared.attempt.Attempt.{Attempt}
use Rattle.session_actions.specs.declared.call.Call.{Call}
use Rattle.session_actions.specs.declared.call.Mark.{Mark}
use Rattle.session_actions.specs.declared.config.HeldConfig.{HeldConfig}
use Rattle.session_actions.specs.declared.config.ThrottleRun.{ThrottleRun}
use Rattle.session_actions.specs.declared.entry.OpenEntry.{OpenEntry}
use Rattle.session_actions.specs.declared.seen.Seen.{Seen}
use Rattle.session_order.proofs.Aside.{aside_request}
use Rattle.session_order.proofs.Boards.{goes_on}
use Rattle.session_order.proofs.Changed.{any_changed, changed_away, changed_map, none_changed}
use Rattle.session_order.proofs.Ended.{stronger, none_less}
use Rattle.session_order.proofs.Entered.{moved_to}
use Rattle.session_order.proofs.Lasts.{last_changed, none_before, read_before}
use Rattle.session_order.proofs.Lists.{any_same, holds_same}
use Rattle.session_order.proofs.Queues.{drawn_as, marked_still, turned}
use Rattle.session_order.specs.Quiescent.{IsStill, can_follow, has_outstanding, is_overflowing, is_to_cut, is_to_end, is_to_follow_pick, is_unplaced}
use Rattle.session_order.specs.Laws.{StirsOnly}
use Rattle.session_order.specs.Stirs.{stirs}
use Rattle.session_order.specs.declared.line.Line.{Line}
use Rattle.session_actions.specs.declared.action.Action.TheVariants as action
use Rattle.session_order.specs.declared.line.Line.TheVariants as line
use Rattle.session_actions.specs.declared.call.MarkKind.TheVariants as mark
use Rattle.grpc_base.specs.declared.kind.Pick.TheVariants as pick

no_more : (x y : Bool) → ((x && false) && y) ≡ false
no_more true y = refl
no_more false y = refl

module _ (s : Seen) (n : ℕ) (e : RowEnd) where
  abbrev done : Attempt → Attempt
  done a = with_end e a

  abbrev rows : List Attempt
  rows = changed done n s.attempts

  abbrev t : Seen
  t = record s { attempts = rows }

  -- who is committed, and who is over, stays the same
  over_in : (c : Call) (a : Attempt) → is_over_in c a t ≡ is_over_in c a s
  over_in c a =
      ap (λ (b : Bool). is_some c.end || b)
      (read_before done (holds (λ (k : Attempt). not (k.row.number == a.row.number))) (λ k. refl) (commitment c s) (commitment c t)
      (last_changed (is_commitment c) done (λ k. refl) n s.attempts))

  over_same : (a : Attempt) → is_over a t ≡ is_over a s
  over_same a = holds_same (λ (c : Call). is_over_in c a t) (λ (c : Call). is_over_in c a s) (λ c. over_in c a) (numbered s.calls a.row.call)

  free_same : (c : Call) → is_free_call t c ≡ is_free_call s c
  free_same c =
      ap (λ (b : Bool). is_none c.end && b)
      (read_before done is_none (λ k. refl) (commitment c s) (commitment c t) (last_changed (is_commitment c) done (λ k. refl) n s.attempts))

  cut_one : (a : Attempt) → is_to_cut t a ≡ is_to_cut s a
  cut_one a = ap (λ (b : Bool). is_outstanding a && b) (over_same a)

  inherited_in : (a : Attempt) (c : Call) → is_inherited_in a t c ≡ is_inherited_in a s c
  inherited_in a c =
      ap (λ (b : Bool). is_none c.end && b)
      (read_before done (holds (is_inherited_by a)) (λ k. refl) (commitment c s) (commitment c t) (last_changed (is_commitment c) done (λ k. refl) n s.attempts))

  inherited_one : (a : Attempt) → is_inherited t a ≡ is_inherited s a
  inherited_one a =
      ap (λ (b : Bool). is_none a.row.committed && b)
      (holds_same (is_inherited_in a t) (is_inherited_in a s) (inherited_in a) (numbered s.calls a.row.call))

  head_one : (a : Attempt) → is_headed t a ≡ is_headed s a
  head_one a =
      ap (λ (b : Bool). is_outstanding a && b)
      (holds_same (has_head_in a t) (has_head_in a s) (λ c. ap (λ (b : Bool). b && is_some (response a s).head) (free_same c)) (numbered s.calls a.row.call))

  end_one : (a : Attempt) → is_to_end t a ≡ is_to_end s a
  end_one a = ap (λ (b : Bool). (is_outstanding a && not b) && is_some (outcome_of a s)) (over_same a)

  going_none : (c : Call) → has_outstanding c s ≡ false → has_outstanding c t ≡ false
  going_none c h =
      none_changed (λ (a : Attempt). is_of c a && is_outstanding a) done n s.attempts
      (λ a is. and_right (is_of c a) (is_some a.row.placed && false) (and_right (is_some a.row.placed) false refl)) h

  overflow_one : (c : Call) → is_overflowing s c ≡ false → is_overflowing t c ≡ false
  overflow_one c h =
      ap (λ (b : Bool). (b && nat_lt 262144 (accepted_bytes c)) && has_outstanding c t) (free_same c)
      ∙ stronger (is_free_call s c && nat_lt 262144 (accepted_bytes c)) (has_outstanding c s) (has_outstanding c t) (going_none c) h

  response_one : (c : Call) → has_long_response s c ≡ false → has_long_response t c ≡ false
  response_one c h =
      stronger (is_open_call c) (holds (λ (k : Attempt). is_outstanding k && (response k s).large) (commitment c s))
      (holds (λ (k : Attempt). is_outstanding k && (response k s).large) (commitment c t))
      (none_before done (λ (k : Attempt). is_outstanding k && (response k s).large) (λ k. no_more (is_some k.row.placed) (response (done k) s).large)
      (commitment c s) (commitment c t) (last_changed (is_commitment c) done (λ k. refl) n s.attempts)) h

  unfollowed_by : (o : Option Attempt) → holds is_unfollowed o ≡ false → holds is_unfollowed (option_map done o) ≡ false
  unfollowed_by None h = refl
  unfollowed_by (Some a) h = and_right (is_none a.row.placed) false refl

  unplaced_by : (k : ℕ) (b : Bool) → (k == n) ≡ b → is_unplaced s k ≡ false → is_unplaced t k ≡ false
  unplaced_by k true is h =
      ap (λ (j : ℕ). holds is_unfollowed (numbered rows j)) (eqb-true k n is) ∙ ap (holds is_unfollowed) (changed_map done n s.attempts)
      ∙ unfollowed_by (numbered s.attempts n) (ap (λ (j : ℕ). holds is_unfollowed (numbered s.attempts j)) (sym (eqb-true k n is)) ∙ h)
  unplaced_by k false is h = ap (holds is_unfollowed) (changed_away done n k s.attempts (eqb-false k n is)) ∙ h

  can_same : (p : Pick) → can_follow t p ≡ can_follow s p
  can_same (pick.Place sub) = refl
  can_same pick.Fail = refl
  can_same pick.Wait = refl

  pick_by : (x y z w : Bool) → (x ≡ false → y ≡ false) → (x && z && w) ≡ false → (y && z && w) ≡ false
  pick_by true true z w turn h = h
  pick_by true false z w turn h = refl
  pick_by false true z w turn h = (let bad : true ≡ false = turn refl in absurd (cc))
  pick_by false false z w turn h = refl

  pick_one : (ask : Ask) → is_to_follow_pick s ask ≡ false → is_to_follow_pick t ask ≡ false
  pick_one ask h =
      ap (λ (b : Bool). is_unplaced t ask.row && (ask.entry == entry s) && b) (can_same ask.answer)
      ∙ pick_by (is_unplaced s ask.row) (is_unplaced t ask.row) (ask.entry == entry s) (can_follow s ask.answer)
      (unplaced_by ask.row (ask.row == n) refl) h

  pick_all : (o : Option Ask) → holds (is_to_follow_pick s) o ≡ false → holds (is_to_follow_pick t) o ≡ false
  pick_all None h = refl
  pick_all (Some ask) h = pick_one ask h

  pub attempt_still : (number : ℕ) (l : Line) (o : OpenEntry) → stirs (action.AttemptEnds number e) l ≡ false → IsStill l o s → IsStill l o t
  attempt_still number line.Cut o f h = none_changed (is_to_cut t) done n s.attempts (λ a is. no_more (is_some a.row.placed) (is_over (done a) t))
      (any_same (is_to_cut t) (is_to_cut s) cut_one s.attempts ∙ h)
  attempt_still number line.Transparent o f h = absurd (cc)
  attempt_still number line.Inherited o f h = any_changed (is_inherited t) done (λ a. refl) n s.attempts ∙ any_same (is_inherited t) (is_inherited s) inherited_one s.attempts ∙ h
  attempt_still number line.Row o f h = absurd (cc)
  attempt_still number line.Final o f h = absurd (cc)
  attempt_still number line.Cancelled o f h = h
  attempt_still number line.Request o f h = aside_request o s t ∙ h
  attempt_still number line.Overflow o f h = none_less (is_overflowing t) (is_overflowing s) overflow_one s.calls h
  attempt_still number line.Head o f h = none_changed (is_headed t) done n s.attempts
      (λ a is. no_more (is_some a.row.placed) (holds (has_head_in (done a) t) (numbered s.calls a.row.call)))
      (any_same (is_headed t) (is_headed s) head_one s.attempts ∙ h)
  attempt_still number line.Response o f h = none_less (has_long_response t) (has_long_response s) response_one s.calls h
  attempt_still number line.Pick o f h = pick_all (last_of s.asks) h
  attempt_still number line.Link o f h = h
  attempt_still number line.WireEnd o f h = none_changed (is_to_end t) done n s.attempts
      (λ a is. and_left (is_outstanding (done a) && not (is_over (done a) t)) (is_some (outcome_of (done a) t)) (no_more (is_some a.row.placed) (not (is_over (done a) t))))
      (any_same (is_to_end t) (is_to_end s) end_one s.attempts ∙ h)
  attempt_still number line.Reset o f h = absurd (cc)
  attempt_still number line.Shut o f h = h
  attempt_still number line.Retire o f h = h
  attempt_still number line.Begin o f h = h
  attempt_still number line.Give o f h = h
  attempt_still number line.Drop o f h = h
  attempt_still number line.Add o f h = h

-- the tokens that are counted are of no line but that of final ends
runs_still : (s : Seen) (runs : List ThrottleRun) (number : ℕ) (e : RowEnd) (l : Line) (o : OpenEntry) → stirs (action.AttemptEnds number e) l ≡ false
    → IsStill l o s → IsStill l o (record s { runs = runs })
runs_still s runs number e line.Cut o f h = h
runs_still s runs number e line.Transparent o f h = absurd (cc)
runs_still s runs number e line.Inherited o f h = h
runs_still s runs number e line.Row o f h = absurd (cc)
runs_still s runs number e line.Final o f h = absurd (cc)
runs_still s runs number e line.Cancelled o f h = h
runs_still s runs number e line.Request o f h = aside_request o s (record s { runs = runs }) ∙ h
runs_still s runs number e line.Overflow o f h = h
runs_still s runs number e line.Head o f h = h
runs_still s runs number e line.Response o f h = h
runs_still s runs number e line.Pick o f h = h
runs_still s runs number e line.Link o f h = h
runs_still s runs number e line.WireEnd o f h = h
runs_still s runs number e line.Reset o f h = absurd (cc)
runs_still s runs number e line.Shut o f h = h
runs_still s runs number e line.Retire o f h = h
runs_still s runs number e line.Begin o f h = h
runs_still s runs number e line.Give o f h = h
runs_still s runs number e line.Drop o f h = h
runs_still s runs number e line.Add o f h = h

stirs_less : (row call : ℕ) (e : RowEnd) (l : Line) → stirs (action.AttemptEnds row e) l ≡ false → stirs (action.HedgeWithheld call) l ≡ false
stirs_less row call e line.Cut f = refl
stirs_less row call e line.Transparent f = refl
stirs_less row call e line.Inherited f = refl
stirs_less row call e line.Row f = refl
stirs_less row call e line.Final f = absurd (cc)
stirs_less row call e line.Cancelled f = refl
stirs_less row call e line.Request f = refl
stirs_less row call e line.Overflow f = refl
stirs_less row call e line.Head f = refl
stirs_less row call e line.Response f = refl
stirs_less row call e line.Pick f = refl
stirs_less row call e line.Link f = refl
stirs_less row call e line.WireEnd f = refl
stirs_less row call e line.Reset f = refl
stirs_less row call e line.Shut f = refl
stirs_less row call e line.Retire f = refl
stirs_less row call e line.Begin f = refl
stirs_less row call e line.Give f = refl
stirs_less row call e line.Drop f = refl
stirs_less row call e line.Add f = refl

run_by : (s : Seen) (a : Attempt) (run : Option ℕ) (number : ℕ) (e : RowEnd) (l : Line) (o : OpenEntry) → stirs (action.AttemptEnds number e) l ≡ false
    → IsStill l o s
    → IsStill l o (option_map_or (λ (k : ℕ). record s { runs = changed (λ (u : ThrottleRun). record u { ends = u.ends ++ a.place ∷ [] }) k s.runs }) run s)
run_by s a None number e l o f h = h
run_by s a (Some k) number e l o f h = runs_still s (changed (λ (u : ThrottleRun). record u { ends = u.ends ++ a.place ∷ [] }) k s.runs) number e l o f h

run_if : (s : Seen) (a : Attempt) (b : Bool) (run : Option ℕ) (number : ℕ) (e : RowEnd) (l : Line) (o : OpenEntry) → stirs (action.AttemptEnds number e) l ≡ false
    → IsStill l o s
    → IsStill l o (if b then option_map_or (λ (k : ℕ). record s { runs = changed (λ (u : ThrottleRun). record u { ends = u.ends ++ a.place ∷ [] }) k s.runs }) run s
    else s)
run_if s a true run number e l o f h = run_by s a run number e l o f h
run_if s a false run number e l o f h = h

run_of_call : (s : Seen) (a : Attempt) (c : Option Call) (number : ℕ) (e : RowEnd) (l : Line) (o : OpenEntry) → stirs (action.AttemptEnds number e) l ≡ false
    → IsStill l o s → IsStill l o (option_map_or (with_end_in_run a e s) c s)
run_of_call s a None number e l o f h = h
run_of_call s a (Some c) number e l o f h =
    run_if s a (not (is_cut e.cause) && not (is_to_follow c e.cause e.unseen s)) (option_and_then (λ (x : HeldConfig). x.run) (config_of_call c s)) number e l o f h

current_by : (s : Seen) (a : Attempt) (b : Bool) (run : Option ℕ)
    → (if b then option_map_or (λ (k : ℕ). record s { runs = changed (λ (u : ThrottleRun). record u { ends = u.ends ++ a.place ∷ [] }) k s.runs }) run s else s).current
    ≡ s.current
current_by s a true None = refl
current_by s a true (Some k) = refl
current_by s a false run = refl

current_of : (s : Seen) (a : Attempt) (e : RowEnd) (c : Option Call) → (option_map_or (with_end_in_run a e s) c s).current ≡ s.current
current_of s a e None = refl
current_of s a e (Some c) =
    current_by s a (not (is_cut e.cause) && not (is_to_follow c e.cause e.unseen s)) (option_and_then (λ (x : HeldConfig). x.run) (config_of_call c s))

ended_of : (number : ℕ) (e : RowEnd) (o : OpenEntry) (s : Seen) (a : Attempt) → s.current ≡ Some o → (l : Line) → stirs (action.AttemptEnds number e) l ≡ false
    → IsStill l o s → (p : OpenEntry) → (attempt_ended_as e s a).current ≡ Some p → IsStill l p (attempt_ended_as e s a)
ended_of number e o s a now_open l f h p is =
    let u : Seen = option_map_or (with_end_in_run a e s) (call_of a s) s in
    let v : Seen = record u { attempts = changed (with_end e) a.place u.attempts } in
    let marks : Call → List Mark = λ (c : Call). c.marks ++ record { what = mark.Ended a.place; moment = now v } ∷ [] in
    let w : Seen = record v { calls = changed (λ (c : Call). record c { marks = marks c }) a.row.call v.calls } in
    let still_open : w.current ≡ Some o = current_of s a e (call_of a s) ∙ now_open in
    let one : IsStill l o v = attempt_still u a.place e number l o f (run_of_call s a (call_of a s) number e l o f h) in
    let two : IsStill l o w = marked_still v a.row.call marks l o (stirs_less number a.row.call e l f) one in
    let d : OpenEntry = drawn_as (is_some e.word) o in
    moved_to (drawn_as (is_some e.word)) o w still_open l (turned d.drawn o.turn o w l two) p is

ended_by : (number : ℕ) (e : RowEnd) (o : OpenEntry) (s : Seen) (a : Option Attempt) → s.current ≡ Some o → (l : Line)
    → stirs (action.AttemptEnds number e) l ≡ false → IsStill l o s → (p : OpenEntry) → (option_map_or (attempt_ended_as e s) a s).current ≡ Some p
    → IsStill l p (option_map_or (attempt_ended_as e s) a s)
ended_by number e o s None now_open l f h p is = goes_on o s now_open l h p is
ended_by number e o s (Some a) now_open l f h p is = ended_of number e o s a now_open l f h p is

pub attempt_leaves : (row : ℕ) (end : RowEnd) → StirsOnly (action.AttemptEnds row end)
attempt_leaves row end o s now_open fits l p is not_stirred h = ended_by row end o s (numbered s.attempts row) now_open l not_stirred h p is
