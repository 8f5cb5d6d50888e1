-- A call that ends stirs the line of the cuts alone: of a call that has ended nothing follows but that its attempts are cut off.
use Rattle.std.proofs.Common.{◌≡◌, ◌∷◌, ◌++◌, ◌||◌, ◌&&◌, ◌==◌, not, ap, refl, subst, sym, ◌∙◌, Bool, true, false, List, [], Option, None, Some, ℕ, is_none, is_some}
use Rattle.std.proofs.lemmas.Bool.{eqb-false, eqb-true, or_from, or_parts}
use Rattle.std.specs.List.{list_any}
use Rattle.std.specs.Option.{option_map, option_map_or}
use Rattle.attempt_ledger.specs.Ends.{is_cut}
use Rattle.attempt_ledger.specs.declared.ledger.CallEnd.{CallEnd}
use Rattle.attempt_ledger.specs.declared.row.RowEnd.{RowEnd}
use Rattle.grpc_base.specs.Limits.{message_limit}
use Rattle.grpc_base.specs.declared.event.EndCause.{EndCause}
use Rattle.session_actions.specs.AttemptEnds.{outcome_of}
use Rattle.session_actions.specs.Attempts.{commitment, counts_by, is_counted, is_followed, is_of, is_outstanding, is_over, is_over_in, is_queued, is_to_follow, wants_follower, wants_follower_by}
use Rattle.session_actions.specs.CallEnds.{call_ended, has_long_request, has_long_response, is_cancelled, is_over_by_row, is_shut_down}
use Rattle.session_actions.specs.Calls.{is_open_call}
use Rattle.session_actions.specs.Commitments.{has_head_in, is_final_end, is_final_in, is_headed, is_inherited, is_inherited_in}
use Rattle.session_actions.specs.Configs.{chosen_of}
use Rattle.session_actions.specs.DueAttempts.{has_going}
use Rattle.session_actions.specs.Entries.{entry, now}
use Rattle.session_actions.specs.Responses.{limit_of_attempt}
use Rattle.session_actions.specs.Words.{changed, holds, numbered}
use Rattle.session_actions.specs.declared.attempt.Attempt.{Attempt}
use Rattle.session_actions.specs.declared.call.Call.{Call}
use Rattle.session_actions.specs.declared.call.Mark.{Mark}
use Rattle.session_actions.specs.declared.entry.OpenEntry.{OpenEntry}
use Rattle.session_actions.specs.declared.response.Outcome.{Outcome}
use Rattle.session_actions.specs.declared.seen.Seen.{Seen}
use Rattle.session_order.proofs.Aside.{long_as}
use Rattle.session_order.proofs.Boards.{goes_on}
use Rattle.session_order.proofs.Changed.{changed_away, changed_map, changed_twice, lookup, none_each_changed, none_from, passes_not}
use Rattle.session_order.proofs.Finals.{final_same}
use Rattle.session_order.proofs.Limits.{headed_in, limits_reset, long_response, outcome_same}
use Rattle.session_order.proofs.Lists.{any_same, holds_same}
use Rattle.session_order.specs.Quiescent.{IsStill, is_overflowing, is_to_end}
use Rattle.session_order.specs.Laws.{StirsOnly}
use Rattle.session_order.specs.Stirs.{CallsHaveTheirNumbers, stirs}
use Rattle.session_order.specs.declared.line.Line.{Line}
use Rattle.session_actions.specs.declared.action.Action.TheVariants as action
use Rattle.session_order.specs.declared.line.Line.TheVariants as line
use Rattle.session_actions.specs.declared.call.MarkKind.TheVariants as mark

-- a test that asks for less
pub none_less : {X : Type 0} (test wide : X → Bool) → ((x : X) → wide x ≡ false → test x ≡ false) → (xs : List X) → list_any wide xs ≡ false
    → list_any test xs ≡ false
none_less test wide restricted [] e = refl
none_less test wide restricted (x ∷ xs) e =
    let parts : (wide x ≡ false) × (list_any wide xs ≡ false) = or_parts (wide x) (list_any wide xs) e in
    or_from (test x) (list_any test xs) (restricted x parts.0) (none_less test wide restricted xs parts.1)

pub stronger : (x p q : Bool) → (p ≡ false → q ≡ false) → (x && p) ≡ false → (x && q) ≡ false
stronger true p q turn e = turn e
stronger false p q turn e = refl

module _ (s : Seen) (n : ℕ) (marks : Call → List Mark) (end : CallEnd) (numbers : CallsHaveTheirNumbers s) where
  abbrev over_now : Call → Call
  over_now c = record c { marks = marks c; end = Some end }

  abbrev cs : List Call
  cs = changed over_now n s.calls

  abbrev t : Seen
  t = record s { calls = cs }

  -- of each number: the ended call, or the same as before
  here_ends : (Q : Call → Bool) → ((c : Call) → Q (over_now c) ≡ false) → (o : Option Call) → holds Q (option_map over_now o) ≡ false
  here_ends Q never None = refl
  here_ends Q never (Some c) = never c

  ends_by : (Q : Call → Bool) → ((c : Call) → Q (over_now c) ≡ false) → (k : ℕ) (b : Bool) → (k == n) ≡ b → holds Q (numbered s.calls k) ≡ false
      → holds Q (numbered cs k) ≡ false
  ends_by Q never k true e none =
      ap (λ (j : ℕ). holds Q (numbered cs j)) (eqb-true k n e) ∙ ap (holds Q) (changed_map over_now n s.calls) ∙ here_ends Q never (numbered s.calls n)
  ends_by Q never k false e none = ap (holds Q) (changed_away over_now n k s.calls (eqb-false k n e)) ∙ none

  ends_at : (Q : Call → Bool) → ((c : Call) → Q (over_now c) ≡ false) → (k : ℕ) → holds Q (numbered s.calls k) ≡ false → holds Q (numbered cs k) ≡ false
  ends_at Q never k none = ends_by Q never k (k == n) refl none

  wants_same : (a : Attempt) (e : RowEnd) → wants_follower_by a t e ≡ wants_follower_by a s e
  wants_same a e =
      ap (λ (x : Bool). not (is_followed a s) && x)
      (lookup (holds (λ (c : Call). is_to_follow c e.cause e.unseen s)) over_now (λ c. refl) n s.calls a.row.call)

  counts_same : (a : Attempt) (e : RowEnd) → counts_by a t e ≡ counts_by a s e
  counts_same a e = ap (λ (x : Bool). (not (is_cut e.cause) && not (is_followed a s)) && not x) (wants_same a e)

  counted_same : (a : Attempt) → is_counted a t ≡ is_counted a s
  counted_same a = holds_same (counts_by a t) (counts_by a s) (counts_same a) a.row.ended

  limit_same : (a : Attempt) → limit_of_attempt a t ≡ limit_of_attempt a s
  limit_same a =
      lookup (λ (o : Option Call). option_map_or (λ (c : Call). (chosen_of c s).response) o message_limit) over_now (λ c. refl) n s.calls a.row.call

  transparent_still : list_any (λ (a : Attempt). wants_follower a t) s.attempts ≡ list_any (λ (a : Attempt). wants_follower a s) s.attempts
  transparent_still =
      any_same (λ (a : Attempt). wants_follower a t) (λ (a : Attempt). wants_follower a s)
      (λ a. holds_same (wants_follower_by a t) (wants_follower_by a s) (wants_same a) a.row.ended) s.attempts

  inherited_still : list_any (is_inherited s) s.attempts ≡ false → list_any (is_inherited t) s.attempts ≡ false
  inherited_still h =
      none_less (is_inherited t) (is_inherited s)
      (λ a. stronger (is_none a.row.committed) (holds (is_inherited_in a s) (numbered s.calls a.row.call)) (holds (is_inherited_in a s) (numbered cs a.row.call))
      (ends_at (is_inherited_in a s) (λ c. refl) a.row.call)) s.attempts h

  row_same : (c : Call) → is_over_by_row t c ≡ is_over_by_row s c
  row_same c =
      ap (λ (x : Bool). is_open_call c && x) (holds_same (λ (k : Attempt). is_counted k t) (λ (k : Attempt). is_counted k s) counted_same (commitment c s))

  row_still : list_any (is_over_by_row s) s.calls ≡ false → list_any (is_over_by_row t) cs ≡ false
  row_still h =
      none_each_changed (is_over_by_row t) over_now n s.calls (λ c e. refl)
      (λ k c other e. row_same c ∙ passes_not (is_over_by_row s) s.calls k c h e)

  -- another call goes on as before
  over_away : (a : Attempt) → (a.row.call ≡ n → ⊥) → is_over a t ≡ is_over a s
  over_away a other = ap (holds (λ (c : Call). is_over_in c a s)) (changed_away over_now n a.row.call s.calls other)

  going_by : (c : Call) (a : Attempt) (b : Bool) → is_of c a ≡ b → (c.number ≡ n → ⊥)
      → (is_of c a && (is_outstanding a || is_queued a t)) ≡ (is_of c a && (is_outstanding a || is_queued a s))
  going_by c a true e other =
      ap (λ (x : Bool). is_of c a && (is_outstanding a || ((is_none a.row.placed && is_none a.row.ended) && not x)))
      (over_away a (λ f. other (sym (eqb-true a.row.call c.number e) ∙ f)))
  going_by c a false e other =
      ap (λ (x : Bool). x && (is_outstanding a || is_queued a t)) e ∙ sym (ap (λ (x : Bool). x && (is_outstanding a || is_queued a s)) e)

  going_away : (c : Call) → (c.number ≡ n → ⊥) → has_going c t ≡ has_going c s
  going_away c other =
      any_same (λ (a : Attempt). is_of c a && (is_outstanding a || is_queued a t)) (λ (a : Attempt). is_of c a && (is_outstanding a || is_queued a s))
      (λ a. going_by c a (is_of c a) refl other) s.attempts

  final_away : (i : ℕ) (a : Attempt) → numbered s.attempts i ≡ Some a → (k : ℕ) (o : Option Call) → (k ≡ n → ⊥) → numbered s.calls k ≡ o → holds (is_final_in a s) o ≡ false
      → holds (is_final_in a t) o ≡ false
  final_away i a at k None other is h = refl
  final_away i a at k (Some c) other is h =
      final_same s s cs (λ (x : Call). x.messages) (λ (x : Call). x.finished) (λ (x : Call). x.taken) (λ (x : Call). x.end_taken) (λ j x here. counts_same x) c
      (going_away c (λ f. other (sym (numbers k c is) ∙ f))) i a at ∙ h

  final_by : (i : ℕ) (a : Attempt) → numbered s.attempts i ≡ Some a → (b : Bool) → (a.row.call == n) ≡ b → holds (is_final_in a s) (numbered s.calls a.row.call) ≡ false
      → holds (is_final_in a t) (numbered cs a.row.call) ≡ false
  final_by i a at true e h =
      ap (λ (j : ℕ). holds (is_final_in a t) (numbered cs j)) (eqb-true a.row.call n e) ∙ ap (holds (is_final_in a t)) (changed_map over_now n s.calls)
      ∙ here_ends (is_final_in a t) (λ c. refl) (numbered s.calls n)
  final_by i a at false e h =
      ap (holds (is_final_in a t)) (changed_away over_now n a.row.call s.calls (eqb-false a.row.call n e))
      ∙ final_away i a at a.row.call (numbered s.calls a.row.call) (eqb-false a.row.call n e) refl h

  final_still : list_any (is_final_end s) s.attempts ≡ false → list_any (is_final_end t) s.attempts ≡ false
  final_still h =
      none_from (is_final_end t) s.attempts
      (λ i a at. final_by i a at (a.row.call == n) refl (passes_not (is_final_end s) s.attempts i a h at))

  head_still : list_any (is_headed s) s.attempts ≡ false → list_any (is_headed t) s.attempts ≡ false
  head_still h =
      none_less (is_headed t) (is_headed s)
      (λ a. stronger (is_outstanding a) (holds (has_head_in a s) (numbered s.calls a.row.call)) (holds (has_head_in a t) (numbered cs a.row.call))
      (λ e. holds_same (has_head_in a t) (has_head_in a s) (headed_in s cs limit_same a) (numbered cs a.row.call)
      ∙ ends_at (has_head_in a s) (λ c. refl) a.row.call e)) s.attempts h

  response_still : list_any (has_long_response s) s.calls ≡ false → list_any (has_long_response t) cs ≡ false
  response_still h =
      none_each_changed (has_long_response t) over_now n s.calls (λ c e. refl)
      (λ k c other e. long_response s cs limit_same c ∙ passes_not (has_long_response s) s.calls k c h e)

  over_here : (a : Attempt) (o : Option Call) → holds (λ (c : Call). is_over_in c a s) o ≡ true → holds (λ (c : Call). is_over_in c a s) (option_map over_now o) ≡ true
  over_here a None e = e
  over_here a (Some c) e = refl

  more_over_by : (a : Attempt) (b : Bool) → (a.row.call == n) ≡ b → is_over a s ≡ true → is_over a t ≡ true
  more_over_by a true e h =
      let there : is_over a s ≡ holds (λ (c : Call). is_over_in c a s) (numbered s.calls n)
      = ap (λ (j : ℕ). holds (λ (c : Call). is_over_in c a s) (numbered s.calls j)) (eqb-true a.row.call n e) in
      ap (λ (j : ℕ). holds (λ (c : Call). is_over_in c a s) (numbered cs j)) (eqb-true a.row.call n e)
      ∙ ap (holds (λ (c : Call). is_over_in c a s)) (changed_map over_now n s.calls) ∙ over_here a (numbered s.calls n) (sym there ∙ h)
  more_over_by a false e h = over_away a (eqb-false a.row.call n e) ∙ h

  less_to_end : (x p q y z : Bool) → (p ≡ true → q ≡ true) → y ≡ z → ((x && not p) && z) ≡ false → ((x && not q) && y) ≡ false
  less_to_end false p q y z turn same e = refl
  less_to_end true true true y z turn same e = refl
  less_to_end true true false y z turn same e = absurd (let bad : false ≡ true = turn refl in absurd (cc))
  less_to_end true false true y z turn same e = refl
  less_to_end true false false y z turn same e = same ∙ e

  end_still : list_any (is_to_end s) s.attempts ≡ false → list_any (is_to_end t) s.attempts ≡ false
  end_still h =
      none_less (is_to_end t) (is_to_end s)
      (λ a. less_to_end (is_outstanding a) (is_over a s) (is_over a t) (is_some (outcome_of a t)) (is_some (outcome_of a s))
      (more_over_by a (a.row.call == n) refl) (ap (λ (x : Option Outcome). is_some x) (outcome_same s cs limit_same a))) s.attempts h

  pub ended_still : (why : EndCause) (l : Line) (o : OpenEntry) → stirs (action.CallEnds n why) l ≡ false → IsStill l o s → IsStill l o t
  ended_still why line.Cut o e h = absurd (cc)
  ended_still why line.Transparent o e h = transparent_still ∙ h
  ended_still why line.Inherited o e h = inherited_still h
  ended_still why line.Row o e h = row_still h
  ended_still why line.Final o e h = final_still h
  ended_still why line.Cancelled o e h = none_each_changed (is_cancelled o) over_now n s.calls (λ c f. refl) (λ k c other f. passes_not (is_cancelled o) s.calls k c h f)
  ended_still why line.Request o e h = none_each_changed (has_long_request o t) over_now n s.calls (λ c f. refl) (λ k c other f. long_as o c c t s refl refl refl (λ m. refl) ∙ passes_not (has_long_request o s) s.calls k c h f)
  ended_still why line.Overflow o e h = none_each_changed (is_overflowing t) over_now n s.calls (λ c f. refl) (λ k c other f. passes_not (is_overflowing s) s.calls k c h f)
  ended_still why line.Head o e h = head_still h
  ended_still why line.Response o e h = response_still h
  ended_still why line.Pick o e h = h
  ended_still why line.Link o e h = h
  ended_still why line.WireEnd o e h = end_still h
  ended_still why line.Reset o e h = limits_reset s cs limit_same ∙ h
  ended_still why line.Shut o e h = none_each_changed (is_shut_down t) over_now n s.calls (λ c f. refl) (λ k c other f. passes_not (is_shut_down s) s.calls k c h f)
  ended_still why line.Retire o e h = h
  ended_still why line.Begin o e h = h
  ended_still why line.Give o e h = h
  ended_still why line.Drop o e h = h
  ended_still why line.Add o e h = h

pub ended_leaves : (call : ℕ) (why : EndCause) → StirsOnly (action.CallEnds call why)
ended_leaves call why o s e fits l p is not_stirred h =
    let marks : Call → List Mark = λ (c : Call). c.marks ++ record { what = mark.Closed; moment = now s } ∷ [] in
    let end : CallEnd = record { entry = entry s; moment = now s; cause = why } in
    let twice : changed (λ (c : Call). record c { end = Some end }) call (changed (λ (c : Call). record c { marks = marks c }) call s.calls)
    ≡ changed (λ (c : Call). record c { marks = marks c; end = Some end }) call s.calls
    = changed_twice (λ (c : Call). record c { marks = marks c }) (λ (c : Call). record c { end = Some end }) call s.calls in
    goes_on o (call_ended call why s) e l
    (subst (λ (x : List Call). IsStill l o (record s { calls = x })) (sym twice) (ended_still s call marks end fits why l o not_stirred h)) p is
