-- What follows once a hedge was withheld where no attempt of its call goes on: the call is committed to the attempt whose end counted last, and ends by it; and nothing else follows.
use Rattle.attempt_ledger.specs.Ends.{is_cut}
use Rattle.attempt_ledger.specs.Hedging.{is_hedge}
use Rattle.attempt_ledger.specs.Numbering.{later_kind, most_attempts}
use Rattle.attempt_ledger.specs.declared.ledger.CallEnd.{CallEnd}
use Rattle.attempt_ledger.specs.declared.row.RowEnd.{RowEnd}
use Rattle.attempt_ledger.specs.declared.row.RowKind.TheVariants as kind
use Rattle.call_actions.proofs.Frames.{counted_rows_same, due_same, live_same}
use Rattle.call_actions.proofs.Lists.{numbered_not}
use Rattle.call_actions.proofs.Report.{fold_last}
use Rattle.call_actions.specs.Sees.{is_live}
use Rattle.call_core.specs.Going.{hedges}
use Rattle.call_cases.proofs.EndsFollow.Steps.{call_number}
use Rattle.call_cases.proofs.OtherCalls.Rows.{number_at}
use Rattle.channel_actions.proofs.Settles.{with_open}
use Rattle.channel_actions.proofs.Stamps.{counted_at}
use Rattle.channel_actions.specs.Agrees.{Agrees}
use Rattle.channel_actions.specs.KeptSessions.Kept.{IsKept}
use Rattle.call_cases.specs.OtherCalls.Others.{GoesApart}
use Rattle.end_cases.proofs.AttemptEnds.After.{placed_from}
use Rattle.end_cases.proofs.AttemptEnds.ClosedLines.{before_row}
use Rattle.end_cases.proofs.AttemptEnds.LastCommits.{before_final, found_one}
use Rattle.end_cases.proofs.AttemptEnds.Lists.{IsFrom, find_one, from_map, next_apart}
use Rattle.end_cases.proofs.AttemptEnds.Others.{cut_none, final_none, none_at, row_none}
use Rattle.call_cases.proofs.CommitsFollow.Newest.{new_last}
use Rattle.end_cases.proofs.LastHedges.Agree as agree
use Rattle.end_cases.proofs.LastHedges.Step as step
use Rattle.end_cases.proofs.LastHedges.Step.{LastHedge}
use Rattle.attempt_cases.proofs.MakingSteps.Lists.{holds_alike, holds_changed}
use Rattle.attempt_cases.proofs.MakingSteps.WithheldNow.{any_live, some_row}
use Rattle.channel_core.specs.States.{StateSeen}
use Rattle.grpc_base.specs.Codes.{has_code}
use Rattle.grpc_base.specs.declared.event.EndCause.TheVariants as ending_cause
use Rattle.grpc_base.specs.declared.plan.CallPlan.TheVariants as plans
use Rattle.grpc_base.specs.declared.plan.CallPlan.{CallPlan}
use Rattle.link_actions.proofs.Without.{at_place, changed_at}
use Rattle.link_actions.specs.Sees.{AttemptsStandInPlace as ArePlacedOn}
use Rattle.session_actions.specs.Actions.{following}
use Rattle.session_actions.specs.Attempts.{commitment, counts_by, is_commitment, is_counted, is_followed, is_later_of, is_of, is_outstanding, is_over, is_queued, is_to_follow, wants_follower, wants_follower_by}
use Rattle.session_actions.specs.CallEnds.{ending_call, is_over_by_row}
use Rattle.session_actions.specs.Commitments.{committing, is_final_end, is_final_in, is_free_call, with_commitment}
use Rattle.session_actions.specs.Configs.{plan_of}
use Rattle.session_actions.specs.DueAttempts.{attempts_made, counted_row, due_after_mark, due_by, due_state, has_going, hedge_due, is_final, is_final_by, kind_of_next, last_counted, next_due, no_due}
use Rattle.session_actions.specs.Entries.{entry, now}
use Rattle.session_actions.specs.Events.{is_loss}
use Rattle.session_actions.specs.Responses.{response}
use Rattle.session_actions.specs.Tokens.{has_tokens}
use Rattle.session_actions.specs.Words.{find_last, holds, is_number, last_of, numbered}
use Rattle.session_actions.specs.declared.action.Action.{Action}
use Rattle.session_actions.specs.declared.action.CommitCause.TheVariants as commit
use Rattle.session_actions.specs.declared.attempt.Attempt.{Attempt}
use Rattle.session_actions.specs.declared.call.Call.{Call}
use Rattle.session_actions.specs.declared.call.Mark.{Mark}
use Rattle.session_actions.specs.declared.call.MarkKind.TheVariants as mark
use Rattle.session_actions.specs.declared.due.DueState.{DueState}
use Rattle.session_actions.specs.declared.entry.OpenEntry.{OpenEntry}
use Rattle.session_actions.specs.declared.seen.Seen.{Seen}
use Rattle.session_order.proofs.Quiescence.{first_line_gives}
use Rattle.session_order.proofs.Changed.{any_changed}
use Rattle.session_order.proofs.Commits.{committed_leaves}
use Rattle.session_order.proofs.Ended.{ended_leaves}
use Rattle.session_order.proofs.Queues.{withheld_leaves}
use Rattle.session_order.specs.Quiescent.{IsStill, is_to_cut}
use Rattle.session_order.specs.Lines.{is_line}
use Rattle.session_order.specs.Stirs.{IsCommittable, stirs}
use Rattle.session_order.specs.declared.line.Line.TheVariants as line
use Rattle.session_order.specs.declared.line.Line.{Line}
use Rattle.std.proofs.Common.{Bool, List, None, Option, Some, [], ap, append-nil, arith, eq-eqb, eqb-true, false, filter_map, find, if◌then◌else◌, is_none, is_some, nat_le, not, option_map, refl, slice_get, subst, suc, sym, true, unwrap_or, zero, ℕ, ◌&&◌, ◌++◌, ◌+◌, ◌==◌, ◌||◌, ◌∙◌, ◌∷◌, ◌≡◌}
use Rattle.std.proofs.lemmas.Bool.Decides.{nat_tests}
use Rattle.std.proofs.lemmas.Bool.{and_parts, and_right, or_right}
use Rattle.std.proofs.lemmas.List.Elements.{filter_map-append}
use Rattle.std.specs.Option.{option_or}

two_off : (p q : Bool) → (p || q) ≡ false → p ≡ false
two_off false q e = refl
two_off true q e = absurd (cc)

three_back : (p q r : Bool) → ((p && q) && r) ≡ false → p ≡ true → q ≡ true → r ≡ false
three_back true true r e f g = e
three_back true false r e f g = absurd (cc)
three_back false q r e f g = absurd (cc)

other_place : (m n i : ℕ) → m ≡ i → (i == n) ≡ false → (n == m) ≡ false
other_place m n i same off = grind (arith, nat_tests, same, off)

counted_parts : (p q r : Bool) → ((not p && not q) && not r) ≡ true → (not p ≡ true) × (q ≡ false)
counted_parts false false false e = (refl, refl)
counted_parts false false true e = absurd (cc)
counted_parts false true r e = absurd (cc)
counted_parts true q r e = absurd (cc)

out_not : (mine out_ q : Bool) → mine ≡ true → (mine && (out_ || q)) ≡ false → out_ ≡ false
out_not true true q e f = absurd (cc)
out_not true false q e f = refl
out_not false out_ q e f = absurd (cc)

-- only a hedged call has a hedge to come
hedge_kind : (p : CallPlan) (b : Bool) → is_hedge (unwrap_or (if b then Some kind.First else later_kind p) kind.First) ≡ true → hedges p ≡ true
hedge_kind plans.None true e = absurd (cc)
hedge_kind plans.None false e = absurd (cc)
hedge_kind (plans.Retry p) true e = absurd (cc)
hedge_kind (plans.Retry p) false e = absurd (cc)
hedge_kind (plans.Hedge p) true e = absurd (cc)
hedge_kind (plans.Hedge p) false e = refl

undue : (p : CallPlan) (made : ℕ) (d : DueState) → d.stopped ≡ true → due_by p made d ≡ None
undue p made d e = ap (λ (b : Bool). if b || nat_le (most_attempts p) made then None else option_or d.forced (hedge_due p d)) e

module _ (x : StateSeen) (o : OpenEntry) (s0 : Seen) (k : LastHedge x o (with_open o s0)) where
  abbrev s : Seen
  s = step.s x o s0 k

  abbrev c : Call
  c = step.c x o s0 k

  abbrev n : ℕ
  n = c.number

  abbrev h : Agrees x s
  h = k.agrees

  abbrev a : Attempt
  a = step.a x o s0 k

  abbrev a2 : Attempt
  a2 = step.a2 x o s0 k

  abbrev p : OpenEntry
  p = step.p x o s0 k

  abbrev u1 : Seen
  u1 = step.u1 x o s0 k

  abbrev u2 : Seen
  u2 = step.u2 x o s0 k

  abbrev t : Seen
  t = step.t x o s0 k

  abbrev c1 : Call
  c1 = step.c1 x o s0 k

  abbrev c2 : Call
  c2 = step.c2 x o s0 k

  abbrev c3 : Call
  c3 = step.c3 x o s0 k

  abbrev one : Action
  one = step.one x o s0 k

  abbrev two : Action
  two = step.two x o s0 k

  abbrev three : Action
  three = step.three x o s0 k

  abbrev a_there : numbered s.attempts a.place ≡ Some a
  a_there = step.a_there x o s0 k

  abbrev e : RowEnd
  e = step.e x o s0 k

  abbrev a_over : a.row.ended ≡ Some e
  a_over = step.a_over x o s0 k

  its_parts : (not (is_cut e.cause) ≡ true) × (is_followed a s ≡ false)
  its_parts = counted_parts (is_cut e.cause) (is_followed a s) (wants_follower_by a s e) (step.e_counts x o s0 k)

  -- once the hedge is withheld
  still_one : (l : Line) → stirs one l ≡ false → IsStill l p u1
  still_one l unstirred = withheld_leaves n o s refl tt l p refl unstirred (k.quiescent l)

  abbrev kept_one : IsKept u1
  kept_one = agree.kept_one x o s0 k

  -- its attempts: their ends count as before
  counts_same : (q : Attempt) (r : RowEnd) → counts_by q u1 r ≡ counts_by q s r
  counts_same q r =
      ap (λ (b : Bool). not (is_cut r.cause) && not (is_followed q s) && not (not (is_followed q s) && b))
      (holds_changed (step.noted x o s0 k mark.Withheld) n s.calls (λ (g : Call). is_to_follow g r.cause r.unseen s) (λ g. refl) q.row.call)

  counted_same : (q : Attempt) → is_counted q u1 ≡ is_counted q s
  counted_same q = holds_alike (counts_by q u1) (counts_by q s) (λ r. counts_same q r) q.row.ended

  free_one : is_free_call u1 c1 ≡ true
  free_one = ap (λ (q : Option CallEnd). is_none q && is_none (commitment c s)) (step.is_open x o s0 k) ∙ ap (λ (q : Option Attempt). is_none q) (step.free x o s0 k)

  free_was : is_free_call s c ≡ true
  free_was = ap (λ (q : Option CallEnd). is_none q && is_none (commitment c s)) (step.is_open x o s0 k) ∙ ap (λ (q : Option Attempt). is_none q) (step.free x o s0 k)

  -- none is due, none goes on, and its end is the last that counted
  due_then : due_state c1 u1 ≡ record (due_state c s) { stopped = true }
  due_then =
      fold_last (λ (z : DueState) (m : Mark). due_after_mark c1 u1 m.what m.moment z) no_due c.marks (record { what = mark.Withheld; moment = now s })
      ∙ ap (λ (z : DueState). record z { stopped = true })
      (due_same s n (λ g. g.messages) (λ g. g.finished) (λ g. g.taken) (λ g. g.end_taken) (λ g. g.marks ++ record { what = mark.Withheld; moment = now s } ∷ []) (λ g. g.end) (Some p)
      c no_due c.marks)

  none_due : next_due c1 u1 ≡ None
  none_due = undue (plan_of c s) (attempts_made c s) (due_state c1 u1) (ap (λ (z : DueState). z.stopped) due_then)

  none_goes : has_going c1 u1 ≡ false
  none_goes =
      any_live (is_live u1 c1) u1.attempts
      ∙ ap some_row (live_same s n (λ g. g.messages) (λ g. g.finished) (λ g. g.taken) (λ g. g.end_taken) (λ g. g.marks ++ record { what = mark.Withheld; moment = now s } ∷ []) (Some p) c)
      ∙ sym (any_live (is_live s c) s.attempts) ∙ k.none_goes

  last_one : last_counted c1 u1 ≡ Some a.place
  last_one =
      ap last_of (filter_map-append (λ (m : Mark). counted_row u1 m.what) c.marks (record { what = mark.Withheld; moment = now s } ∷ [])
      ∙ append-nil (filter_map (λ (m : Mark). counted_row u1 m.what) c.marks)
      ∙ counted_rows_same s n (λ g. g.messages) (λ g. g.finished) (λ g. g.taken) (λ g. g.end_taken) (λ g. g.marks ++ record { what = mark.Withheld; moment = now s } ∷ []) (λ g. g.end) (Some p)
      c.marks)
      ∙ step.last_is x o s0 k

  its_plan : hedges (plan_of c s) ≡ true
  its_plan =
      hedge_kind (plan_of c s) (attempts_made c s + 1 == 1) (and_parts (is_hedge (kind_of_next c s)) (not (has_tokens c s)) (step.now_is x o s0 k).tested).0

  -- so its end is final
  final_by : (q : CallPlan) → hedges q ≡ true → (r : RowEnd) → is_final_by q c1 a u1 r ≡ true
  final_by plans.None is r = absurd (cc)
  final_by (plans.Retry z) is r = absurd (cc)
  final_by (plans.Hedge z) is r =
      or_right (not (has_code z.codes r.code)) (is_number a.place (last_counted c1 u1) && is_none (next_due c1 u1) && not (has_going c1 u1))
      (ap (λ (q : Option ℕ). is_number a.place q && is_none (next_due c1 u1) && not (has_going c1 u1)) last_one
      ∙ ap (λ (b : Bool). b && is_none (next_due c1 u1) && not (has_going c1 u1)) (eq-eqb a.place a.place refl)
      ∙ ap (λ (q : Option ℕ). is_none q && not (has_going c1 u1)) none_due ∙ ap not none_goes)

  is_final_then : is_final_end u1 a ≡ true
  is_final_then =
      ap (holds (λ (g : Call). is_final_in a u1 g)) (ap (numbered u1.calls) (step.a_call x o s0 k) ∙ step.here1 x o s0 k)
      ∙ ap (λ (b : Bool). (b && is_counted a u1) && holds (is_final_by (plan_of c s) c1 a u1) a.row.ended) free_one
      ∙ ap (λ (b : Bool). b && holds (is_final_by (plan_of c s) c1 a u1) a.row.ended) (counted_same a ∙ step.a_counts x o s0 k)
      ∙ ap (holds (is_final_by (plan_of c s) c1 a u1)) a_over ∙ final_by (plan_of c s) its_plan e

  -- and no other one
  named_by : (q : CallPlan) → hedges q ≡ true → (b : Attempt) → (a.place == b.place) ≡ false → (r : Option RowEnd) → holds (is_final_by q c b s) r ≡ false
      → holds (is_final_by q c1 b u1) r ≡ false
  named_by q is b off None was = refl
  named_by plans.None is b off (Some r) was = absurd (cc)
  named_by (plans.Retry z) is b off (Some r) was = absurd (cc)
  named_by (plans.Hedge z) is b off (Some r) was =
      let code : not (has_code z.codes r.code) ≡ false
      = two_off (not (has_code z.codes r.code)) (is_number b.place (last_counted c s) && is_none (next_due c s) && not (has_going c s)) was in
      ap (λ (g : Bool). g || (is_number b.place (last_counted c1 u1) && is_none (next_due c1 u1) && not (has_going c1 u1))) code
      ∙ ap (λ (q : Option ℕ). is_number b.place q && is_none (next_due c1 u1) && not (has_going c1 u1)) last_one
      ∙ ap (λ (g : Bool). g && is_none (next_due c1 u1) && not (has_going c1 u1)) off

  was_final : (i : ℕ) (q : Attempt) → slice_get s.attempts i ≡ Some q → is_final_end s q ≡ false
  was_final i q at = numbered_not (is_final_end s) s.attempts (suc i) q (k.quiescent line.Final) at

  own_final : (i : ℕ) (q : Attempt) → slice_get s.attempts i ≡ Some q → q.row.call ≡ n → (a.place == q.place) ≡ false → (b : Bool) → is_counted q s ≡ b → is_final_in q u1 c1 ≡ false
  own_final i q at own off false counts =
      ap (λ (b : Bool). (is_free_call u1 c1 && b) && is_final c1 q u1) (counted_same q ∙ counts)
      ∙ ap (λ (b : Bool). b && is_final c1 q u1) (and_right (is_free_call u1 c1) false refl)
  own_final i q at own off true counts =
      let was : is_final_in q s c ≡ false
      = sym (ap (holds (λ (g : Call). is_final_in q s g)) (ap (numbered s.calls) own ∙ k.there)) ∙ was_final i q at in
      and_right (is_free_call u1 c1 && is_counted q u1) (is_final c1 q u1)
      (named_by (plan_of c s) its_plan q off q.row.ended (three_back (is_free_call s c) (is_counted q s) (is_final c q s) was free_was counts))

  final_other : (i : ℕ) (q : Attempt) (b : Bool) → slice_get u1.attempts i ≡ Some q → (suc i == a.place) ≡ false → (q.row.call == n) ≡ b → is_final_end u1 q ≡ false
  final_other i q true at off own =
      let same : q.row.call ≡ n = eqb-true q.row.call n own in
      let place : q.place ≡ suc i = counted_at (λ (z : Attempt). z.place) s.attempts (suc i) q h.kept.attempts at in
      ap (holds (λ (g : Call). is_final_in q u1 g)) (ap (numbered u1.calls) same ∙ step.here1 x o s0 k)
      ∙ own_final i q at same (other_place q.place a.place (suc i) place off) (is_counted q s) refl
  final_other i q false at off own =
      final_none n x s u1 (agree.apart_one x o s0 k) h.calls h.kept kept_one i q at own (k.quiescent line.Final)

  pub next_two : following u1 ≡ Some two
  next_two =
      first_line_gives line.Final two p u1 refl
      (λ l less. before_final (is_loss p.event) l less (λ (q : Line). IsStill q p u1) (still_one line.Cut refl) (still_one line.Transparent refl) (still_one line.Inherited refl)
      (still_one line.Row refl))
      (ap (option_map (committing commit.Final)) (found_one (is_final_end u1) a.place u1.attempts a a_there is_final_then (λ i q at off. final_other i q (q.row.call == n) at off refl)))

  -- once the call is committed
  free_of : (g : Call) → is_of g a ≡ true → commitment g u1 ≡ None
  free_of g mine =
      let same : g.number ≡ n = sym (eqb-true a.row.call g.number mine) ∙ step.a_call x o s0 k in
      ap (λ (m : ℕ). find_last (λ (q : Attempt). (q.row.call == m) && is_some q.row.committed) s.attempts) same ∙ step.free x o s0 k

  fits : IsCommittable a.place u1
  fits = record {
    attempt = a;
    here = a_there;
    free = free_of;
    follows = its_parts.1;
    small = ap (λ (r : Option RowEnd). (is_some a.row.placed && is_none r) && (response a u1).large) a_over
        ∙ ap (λ (b : Bool). b && (response a u1).large) (and_right (is_some a.row.placed) false refl);
    numbers = λ j g at. call_number j u1.calls g kept_one.book.calls at;
  }

  moves : (l : Line) → is_line l line.Final ≡ false → stirs two l ≡ false → IsStill l p u1 → IsStill l p u2
  moves l off none was =
      subst (IsStill l p) (step.commit_is x o s0 k)
      (committed_leaves a.place commit.Final p u1 refl fits l p (ap (λ (q : Seen). q.current) (step.commit_is x o s0 k)) off none was)

  abbrev kept_two : IsKept u2
  kept_two = agree.kept_two x o s0 k next_two

  abbrev apart_two : GoesApart n s u2
  apart_two = agree.apart_two x o s0 k next_two

  -- none of its attempts is outstanding
  was_in : (i : ℕ) (q : Attempt) → slice_get s.attempts i ≡ Some q → (q.row.call == n) ≡ true → is_outstanding q ≡ false
  was_in i q at own =
      out_not (is_of c q) (is_outstanding q) (is_queued q s) own (numbered_not (is_live s c) s.attempts (suc i) q (step.no_live x o s0 k) at)

  places : ArePlacedOn 1 s.attempts
  places = placed_from 1 s.attempts h.kept.book.places

  none_out : (i : ℕ) (q : Attempt) → slice_get u2.attempts i ≡ Some q → (q.row.call == n) ≡ true → is_outstanding q ≡ false
  none_out i q at own =
      let from : IsFrom (at_place (with_commitment (entry s)) a.place) s.attempts i q
      = from_map (at_place (with_commitment (entry s)) a.place) s.attempts i q
      (ap (λ (xs : List Attempt). slice_get xs i) (sym (changed_at (with_commitment (entry s)) a.place s.attempts a places a_there)) ∙ at) in
      ap is_outstanding from.is ∙ out_same from.one (from.one.place == a.place)
      ∙ was_in i from.one from.there (ap (λ (m : ℕ). m == n) (sym (call_same from.one (from.one.place == a.place)) ∙ ap (λ (g : Attempt). g.row.call) (sym from.is)) ∙ own)
    where
      out_same : (q : Attempt) (g : Bool) → is_outstanding (if g then with_commitment (entry s) q else q) ≡ is_outstanding q
      out_same q true = refl
      out_same q false = refl

      call_same : (q : Attempt) (g : Bool) → (if g then with_commitment (entry s) q else q).row.call ≡ q.row.call
      call_same q true = refl
      call_same q false = refl

  cut_by : (i : ℕ) (q : Attempt) (g : Bool) → slice_get u2.attempts i ≡ Some q → (q.row.call == n) ≡ g → is_to_cut u2 q ≡ false
  cut_by i q true at own = ap (λ (g : Bool). g && is_over q u2) (none_out i q at own)
  cut_by i q false at off = cut_none n x s u2 apart_two h.calls h.kept kept_two i q at off (k.quiescent line.Cut)

  uncut_two : IsStill line.Cut p u2
  uncut_two = none_at (is_to_cut u2) u2.attempts (λ i q at. cut_by i q (q.row.call == n) at refl)

  quiescent_two : IsStill line.Transparent p u2
  quiescent_two = moves line.Transparent refl refl (still_one line.Transparent refl)

  -- the end of the call is next
  has_it : commitment c2 u2 ≡ Some a2
  has_it = new_last (is_commitment c) (with_commitment (entry s)) a.place s.attempts a a_there (step.free x o s0 k) (ap (λ (b : Bool). b && true) (step.a_mine x o s0 k))

  counted_two : is_counted a2 u2 ≡ true
  counted_two =
      ap (holds (counts_by a2 u2)) a_over
      ∙ ap (λ (g : Bool). (not (is_cut e.cause) && not (is_followed a2 u2)) && not g)
      (sym (ap (holds (wants_follower_by a2 u2)) a_over) ∙ numbered_not (λ (q : Attempt). wants_follower q u2) u2.attempts a.place a2 quiescent_two (step.a2_there x o s0 k))
      ∙ ap (λ (g : Bool). (not (is_cut e.cause) && not g) && true) (any_changed (is_later_of a) (with_commitment (entry s)) (λ q. refl) a.place s.attempts ∙ its_parts.1)
      ∙ ap (λ (g : Bool). (g && true) && true) its_parts.0

  over_two : is_over_by_row u2 c2 ≡ true
  over_two =
      ap (λ (q : Option CallEnd). is_none q && holds (λ (g : Attempt). is_counted g u2) (commitment c2 u2)) (step.is_open x o s0 k)
      ∙ ap (holds (λ (g : Attempt). is_counted g u2)) has_it ∙ counted_two

  row_else : (i : ℕ) (g : Call) → slice_get u2.calls i ≡ Some g → (suc i == n) ≡ false → is_over_by_row u2 g ≡ false
  row_else i g at off = row_none n x s u2 apart_two h.calls h.kept kept_two (suc i) g off at (k.quiescent line.Row)

  found_by : (j : ℕ) → n ≡ j → numbered u2.calls j ≡ Some c2 → find (is_over_by_row u2) u2.calls ≡ Some c2
  found_by zero same at = absurd (cc)
  found_by (suc i) same at =
      find_one (is_over_by_row u2) u2.calls i c2 at over_two (λ j g there off. row_else j g there (ap (λ (q : ℕ). suc j == q) same ∙ next_apart j i off))

  pub next_three : following u2 ≡ Some three
  next_three =
      first_line_gives line.Row three p u2 refl
      (λ l less. before_row (is_loss p.event) l less (λ (q : Line). IsStill q p u2) uncut_two quiescent_two (moves line.Inherited refl refl (still_one line.Inherited refl)))
      (ap (option_map (ending_call ending_cause.Row)) (found_by n refl (step.here2 x o s0 k)))

  -- and once it has ended
  leaves : (l : Line) → is_line l line.Final ≡ false → stirs one l ≡ false → stirs two l ≡ false → stirs three l ≡ false → IsStill l p t
  leaves l off first second third =
      ended_leaves n ending_cause.Row p u2 refl (λ i g at. number_at u2.calls i g kept_two.book.calls at) l p refl third (moves l off second (still_one l first))

  abbrev apart_then : GoesApart n s t
  apart_then = agree.apart x o s0 k next_two next_three

  abbrev kept_then : IsKept t
  kept_then = agree.kept_then x o s0 k next_two next_three

  cut_then : (i : ℕ) (q : Attempt) (g : Bool) → slice_get t.attempts i ≡ Some q → (q.row.call == n) ≡ g → is_to_cut t q ≡ false
  cut_then i q true at own = ap (λ (g : Bool). g && is_over q t) (none_out i q at own)
  cut_then i q false at off = cut_none n x s t apart_then h.calls h.kept kept_then i q at off (k.quiescent line.Cut)

  uncut : IsStill line.Cut p t
  uncut = none_at (is_to_cut t) t.attempts (λ i q at. cut_then i q (q.row.call == n) at refl)

  row_by : (i : ℕ) (g : Call) (q : Bool) → slice_get t.calls i ≡ Some g → (suc i == n) ≡ q → is_over_by_row t g ≡ false
  row_by i g true at own =
      let here_ : numbered t.calls n ≡ Some g = ap (numbered t.calls) (sym (eqb-true (suc i) n own)) ∙ at in
      let two_calls : Some g ≡ Some c3 = sym here_ ∙ step.here3 x o s0 k in
      let same : g ≡ c3 = (cc) in
      ap (is_over_by_row t) same
  row_by i g false at off = row_none n x s t apart_then h.calls h.kept kept_then (suc i) g off at (k.quiescent line.Row)

  unrowed : IsStill line.Row p t
  unrowed = none_at (is_over_by_row t) t.calls (λ i g at. row_by i g (suc i == n) at refl)

  final_then : (i : ℕ) (q : Attempt) (g : Bool) → slice_get t.attempts i ≡ Some q → (q.row.call == n) ≡ g → is_final_end t q ≡ false
  final_then i q true at own = ap (holds (λ (g : Call). is_final_in q t g)) (ap (numbered t.calls) (eqb-true q.row.call n own) ∙ step.here3 x o s0 k)
  final_then i q false at off = final_none n x s t apart_then h.calls h.kept kept_then i q at off (k.quiescent line.Final)

  unfinal : IsStill line.Final p t
  unfinal = none_at (is_final_end t) t.attempts (λ i q at. final_then i q (q.row.call == n) at refl)

  pub still : (l : Line) → IsStill l p t
  still line.Cut = uncut
  still line.Row = unrowed
  still line.Final = unfinal
  still line.Transparent = leaves line.Transparent refl refl refl refl
  still line.Inherited = leaves line.Inherited refl refl refl refl
  still line.Cancelled = leaves line.Cancelled refl refl refl refl
  still line.Request = leaves line.Request refl refl refl refl
  still line.Overflow = leaves line.Overflow refl refl refl refl
  still line.Head = leaves line.Head refl refl refl refl
  still line.Response = leaves line.Response refl refl refl refl
  still line.Pick = leaves line.Pick refl refl refl refl
  still line.Link = leaves line.Link refl refl refl refl
  still line.WireEnd = leaves line.WireEnd refl refl refl refl
  still line.Reset = leaves line.Reset refl refl refl refl
  still line.Shut = leaves line.Shut refl refl refl refl
  still line.Retire = leaves line.Retire refl refl refl refl
  still line.Begin = leaves line.Begin refl refl refl refl
  still line.Give = leaves line.Give refl refl refl refl
  still line.Drop = leaves line.Drop refl refl refl refl
  still line.Add = leaves line.Add refl refl refl refl
