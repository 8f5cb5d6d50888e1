-- A config that is read bears on no line of calls and links: calls have the configs that they had, or none.
use Rattle.std.proofs.Common.{◌≡◌, ◌||◌, ◌&&◌, ◌==◌, ◌-◌, ◌∷◌, not, ap, refl, ◌∙◌, Bool, true, false, List, [], Option, None, Some, ℕ, fold, if◌then◌else◌, is_none, is_some, length, nat_lt}
use Rattle.std.specs.List.{list_any}
use Rattle.std.specs.Option.{option_map, option_map_or, option_or}
use Rattle.attempt_ledger.specs.Ends.{is_above}
use Rattle.attempt_ledger.specs.Throttling.{codes_of}
use Rattle.attempt_ledger.specs.declared.row.RowEnd.{RowEnd}
use Rattle.call_actions.specs.CallsApart.Apart.{IsBook}
use Rattle.event_cases.proofs.ConfigReads.After.{chosen_same, longer, plan_same, run_same}
use Rattle.grpc_base.specs.Codes.{has_code}
use Rattle.grpc_base.specs.Limits.{message_limit}
use Rattle.grpc_base.specs.declared.code.Code.{Code}
use Rattle.grpc_base.specs.declared.plan.CallPlan.TheVariants as plan
use Rattle.grpc_base.specs.declared.plan.CallPlan.{CallPlan}
use Rattle.grpc_base.specs.declared.plan.Chosen.{Chosen}
use Rattle.grpc_base.specs.declared.plan.Pushback.{Pushback}
use Rattle.session_actions.specs.AttemptEnds.{code_at_end, code_for_stream, code_to_reset, lost_end, outcome_of, outcome_on, reset_code_of}
use Rattle.session_actions.specs.Attempts.{commitment, counts_by, is_counted, is_outstanding, is_over}
use Rattle.session_actions.specs.CallEnds.{has_long_request, has_long_response}
use Rattle.session_actions.specs.Calls.{is_open_call}
use Rattle.session_actions.specs.Commitments.{has_head_in, is_final_end, is_final_in, is_free_call, is_headed}
use Rattle.session_actions.specs.Configs.{chosen_of, is_too_long, plan_of}
use Rattle.session_actions.specs.DueAttempts.{attempts_made, due_after_end, due_after_mark, due_by, due_by_plan, due_state, has_going, hedge_forced, is_final, is_final_by, is_licensed, is_licensed_by, last_counted, last_delayed, next_due, no_due, retry_due}
use Rattle.session_actions.specs.Entries.{entry}
use Rattle.session_actions.specs.Links.{link_of}
use Rattle.session_actions.specs.Responses.{limit_of_attempt, no_response, response, response_by, response_in, response_on, traffic_of}
use Rattle.session_actions.specs.Tokens.{allows_attempt, run_of}
use Rattle.session_actions.specs.Words.{holds, is_number, numbered}
use Rattle.session_actions.specs.declared.attempt.Attempt.{Attempt}
use Rattle.session_actions.specs.declared.call.Call.{Call}
use Rattle.session_actions.specs.declared.call.Mark.{Mark}
use Rattle.session_actions.specs.declared.call.MarkKind.TheVariants as mark
use Rattle.session_actions.specs.declared.call.MarkKind.{MarkKind}
use Rattle.session_actions.specs.declared.config.HeldConfig.{HeldConfig}
use Rattle.session_actions.specs.declared.config.ThrottleRun.{ThrottleRun}
use Rattle.session_actions.specs.declared.due.DueState.{DueState}
use Rattle.session_actions.specs.declared.entry.OpenEntry.{OpenEntry}
use Rattle.session_actions.specs.declared.link.Link.{Link}
use Rattle.session_actions.specs.declared.response.Outcome.{Outcome}
use Rattle.session_actions.specs.declared.response.Response.{Response}
use Rattle.session_actions.specs.declared.seen.Seen.{Seen}
use Rattle.session_order.proofs.Aside.{long_as}
use Rattle.session_order.proofs.Begun.{last_in}
use Rattle.session_order.proofs.Finals.{holds_in}
use Rattle.session_order.proofs.Limits.{code_with, then_same}
use Rattle.session_order.proofs.Lists.{any_in, holds_same}
use Rattle.session_order.specs.Quiescent.{IsStill, is_to_end, is_to_reset}
use Rattle.session_order.specs.Lines.{is_of_policies}
use Rattle.session_order.specs.declared.line.Line.TheVariants as line
use Rattle.session_order.specs.declared.line.Line.{Line}

or_map : {X Y : Type 0} (g h : X → Y) (d : Y) → ((x : X) → g x ≡ h x) → (o : Option X) → option_map_or g o d ≡ option_map_or h o d
or_map g h d same None = refl
or_map g h d same (Some x) = same x

or_in : {Y : Type 0} (g h : Call → Y) (d : Y) (o : Option Call) → ((c : Call) → o ≡ Some c → g c ≡ h c) → option_map_or g o d ≡ option_map_or h o d
or_in g h d None same = refl
or_in g h d (Some c) same = same c refl

call_in : (p q : Call → Bool) (o : Option Call) → ((c : Call) → o ≡ Some c → p c ≡ q c) → holds p o ≡ holds q o
call_in p q None same = refl
call_in p q (Some c) same = same c refl

module _ (s : Seen) (h : HeldConfig) (more : List ThrottleRun) (book : IsBook s) where
  abbrev t : Seen
  t = longer h more s

  -- of a call that is there: what its plan and its tokens allow
  module _ (k : ℕ) (c : Call) (there : numbered s.calls k ≡ Some c) where
    plan_is : plan_of c t ≡ plan_of c s
    plan_is = plan_same s h more book k c there

    allows_is : (tokens : Option ℕ) → allows_attempt c tokens t ≡ allows_attempt c tokens s
    allows_is tokens = ap (λ (o : Option ThrottleRun). is_above (option_map (λ (r : ThrottleRun). r.throttle) o) tokens) (run_same s h more book k c there)

    licensed_is : (n : ℕ) (code : Code) (asks : Pushback) (tokens : Option ℕ) → is_licensed c n code asks tokens t ≡ is_licensed c n code asks tokens s
    licensed_is n code asks tokens =
        ap (λ (p : CallPlan). is_licensed_by p n code asks (allows_attempt c tokens t)) plan_is
        ∙ ap (λ (b : Bool). is_licensed_by (plan_of c s) n code asks b) (allows_is tokens)

    due_by_is : (p : CallPlan) (a : Attempt) (d : DueState) (e : RowEnd) → due_by_plan p c a t d e ≡ due_by_plan p c a s d e
    due_by_is plan.None a d e = refl
    due_by_is (plan.Retry p) a d e =
        ap (λ (b : Bool). record d { forced = (if b then Some (retry_due p (a.row.number - last_delayed c a.row.number s) e) else None) })
        (licensed_is a.row.number e.code e.pushback e.tokens)
    due_by_is (plan.Hedge p) a d e = ap (λ (b : Bool). hedge_forced e.pushback b e d) (allows_is e.tokens)

    after_end_is : (d : DueState) (a : Attempt) (e : RowEnd) → due_after_end c t d a e ≡ due_after_end c s d a e
    after_end_is d a e =
        ap (λ (p : CallPlan). if (not d.stopped && counts_by a s e) && has_code (codes_of p) e.code then due_by_plan p c a t d e else d) plan_is
        ∙ ap (λ (y : DueState). if (not d.stopped && counts_by a s e) && has_code (codes_of (plan_of c s)) e.code then y else d) (due_by_is (plan_of c s) a d e)

    mark_is : (m : MarkKind) (moment : ℕ) (d : DueState) → due_after_mark c t m moment d ≡ due_after_mark c s m moment d
    mark_is mark.Configured moment d = refl
    mark_is (mark.Made row) moment d = refl
    mark_is (mark.Placed row) moment d = refl
    mark_is (mark.Ended row) moment d =
        or_map (λ (a : Attempt). option_map_or (due_after_end c t d a) a.row.ended d) (λ (a : Attempt). option_map_or (due_after_end c s d a) a.row.ended d) d
        (λ a. or_map (due_after_end c t d a) (due_after_end c s d a) d (after_end_is d a) a.row.ended) (numbered s.attempts row)
    mark_is mark.Withheld moment d = refl
    mark_is mark.Committed moment d = refl
    mark_is mark.Closed moment d = refl

    marks_are : (d : DueState) (marks : List Mark)
        → fold (λ (x : DueState) (m : Mark). due_after_mark c t m.what m.moment x) d marks ≡ fold (λ (x : DueState) (m : Mark). due_after_mark c s m.what m.moment x) d marks
    marks_are d [] = refl
    marks_are d (m ∷ marks) =
        ap (λ (z : DueState). fold (λ (x : DueState) (n : Mark). due_after_mark c t n.what n.moment x) z marks) (mark_is m.what m.moment d)
        ∙ marks_are (due_after_mark c s m.what m.moment d) marks

    next_is : next_due c t ≡ next_due c s
    next_is =
        ap (λ (p : CallPlan). due_by p (attempts_made c s) (due_state c t)) plan_is
        ∙ ap (λ (d : DueState). due_by (plan_of c s) (attempts_made c s) d) (marks_are no_due c.marks)

    final_by_is : (p : CallPlan) (a : Attempt) (e : RowEnd) → is_final_by p c a t e ≡ is_final_by p c a s e
    final_by_is plan.None a e = refl
    final_by_is (plan.Retry p) a e = ap (λ (b : Bool). not b) (licensed_is a.row.number e.code e.pushback e.tokens)
    final_by_is (plan.Hedge p) a e =
        ap (λ (o : Option ℕ). not (has_code p.codes e.code) || (is_number a.place (last_counted c s) && is_none o && not (has_going c s))) next_is

    final_is : (a : Attempt) → is_final_in a t c ≡ is_final_in a s c
    final_is a =
        ap (λ (p : CallPlan). is_free_call s c && is_counted a s && holds (is_final_by p c a t) a.row.ended) plan_is
        ∙ ap (λ (b : Bool). is_free_call s c && is_counted a s && b)
        (holds_same (is_final_by (plan_of c s) c a t) (is_final_by (plan_of c s) c a s) (final_by_is (plan_of c s) a) a.row.ended)

    long_is : (o : OpenEntry) → has_long_request o t c ≡ has_long_request o s c
    long_is o =
        long_as o c c t s refl refl refl
        (λ m. ap (λ (x : Chosen). is_some c.config && nat_lt x.request (length m)) (chosen_same s h more book k c there))

  -- responses
  limit_is : (a : Attempt) → limit_of_attempt a t ≡ limit_of_attempt a s
  limit_is a =
      or_in (λ (c : Call). (chosen_of c t).response) (λ (c : Call). (chosen_of c s).response) message_limit (numbered s.calls a.row.call)
      (λ c there. ap (λ (x : Chosen). x.response) (chosen_same s h more book a.row.call c there))

  response_by_is : (a : Attempt) (o : Option ℕ) → response_by a t o ≡ response_by a s o
  response_by_is a None = refl
  response_by_is a (Some stream) =
      or_map (response_on a stream t) (response_on a stream s) no_response (λ l. ap (λ (k : ℕ). response_in k stream (traffic_of a l.traffic)) (limit_is a)) (link_of a s)

  response_is : (a : Attempt) → response a t ≡ response a s
  response_is a = response_by_is a a.row.stream

  outcome_on_is : (a : Attempt) (o : Option ℕ) (l : Link) → outcome_on a t o l ≡ outcome_on a s o l
  outcome_on_is a None l = refl
  outcome_on_is a (Some stream) l = ap (λ (r : Response). option_or r.end (if is_some l.over then Some lost_end else None)) (response_is a)

  outcome_is : (a : Attempt) → outcome_of a t ≡ outcome_of a s
  outcome_is a = then_same (outcome_on a t a.row.stream) (outcome_on a s a.row.stream) (outcome_on_is a a.row.stream) (link_of a s)

  code_is : (a : Attempt) (e : RowEnd) (stream : ℕ) (l : Link) → code_to_reset a e stream t l ≡ code_to_reset a e stream s l
  unfolding code_with
  code_is a e stream l = ap (code_with a e stream l) (response_is a)

  reset_is : (a : Attempt) → reset_code_of t a ≡ reset_code_of s a
  reset_is a =
      then_same (code_at_end a t) (code_at_end a s)
      (λ e. then_same (code_for_stream a e t) (code_for_stream a e s)
      (λ stream. ap (λ (x : Option ℕ). if (e.entry == entry s) && not a.reset then x else None)
      (then_same (code_to_reset a e stream t) (code_to_reset a e stream s) (code_is a e stream) (link_of a s))) a.row.stream) a.row.ended

  final_one : (k : ℕ) (a : Attempt) → numbered s.attempts k ≡ Some a → is_final_end t a ≡ is_final_end s a
  final_one k a here = call_in (is_final_in a t) (is_final_in a s) (numbered s.calls a.row.call) (λ c there. final_is a.row.call c there a)

  head_one : (k : ℕ) (a : Attempt) → numbered s.attempts k ≡ Some a → is_headed t a ≡ is_headed s a
  head_one k a here =
      ap (λ (b : Bool). is_outstanding a && b)
      (holds_same (has_head_in a t) (has_head_in a s) (λ c. ap (λ (r : Response). is_free_call s c && is_some r.head) (response_is a)) (numbered s.calls a.row.call))

  end_one : (k : ℕ) (a : Attempt) → numbered s.attempts k ≡ Some a → is_to_end t a ≡ is_to_end s a
  end_one k a here = ap (λ (o : Option Outcome). (is_outstanding a && not (is_over a s)) && is_some o) (outcome_is a)

  reset_one : (k : ℕ) (a : Attempt) → numbered s.attempts k ≡ Some a → is_to_reset t a ≡ is_to_reset s a
  reset_one k a here = ap (λ (x : Option ℕ). is_some x) (reset_is a)

  large_one : (k : ℕ) (c : Call) → numbered s.calls k ≡ Some c → has_long_response t c ≡ has_long_response s c
  large_one k c here =
      ap (λ (x : Bool). is_open_call c && x)
      (holds_same (λ (a : Attempt). is_outstanding a && (response a t).large) (λ (a : Attempt). is_outstanding a && (response a s).large)
      (λ a. ap (λ (r : Response). is_outstanding a && r.large) (response_is a)) (commitment c s))

  pub longer_still : (l : Line) (o : OpenEntry) → is_of_policies l ≡ false → IsStill l o s → IsStill l o t
  longer_still line.Cut o off e = e
  longer_still line.Transparent o off e = e
  longer_still line.Inherited o off e = e
  longer_still line.Row o off e = e
  longer_still line.Final o off e = any_in (is_final_end t) (is_final_end s) s.attempts final_one ∙ e
  longer_still line.Cancelled o off e = e
  longer_still line.Request o off e = any_in (has_long_request o t) (has_long_request o s) s.calls (λ k c there. long_is k c there o) ∙ e
  longer_still line.Overflow o off e = e
  longer_still line.Head o off e = any_in (is_headed t) (is_headed s) s.attempts head_one ∙ e
  longer_still line.Response o off e = any_in (has_long_response t) (has_long_response s) s.calls large_one ∙ e
  longer_still line.Pick o off e = e
  longer_still line.Link o off e = e
  longer_still line.WireEnd o off e = any_in (is_to_end t) (is_to_end s) s.attempts end_one ∙ e
  longer_still line.Reset o off e = any_in (is_to_reset t) (is_to_reset s) s.attempts reset_one ∙ e
  longer_still line.Shut o off e = e
  longer_still line.Retire o off e = absurd (cc)
  longer_still line.Begin o off e = absurd (cc)
  longer_still line.Give o off e = absurd (cc)
  longer_still line.Drop o off e = absurd (cc)
  longer_still line.Add o off e = absurd (cc)
