-- An attempt ends, and its call goes on: no end of an attempt of the call is final then.
use Rattle.std.proofs.Common.{◌≡◌, ◌==◌, ◌&&◌, ◌||◌, not, ap, refl, sym, ◌∙◌, Bool, true, false, List, Option, None, Some, ℕ, is_none, is_some, slice_get}
use Rattle.std.proofs.lemmas.Bool.{and_parts, and_right, eqb-true}
use Rattle.std.specs.List.{list_any}
use Rattle.std.specs.Prelude.{option_and_then}
use Rattle.attempt_ledger.specs.declared.row.RowEnd.{RowEnd}
use Rattle.call_actions.specs.Sees.{is_live}
use Rattle.end_cases.proofs.AttemptEnds.After.{d_here, t_is}
use Rattle.end_cases.proofs.AttemptEnds.Agreeing.{entry_then}
use Rattle.end_cases.proofs.AttemptEnds.Base.{c, e, t}
use Rattle.end_cases.proofs.AttemptEnds.OneEnded.{the_one}
use Rattle.end_cases.proofs.AttemptEnds.FinalEnds as final
use Rattle.end_cases.proofs.AttemptEnds.GoesOn.{call, called, then_}
use Rattle.end_cases.proofs.AttemptEnds.Lines.{was_still}
use Rattle.end_cases.proofs.AttemptEnds.Others.{none_at}
use Rattle.end_cases.specs.AttemptEnds.Ends.{EndNext}
use Rattle.end_cases.specs.AttemptEnds.Laws.{GoesOnAfter, goes_on_after}
use Rattle.channel_core.specs.States.{StateSeen}
use Rattle.grpc_base.specs.Codes.{has_code}
use Rattle.grpc_base.specs.declared.plan.CallPlan.{CallPlan}
use Rattle.grpc_base.specs.declared.plan.CallPlan.TheVariants as plan
use Rattle.session_actions.specs.AttemptEnds.{with_end}
use Rattle.session_actions.specs.Attempts.{is_counted}
use Rattle.session_actions.specs.Commitments.{is_final_end, is_final_in, is_free_call}
use Rattle.session_actions.specs.Configs.{plan_of}
use Rattle.session_actions.specs.DueAttempts.{has_going, is_final_by, is_licensed, last_counted, next_due}
use Rattle.session_actions.specs.Words.{holds, is_number, numbered}
use Rattle.session_actions.specs.declared.attempt.Attempt.{Attempt}
use Rattle.session_actions.specs.declared.call.Call.{Call}
use Rattle.session_actions.specs.declared.entry.OpenEntry.{OpenEntry}
use Rattle.session_actions.specs.declared.response.Outcome.{Outcome}
use Rattle.session_actions.specs.declared.seen.Seen.{Seen}
use Rattle.session_order.specs.Quiescent.{IsStill}
use Rattle.session_order.specs.declared.line.Line.{Line}
use Rattle.session_order.specs.declared.line.Line.TheVariants as line

some_off : {X : Type 0} (q : Option X) → is_some q ≡ true → is_none q ≡ false
some_off None e = absurd (cc)
some_off (Some x) e = refl

either : (p q : Bool) → (p || q) ≡ true → (X : Type 0) → (p ≡ true → X) → (q ≡ true → X) → X
either true q e X one two = one refl
either false q e X one two = two e

module _ (later : List (ℕ × RowEnd)) (waits : Line → Bool) (also : List ℕ) (a : Attempt) (out : Outcome) (x : StateSeen) (o : OpenEntry) (s : Seen) (is : EndNext later waits also a out x o s)
    (case : GoesOnAfter s (c later waits also a out x o s is) a out) where
  abbrev v : Seen
  v = then_ later waits also a out x o s is case

  abbrev k : Call
  k = call later waits also a out x o s is case

  abbrev dk : Call
  dk = called later waits also a out x o s is case

  abbrev end_ : RowEnd
  end_ = e later waits also a out x o s is

  -- the end itself
  due_then : is_some (option_and_then (λ (g : Call). next_due g (t later waits also a out x o s is)) (numbered (t later waits also a out x o s is).calls k.number)) ≡ true
      → is_none (next_due dk v) ≡ false
  due_then e =
      some_off (next_due dk v)
      (sym (ap (λ (w : Seen). is_some (option_and_then (λ (g : Call). next_due g w) (numbered w.calls k.number))) (t_is later waits also a out x o s is)
      ∙ ap (λ (q : Option Call). is_some (option_and_then (λ (g : Call). next_due g v) q)) (d_here later waits also a out x o s is)) ∙ e)

  not_last : (p : CallPlan) → plan_of k s ≡ p → goes_on_after p s k a out ≡ true → (q : Attempt) → q.row.number ≡ a.row.number → q.place ≡ a.place → is_final_by p dk q v end_ ≡ false
  not_last plan.None e goes q number place = absurd (cc)
  not_last (plan.Retry p) e goes q number place =
      ap not (final.licensed_same later waits also a out x o s is case.counting case.free q.row.number end_ ∙ ap (λ (m : ℕ). is_licensed k m end_.code end_.pushback end_.tokens s) number ∙ goes)
  not_last (plan.Hedge p) e goes q number place =
      let others : Bool = list_any (λ (b : Attempt). is_live s k b && not (b.place == a.place)) s.attempts in
      let both = and_parts (has_code p.codes out.code) _ goes in
      ap (λ (b : Bool). not b || (is_number q.place (last_counted dk v) && is_none (next_due dk v) && not (has_going dk v))) both.0
      ∙ either others _ both.1 ((is_number q.place (last_counted dk v) && is_none (next_due dk v) && not (has_going dk v)) ≡ false)
      (λ more. ap (λ (b : Bool). is_number q.place (last_counted dk v) && is_none (next_due dk v) && not b) (final.going_then later waits also a out x o s is case.counting case.free ∙ more)
      ∙ and_right (is_number q.place (last_counted dk v) && is_none (next_due dk v)) false refl)
      (λ due. ap (λ (b : Bool). (is_number q.place (last_counted dk v) && b) && not (has_going dk v)) (due_then due)
      ∙ ap (λ (b : Bool). b && not (has_going dk v)) (and_right (is_number q.place (last_counted dk v)) false refl))

  own_final : is_final_end v (with_end end_ a) ≡ false
  own_final =
      ap (holds (λ (g : Call). is_final_in (with_end end_ a) v g)) (ap (numbered v.calls) (eqb-true a.row.call k.number is.ending.own) ∙ d_here later waits also a out x o s is)
      ∙ ap (λ (g : Bool). (is_free_call v dk && is_counted (with_end end_ a) v) && g) (not_last (plan_of k s) refl case.goes (with_end end_ a) refl refl)
      ∙ and_right (is_free_call v dk && is_counted (with_end end_ a) v) false refl

  final_by : (i : ℕ) (q : Attempt) (b : Bool) → slice_get v.attempts i ≡ Some q → (q.place == a.place) ≡ b → is_final_end v q ≡ false
  final_by i q true at here_ = ap (is_final_end v) (the_one later waits also a out x o s is i q at here_) ∙ own_final
  final_by i q false at off =
      final.other_final later waits also a out x o s is case.counting case.free i q (q.row.call == k.number) at refl off (was_still later waits also a out x o s is case line.Final refl refl)

  pub unfinal : IsStill line.Final (entry_then later waits also a out x o s is case) v
  unfinal = none_at (is_final_end v) v.attempts (λ i q at. final_by i q (q.place == a.place) at refl)
