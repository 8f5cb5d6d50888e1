-- An attempt ends, and its call goes on: a retry is licensed, or another attempt of the hedged call goes on or is due. Channel and session agree after it.
use Rattle.std.proofs.Common.{◌≡◌, ◌&&◌, ◌==◌, ◌||◌, not, ap, refl, subst, sym, ◌∙◌, Bool, true, false, List, Option, None, Some, ℕ, option_map}
use Rattle.std.proofs.lemmas.Bool.{and_parts}
use Rattle.std.specs.List.{list_any}
use Rattle.attempt_ledger.specs.declared.ledger.CallEnd.{CallEnd}
use Rattle.attempt_ledger.specs.declared.row.RowEnd.{RowEnd}
use Rattle.call_actions.proofs.Ending as ending
use Rattle.call_actions.proofs.Hedged.{hedges_go_on}
use Rattle.call_actions.proofs.LastEnds.Going.{due_hedges_go_on}
use Rattle.call_actions.proofs.Retried.{retries_are_set}
use Rattle.call_actions.specs.Order.{IsInOrder, IsInTurn, Keeps}
use Rattle.call_actions.specs.Sees.{Sees, is_live}
use Rattle.call_core.specs.Steps.{Stepped, closed_if, ended_at}
use Rattle.end_cases.proofs.AttemptEnds.After.{d, d_here, u, t_is}
use Rattle.end_cases.proofs.AttemptEnds.Base.{c, e, has, news, r, sees, step_is, t, x2}
use Rattle.end_cases.specs.AttemptEnds.Ends.{EndNext}
use Rattle.end_cases.specs.AttemptEnds.Laws.{GoesOnAfter, goes_on_after}
use Rattle.channel_core.specs.States.{StateSeen}
use Rattle.grpc_base.specs.Codes.{has_code}
use Rattle.grpc_base.specs.declared.event.EndCause.{EndCause}
use Rattle.grpc_base.specs.declared.event.EndCause.TheVariants as endcause
use Rattle.grpc_base.specs.declared.plan.CallPlan.{CallPlan}
use Rattle.grpc_base.specs.declared.plan.CallPlan.TheVariants as plan
use Rattle.session_actions.specs.Configs.{plan_of}
use Rattle.session_actions.specs.Entries.{next_word, now}
use Rattle.session_actions.specs.Words.{numbered}
use Rattle.session_actions.specs.declared.attempt.Attempt.{Attempt}
use Rattle.session_actions.specs.declared.call.Call.{Call}
use Rattle.session_actions.specs.declared.entry.OpenEntry.{OpenEntry}
use Rattle.session_actions.specs.declared.response.Outcome.{Outcome}
use Rattle.session_actions.specs.declared.seen.Seen.{Seen}
use Rattle.session_order.specs.declared.line.Line.{Line}

some_end : (o : Option CallEnd) (p : Option EndCause) → option_map (λ (k : CallEnd). k.cause) o ≡ p → o ≡ None → p ≡ None
some_end o p e h = sym e ∙ ap (option_map (λ (k : CallEnd). k.cause)) h

either : (p q : Bool) → (p || q) ≡ true → (X : Type 0) → (p ≡ true → X) → (q ≡ true → X) → X
either true q e X one two = one refl
either false q e X one two = two e

module _ (later : List (ℕ × RowEnd)) (waits : Line → Bool) (also : List ℕ) (a : Attempt) (out : Outcome) (x : StateSeen) (o : OpenEntry) (s : Seen) (is : EndNext later waits also a out x o s)
    (case : GoesOnAfter s (c later waits also a out x o s is) a out) where
  abbrev pub call : Call
  call = c later waits also a out x o s is

  abbrev lent : Stepped
  lent = x2 later waits also a out x o s is

  abbrev seen : Sees s call lent
  seen = sees later waits also a out x o s is

  abbrev pub order : IsInOrder s call
  order = (has later waits also a out x o s is).sees.order

  abbrev pub turn : IsInTurn s call
  turn = (has later waits also a out x o s is).sees.turn

  abbrev step : Stepped
  step = ended_at a.place (news later waits also a out x o s is) (now s) (next_word s) lent

  keeps_by : (p : CallPlan) → plan_of call s ≡ p → goes_on_after p s call a out ≡ true → Keeps (t later waits also a out x o s is) call.number step
  keeps_by plan.None e goes = absurd (cc)
  keeps_by (plan.Retry p) e goes = retries_are_set s call lent a.place a out p seen order turn is.ending case.counting case.free e goes
  keeps_by (plan.Hedge p) e goes =
      let others : Bool = list_any (λ (q : Attempt). is_live s call q && not (q.place == a.place)) s.attempts in
      let both = and_parts (has_code p.codes out.code) _ goes in
      either others _ both.1 (Keeps (t later waits also a out x o s is) call.number step)
      (λ more. hedges_go_on s call lent a.place a out p seen order turn is.ending case.counting case.free e both.0 more)
      (λ due. due_hedges_go_on s call lent a.place a out p seen order turn is.ending case.counting case.free e both.0 due)

  keeps : Keeps (t later waits also a out x o s is) call.number step
  keeps = keeps_by (plan_of call s) refl case.goes

  -- in the words of the lists
  abbrev pub then_ : Seen
  then_ = u later waits also a out x o s is

  abbrev pub called : Call
  called = d later waits also a out x o s is

  keeps_then : Keeps then_ call.number step
  keeps_then = subst (λ (v : Seen). Keeps v call.number step) (t_is later waits also a out x o s is) keeps

  same_call : keeps_then.call ≡ called
  same_call =
      let two : Some keeps_then.call ≡ Some called
      = sym keeps_then.sees.own ∙ ap (numbered then_.calls) keeps_then.number_is ∙ d_here later waits also a out x o s is in
      (cc)

  sees_step : Sees then_ called step
  sees_step = subst (λ (k : Call). Sees then_ k step) same_call keeps_then.sees

  pub order_then : IsInOrder then_ called
  order_then = subst (λ (k : Call). IsInOrder then_ k) same_call keeps_then.order

  -- what the call is then
  abbrev pub after : Stepped
  after = ending.after s call lent a.place a out seen order turn is.ending case.counting

  running : step.call.ended ≡ None
  running = some_end called.end step.call.ended sees_step.ended case.counting.goes_on

  form_by : (b : Bool) → step ≡ closed_if b a.place (now s) after → step ≡ after
  form_by false e = e
  form_by true e =
      let ended : step.call.ended ≡ Some endcause.Row = ap (λ (z : Stepped). z.call.ended) e in
      let both : None ≡ Some endcause.Row = sym running ∙ ended in absurd (cc)

  step_form : step ≡ after
  step_form =
      form_by (ending.judges s call lent a.place a out seen order turn is.ending case.counting).closes
      (ending.channel_is s call lent a.place a out seen order turn is.ending case.counting case.free)

  pub r_is : r later waits also a out x o s is ≡ after
  r_is = sym (step_is later waits also a out x o s is) ∙ step_form

  pub sees_then : Sees then_ called after
  sees_then = subst (Sees then_ called) step_form sees_step
