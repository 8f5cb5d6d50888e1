-- An end that no further attempt follows, where no other attempt of the call goes on: the call is committed to its attempt, and ends by it.
use Rattle.std.proofs.Common.{◌≡◌, ◌&&◌, ◌||◌, ◌==◌, ◌∷◌, not, ap, refl, subst, sym, ◌∙◌, Bool, true, false, List, [], Option, None, Some, ℕ, is_some, map, option_map}
use Rattle.std.specs.List.{list_any}
use Rattle.std.specs.Option.{option_map_or}
use Rattle.attempt_ledger.specs.declared.ledger.CallEnd.{CallEnd}
use Rattle.attempt_ledger.specs.declared.row.RowEnd.{RowEnd}
use Rattle.call_actions.proofs.Ending as ending
use Rattle.call_actions.proofs.LastHedge.{last_hedges_close}
use Rattle.call_actions.proofs.LastOnes.{final_ends_close}
use Rattle.call_actions.proofs.Lists.{filter_none}
use Rattle.call_actions.specs.Laws.{IsCounting, is_last_end}
use Rattle.call_actions.specs.Order.{IsInOrder, IsInTurn, Keeps}
use Rattle.call_actions.specs.Sees.{Sees, is_live, live_row}
use Rattle.call_actions.specs.TakeActions.Serves.{IsLeft, came}
use Rattle.call_core.specs.Laws as channel_laws
use Rattle.call_core.specs.Parts.{committed_attempts, stopped_attempts}
use Rattle.call_core.specs.Steps.{Stepped, closed_if, commit_stamped, ended_at, ended_by_row}
use Rattle.call_core.specs.declared.act.CallAct.TheVariants as act_of
use Rattle.call_core.specs.declared.live.LiveRow.{LiveRow}
use Rattle.end_cases.proofs.AttemptEnds.After.{d, t_is, u}
use Rattle.end_cases.proofs.AttemptEnds.Alone as alone_ends
use Rattle.end_cases.proofs.AttemptEnds.Base.{c, e, news, sees, step_is, x2}
use Rattle.end_cases.proofs.AttemptEnds.Closing as closing
use Rattle.end_cases.proofs.AttemptEnds.Closing.{Between, Continues, Made, Steps}
use Rattle.end_cases.proofs.AttemptEnds.OneEnded as first
use Rattle.end_cases.proofs.AttemptEnds.LastCommits as last
use Rattle.end_cases.specs.AttemptEnds.Ends.{EndNext, HasEnded}
use Rattle.end_cases.specs.AttemptEnds.Laws.{IsLoneLastEnd, LoneLastEndsClose, goes_on_after}
use Rattle.channel_core.specs.States.{StateSeen}
use Rattle.grpc_base.specs.Codes.{has_code}
use Rattle.grpc_base.specs.declared.event.EndCause.TheVariants as ending_cause
use Rattle.grpc_base.specs.declared.event.Reply.{Reply}
use Rattle.grpc_base.specs.declared.plan.CallPlan.{CallPlan}
use Rattle.grpc_base.specs.declared.plan.CallPlan.TheVariants as plan
use Rattle.session_actions.specs.AttemptEnds.{attempt_ended}
use Rattle.session_actions.specs.Attempts.{commitment}
use Rattle.session_actions.specs.CallEnds.{call_ended}
use Rattle.session_actions.specs.Commitments.{call_committed}
use Rattle.session_actions.specs.Configs.{plan_of}
use Rattle.session_actions.specs.Deliveries.{response_items}
use Rattle.session_actions.specs.Entries.{entry, next_word, now}
use Rattle.session_actions.specs.Responses.{response}
use Rattle.session_actions.specs.Words.{numbered}
use Rattle.session_actions.specs.declared.attempt.Attempt.{Attempt}
use Rattle.session_actions.specs.declared.call.Call.{Call}
use Rattle.session_actions.specs.declared.entry.OpenEntry.{OpenEntry}
use Rattle.session_actions.specs.declared.response.Outcome.{Outcome}
use Rattle.session_actions.specs.declared.seen.Seen.{Seen}
use Rattle.session_order.specs.declared.line.Line.{Line}

module _ (later : List (ℕ × RowEnd)) (waits : Line → Bool) (also : List ℕ) (a : Attempt) (out : Outcome) (x : StateSeen) (o : OpenEntry) (s : Seen) (is : EndNext later waits also a out x o s)
    (case : IsLoneLastEnd s (c later waits also a out x o s is) a out) where
  abbrev k : Call
  k = c later waits also a out x o s is

  abbrev n : ℕ
  n = k.number

  abbrev counting : IsCounting s k out
  counting = case.last.counting

  abbrev free : commitment k s ≡ None
  free = case.last.free

  abbrev lent : Stepped
  lent = x2 later waits also a out x o s is

  abbrev seen : Sees s k lent
  seen = sees later waits also a out x o s is

  abbrev order : IsInOrder s k
  order = closing.order later waits also a out x o s is counting

  abbrev turn : IsInTurn s k
  turn = closing.turn later waits also a out x o s is counting

  abbrev v : Seen
  v = u later waits also a out x o s is

  abbrev end_ : RowEnd
  end_ = e later waits also a out x o s is

  abbrev none_else : list_any (λ (q : Attempt). is_live s k q && not (q.place == a.place)) s.attempts ≡ false
  none_else = case.alone

  -- between the two the call is committed
  abbrev b : Between later waits also a out x o s is counting
  b = last.b later waits also a out x o s is counting

  abbrev w : Seen
  w = closing.closed later waits also a out x o s is counting b

  abbrev ek : Call
  ek = closing.ended later waits also a out x o s is counting b

  -- what the laws of calls say
  abbrev step : Stepped
  step = ended_at a.place (news later waits also a out x o s is) (now s) (next_word s) lent

  abbrev whole_end : Seen → Seen
  whole_end q = call_ended n ending_cause.Row (call_committed a.place q)

  none_due : (q : Option ℕ) → is_some q ≡ false → q ≡ None
  none_due None h = refl
  none_due (Some i) h = absurd (cc)

  hedge_by : (b others due : Bool) → (b && (others || due)) ≡ false → others ≡ false → b ≡ true → due ≡ false
  hedge_by true false due h e g = h
  hedge_by true true due h e g = absurd (cc)
  hedge_by false others due h e g = absurd (cc)

  keeps_hedge : (p : _) (says : Bool) → plan_of k s ≡ plan.Hedge p → has_code p.codes out.code ≡ says → goes_on_after (plan.Hedge p) s k a out ≡ false
      → Keeps (whole_end (attempt_ended a.place end_ s)) n step
  keeps_hedge p false h says last =
      final_ends_close s k lent a.place a out seen order turn is.ending counting free (ap (λ (q : CallPlan). is_last_end q k a out s) h ∙ ap not says) none_else
  keeps_hedge p true h says last =
      last_hedges_close s k lent a.place a out p seen order turn is.ending counting free h says
      (none_due _ (hedge_by (has_code p.codes out.code) _ _ last none_else says)) none_else

  keeps_by : (p : CallPlan) → plan_of k s ≡ p → goes_on_after p s k a out ≡ false → Keeps (whole_end (attempt_ended a.place end_ s)) n step
  keeps_by plan.None h last =
      final_ends_close s k lent a.place a out seen order turn is.ending counting free (ap (λ (q : CallPlan). is_last_end q k a out s) h) none_else
  keeps_by (plan.Retry p) h last =
      final_ends_close s k lent a.place a out seen order turn is.ending counting free (ap (λ (q : CallPlan). is_last_end q k a out s) h ∙ ap not last) none_else
  keeps_by (plan.Hedge p) h last = keeps_hedge p (has_code p.codes out.code) h refl last

  keeps : Keeps w n step
  keeps =
      subst (λ (q : Seen). Keeps (call_ended n ending_cause.Row q) n step) (last.f_is later waits also a out x o s is counting)
      (subst (λ (q : Seen). Keeps (whole_end q) n step) (t_is later waits also a out x o s is) (keeps_by (plan_of k s) refl case.last.last))

  same_call : keeps.call ≡ ek
  same_call =
      let two : Some keeps.call ≡ Some ek
      = sym keeps.sees.own ∙ ap (numbered w.calls) keeps.number_is ∙ closing.closed_at later waits also a out x o s is counting b (last.f_here later waits also a out x o s is counting) in
      (cc)

  sees_step : Sees w ek step
  sees_step = subst (λ (g : Call). Sees w g step) same_call keeps.sees

  order_then : IsInOrder w ek
  order_then = subst (λ (g : Call). IsInOrder w g) same_call keeps.order

  -- what the channel's call is
  abbrev before : Stepped
  before = ending.after s k lent a.place a out seen order turn is.ending counting

  abbrev with_live : List LiveRow → Stepped
  with_live live = ended_by_row a.place (now s) (record before { call = record before.call { live = live } })

  none_live : before.call.live ≡ []
  none_live =
      sym (ending.rest_is s k lent a.place a out seen order turn is.ending counting)
      ∙ ap (map live_row)
      (filter_none (λ (q : Attempt). is_live s k q && not (q.place == a.place)) (λ (q : Attempt). is_live s k q && not (q.place == a.place)) (λ q h. h) s.attempts none_else)

  was_open : before.call.ended ≡ None
  was_open = sym seen.ended ∙ ap (option_map (λ (q : CallEnd). q.cause)) counting.goes_on

  form_by : (g : Bool) → step ≡ closed_if g a.place (now s) before → step ≡ with_live before.call.live
  form_by true h = h
  form_by false h =
      let both : Some ending_cause.Row ≡ None = sees_step.ended ∙ ap (λ (q : Stepped). q.call.ended) h ∙ was_open in absurd (cc)

  step_form : step ≡ with_live []
  step_form =
      form_by (ending.judges s k lent a.place a out seen order turn is.ending counting).closes
      (ending.channel_is s k lent a.place a out seen order turn is.ending counting free)
      ∙ ap with_live none_live

  abbrev made : Made later waits also a out x o s is counting
  made = record {
    attempts = stopped_attempts (committed_attempts a.place before.call.attempts);
    rows = (commit_stamped a.place before.ledger).rows;
    tokens = before.tokens;
    acts = act_of.End ending_cause.Row ∷ [];
  }

  sees_then : Sees w ek (closing.stepped later waits also a out x o s is counting made)
  sees_then = subst (Sees w ek) step_form sees_step

  -- it has the call then, and nothing came of its response
  committed_then : commitment ek w ≡ Some b.one
  committed_then = last.has_it later waits also a out x o s is counting free case.last.last

  came_same : came ek w ≡ came k s
  came_same =
      ap (λ (q : Option Attempt). option_map_or (λ (g : Attempt). response_items (response g w)) q []) committed_then
      ∙ ap response_items (closing.response_same later waits also a out x o s is counting b (last.f_here later waits also a out x o s is counting) (Some (entry v)))
      ∙ last.nothing_came later waits also a out x o s is counting free
      ∙ sym (ap (λ (q : Option Attempt). option_map_or (λ (g : Attempt). response_items (response g s)) q []) free)

  steps_so : Steps later waits also a out x o s is counting b made
  steps_so = record {
    step_is = sym (step_is later waits also a out x o s is) ∙ step_form;
    sees = sees_then;
    order = order_then;
    turn = last.turn_closed later waits also a out x o s is counting free case.last.last;
    left = λ h. subst (λ (all : List Reply). IsLeft all k.taken (channel_laws.came (closing.was later waits also a out x o s is counting).call)) (sym came_same) h;
  }

  goes : Continues later waits also a out x o s is counting b
  goes = record {
    does = last.goes_two later waits also a out x o s is counting free case.last.last;
    apart = last.apart_two later waits also a out x o s is counting free case.last.last;
    posts = refl;
    netless = refl;
    here = last.f_here later waits also a out x o s is counting;
    count = last.count_two later waits also a out x o s is counting;
    one_there = last.one_there later waits also a out x o s is counting;
    one_ended = refl;
    tokens = last.tokens_two later waits also a out x o s is counting;
    unreset = last.unreset_two later waits also a out x o s is counting;
    none_out = last.none_out_two later waits also a out x o s is counting (first.none_out later waits also a out x o s is none_else);
    fewer = λ link row h. first.fewer_one later waits also a out x o s is link row (sym (last.same_out later waits also a out x o s is counting link row) ∙ h);
    over = last.over_two later waits also a out x o s is counting free case.last.last;
    still = last.still_two later waits also a out x o s is counting free case.last.last;
    late = last.late_two later waits also a out x o s is counting free case.last.last;
    wire = last.wire_two later waits also a out x o s is counting free case.last.last;
  }

  has_ended : HasEnded later waits also a out x o s
  has_ended =
      alone_ends.has_ended later waits also a out x o s is counting none_else b goes (last.same_out later waits also a out x o s is counting) (last.same_noted later waits also a out x o s is counting)
      (last.ahead_two later waits also a out x o s is counting) made steps_so refl

pub lone_last_ends_close : LoneLastEndsClose
lone_last_ends_close later waits also a out x o s is case = has_ended later waits also a out x o s is case
