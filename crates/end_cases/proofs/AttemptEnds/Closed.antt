-- The attempt to which its call is committed ends, and its call by it: nothing comes between the two.
use Rattle.std.proofs.Common.{◌≡◌, ◌&&◌, ◌==◌, ◌∷◌, not, ap, refl, subst, sym, ◌∙◌, Bool, true, false, List, [], Option, Some, ℕ, if◌then◌else◌, is_none, is_some, map, option_map, slice_get}
use Rattle.std.specs.List.{list_any}
use Rattle.std.specs.Option.{option_map_or}
use Rattle.attempt_ledger.specs.declared.ledger.CallEnd.{CallEnd}
use Rattle.attempt_ledger.specs.declared.row.RowEnd.{RowEnd}
use Rattle.call_actions.proofs.Ends.Committed as committed_end
use Rattle.call_actions.proofs.Ending as ending
use Rattle.call_actions.proofs.Lists.{filter_none}
use Rattle.call_actions.specs.Order.{IsInOrder, IsInTurn, Keeps}
use Rattle.call_actions.specs.Sees.{Sees, is_live, live_row}
use Rattle.call_actions.specs.TakeActions.Serves.{IsLeft, came}
use Rattle.call_core.specs.Laws as channel_laws
use Rattle.call_core.specs.Parts.{stopped_attempts}
use Rattle.call_core.specs.Steps as steps
use Rattle.call_core.specs.Steps.{Stepped, ended_as, ended_at, row_ended}
use Rattle.call_core.specs.declared.act.CallAct.TheVariants as act_of
use Rattle.call_core.specs.declared.live.LiveRow.{LiveRow}
use Rattle.end_cases.proofs.AttemptEnds.After.{commitment_is, d, d_here, put, t_is, u}
use Rattle.end_cases.proofs.AttemptEnds.Alone as alone_ends
use Rattle.end_cases.proofs.AttemptEnds.Base.{c, e, news, sees, step_is, x2}
use Rattle.end_cases.proofs.AttemptEnds.Closing as closing
use Rattle.end_cases.proofs.AttemptEnds.Closing.{Between, Continues, Made, Steps, is_of_closing}
use Rattle.end_cases.proofs.AttemptEnds.Committed.{alone, counted_then, one_is}
use Rattle.end_cases.proofs.AttemptEnds.EndLines as ends
use Rattle.end_cases.proofs.AttemptEnds.OneEnded as first
use Rattle.end_cases.specs.AttemptEnds.Ends.{EndNext, HasEnded, may_wait}
use Rattle.end_cases.specs.AttemptEnds.Laws.{CommittedEndsClose, IsCommittedEnd}
use Rattle.channel_core.specs.States.{StateSeen}
use Rattle.grpc_base.specs.declared.event.EndCause.TheVariants as ending_cause
use Rattle.grpc_base.specs.declared.event.Reply.{Reply}
use Rattle.session_actions.specs.AttemptEnds.{with_end}
use Rattle.session_actions.specs.Attempts.{commitment, is_counted, is_outstanding}
use Rattle.session_actions.specs.CallEnds.{call_ended, is_over_by_row}
use Rattle.session_actions.specs.Deliveries.{response_items}
use Rattle.session_actions.specs.Entries.{next_word, now}
use Rattle.session_actions.specs.Responses.{response}
use Rattle.session_actions.specs.Words.{holds, numbered}
use Rattle.session_actions.specs.declared.attempt.Attempt.{Attempt}
use Rattle.session_actions.specs.declared.call.Call.{Call}
use Rattle.session_actions.specs.declared.entry.OpenEntry.{OpenEntry}
use Rattle.session_actions.specs.declared.response.Outcome.{Outcome}
use Rattle.session_actions.specs.declared.seen.Seen.{Seen}
use Rattle.session_order.specs.Quiescent.{IsStill}
use Rattle.session_order.specs.declared.line.Line.{Line}
use Rattle.session_order.specs.declared.line.Line.TheVariants as line

module _ (later : List (ℕ × RowEnd)) (waits : Line → Bool) (also : List ℕ) (a : Attempt) (out : Outcome) (x : StateSeen) (o : OpenEntry) (s : Seen) (is : EndNext later waits also a out x o s)
    (case : IsCommittedEnd s (c later waits also a out x o s is) a out) where
  abbrev k : Call
  k = c later waits also a out x o s is

  abbrev n : ℕ
  n = k.number

  abbrev lent : Stepped
  lent = x2 later waits also a out x o s is

  abbrev seen : Sees s k lent
  seen = sees later waits also a out x o s is

  abbrev order : IsInOrder s k
  order = closing.order later waits also a out x o s is case.counting

  abbrev turn : IsInTurn s k
  turn = closing.turn later waits also a out x o s is case.counting

  abbrev v : Seen
  v = u later waits also a out x o s is

  abbrev end_ : RowEnd
  end_ = e later waits also a out x o s is

  abbrev dk : Call
  dk = d later waits also a out x o s is

  -- nothing comes between
  abbrev b : Between later waits also a out x o s is case.counting
  b = record { actions = []; calls = v.calls; attempts = v.attempts; marks = dk.marks; one = with_end end_ a }

  abbrev w : Seen
  w = closing.closed later waits also a out x o s is case.counting b

  abbrev ek : Call
  ek = closing.ended later waits also a out x o s is case.counting b

  -- what the laws of calls say
  abbrev step : Stepped
  step = ended_at a.place (news later waits also a out x o s is) (now s) (next_word s) lent

  its : commitment k s ≡ Some a
  its = one_is later waits also a out x o s is case.counting.goes_on case.committed

  none_else : list_any (λ (q : Attempt). is_live s k q && not (q.place == a.place)) s.attempts ≡ false
  none_else = alone later waits also a out x o s is case.counting.goes_on case.committed

  keeps : Keeps w n step
  keeps =
      subst (λ (q : Seen). Keeps (call_ended n ending_cause.Row q) n step) (t_is later waits also a out x o s is)
      (committed_end.committed_ends_close s k lent a.place a a out seen order turn is.ending case.counting its none_else)

  e_here : numbered w.calls n ≡ Some ek
  e_here = closing.closed_at later waits also a out x o s is case.counting b (d_here later waits also a out x o s is)

  same_call : keeps.call ≡ ek
  same_call =
      let two : Some keeps.call ≡ Some ek = sym keeps.sees.own ∙ ap (numbered w.calls) keeps.number_is ∙ e_here in
      (cc)

  sees_step : Sees w ek step
  sees_step = subst (λ (g : Call). Sees w g step) same_call keeps.sees

  order_then : IsInOrder w ek
  order_then = subst (λ (g : Call). IsInOrder w g) same_call keeps.order

  -- what the channel's call is
  abbrev before : Stepped
  before = row_ended a.place (ending.its_end s k lent a.place a out seen order turn is.ending case.counting) (ending.reported s k lent a.place a out seen order turn is.ending case.counting)

  abbrev with_live : List LiveRow → Stepped
  with_live live = ended_as ending_cause.Row (now s) (record before { call = record before.call { live = live } })

  none_live : before.call.live ≡ []
  none_live =
      sym (ending.rest_is s k lent a.place a out seen order turn is.ending case.counting)
      ∙ ap (map live_row)
      (filter_none (λ (q : Attempt). is_live s k q && not (q.place == a.place)) (λ (q : Attempt). is_live s k q && not (q.place == a.place)) (λ q h. h) s.attempts none_else)

  step_form : step ≡ with_live []
  step_form =
      ending.counted_is s k lent a.place a out seen order turn is.ending case.counting
      ∙ ap (λ (q : Option ℕ). if is_some q then ended_as ending_cause.Row (now s) before
      else steps.counted_free (live_row a) (ending.its_end s k lent a.place a out seen order turn is.ending case.counting) (now s) (next_word s)
      (ending.reported s k lent a.place a out seen order turn is.ending case.counting))
      (sym seen.attempts.committed ∙ ap (option_map (λ (q : Attempt). q.place)) its)
      ∙ ap with_live none_live

  abbrev made : Made later waits also a out x o s is case.counting
  made = record {
    attempts = stopped_attempts before.call.attempts;
    rows = before.ledger.rows;
    tokens = before.tokens;
    acts = act_of.End ending_cause.Row ∷ [];
  }

  -- what came of its response
  committed_then : commitment ek w ≡ Some (with_end end_ a)
  committed_then =
      commitment_is later waits also a out x o s is k ∙ ap (option_map (put later waits also a out x o s is)) its ∙ ap (λ (q : Attempt). Some q) (closing.put_is later waits also a out x o s is case.counting)

  came_same : came ek w ≡ came k s
  came_same =
      ap (λ (q : Option Attempt). option_map_or (λ (g : Attempt). response_items (response g w)) q []) committed_then
      ∙ ap response_items (closing.response_same later waits also a out x o s is case.counting b (d_here later waits also a out x o s is) a.row.committed)
      ∙ sym (ap (λ (q : Option Attempt). option_map_or (λ (g : Attempt). response_items (response g s)) q []) its)

  abbrev turn_one : IsInTurn v dk
  turn_one = closing.turn_one later waits also a out x o s is case.counting

  steps_so : Steps later waits also a out x o s is case.counting b made
  steps_so = record {
    step_is = sym (step_is later waits also a out x o s is) ∙ step_form;
    sees = subst (Sees w ek) step_form sees_step;
    order = order_then;
    turn = record { unfollowed = turn_one.unfollowed; latest = turn_one.latest; numbers = turn_one.numbers; counted = turn_one.counted };
    left = λ h. subst (λ (all : List Reply). IsLeft all k.taken (channel_laws.came (closing.was later waits also a out x o s is case.counting).call)) (sym came_same) h;
  }

  -- the lines
  abbrev p : OpenEntry
  p = closing.entry_then later waits also a out x o s is case.counting

  over_row : is_over_by_row v dk ≡ true
  over_row =
      ap (λ (q : Option CallEnd). is_none q && holds (λ (g : Attempt). is_counted g v) (commitment dk v)) case.counting.goes_on
      ∙ ap (holds (λ (g : Attempt). is_counted g v)) committed_then ∙ counted_then later waits also a out x o s is case.counting

  still_then : (l : Line) → is_of_closing l ≡ false → may_wait l ≡ false → IsStill l p v
  still_then l off may = ends.still_after later waits also a out x o s is case.counting l off may

  none_out : (i : ℕ) (q : Attempt) → slice_get v.attempts i ≡ Some q → (q.row.call == n) ≡ true → is_outstanding q ≡ false
  none_out i q at own = first.none_out later waits also a out x o s is none_else i q at own

  goes : Continues later waits also a out x o s is case.counting b
  goes = record {
    does = refl;
    apart = tt;
    posts = refl;
    netless = refl;
    here = d_here later waits also a out x o s is;
    count = refl;
    one_there = first.one_there later waits also a out x o s is;
    one_ended = refl;
    tokens = λ i there. refl;
    unreset = first.unreset_one later waits also a out x o s is;
    none_out = none_out;
    fewer = first.fewer_one later waits also a out x o s is;
    over = over_row;
    still = still_then;
    late = ends.late_after later waits also a out x o s is case.counting;
    wire = λ h. first.plain later waits also a out x o s is line.WireEnd refl h;
  }

  has_ended : HasEnded later waits also a out x o s
  has_ended =
      alone_ends.has_ended later waits also a out x o s is case.counting none_else b goes (λ link row. refl) refl (first.links_one later waits also a out x o s is) made steps_so refl

pub committed_ends_close : CommittedEndsClose
committed_ends_close later waits also a out x o s is case = has_ended later waits also a out x o s is case
