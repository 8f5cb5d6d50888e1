-- A call has ended: it waits for no config and for no moment any more.
use Rattle.std.proofs.Common.{◌≡◌, ◌&&◌, ◌==◌, not, ap, arith, refl, subst, sym, ◌∙◌, Bool, true, false, List, Option, Some, ℕ, is_none}
use Rattle.std.proofs.lemmas.Bool.{and_right, eqb-true}
use Rattle.std.proofs.lemmas.Bool.Decides.{nat_tests}
use Rattle.std.specs.Set.{remove_key}
use Rattle.attempt_ledger.specs.declared.row.RowEnd.{RowEnd}
use Rattle.call_actions.specs.Laws.{IsCounting}
use Rattle.channel_actions.proofs.Links.Settings.Pairs.{exactly_by, exactly_remove}
use Rattle.channel_actions.proofs.Links.Settings.Timers.{other_key, own_key, timers_exactly}
use Rattle.channel_actions.specs.Calls.{deadline_of, due_of}
use Rattle.call_cases.specs.OtherCalls.Laws.{SetsApart}
use Rattle.channel_actions.specs.Sets.{PairsAreExactly, is_awaiting_config, is_in_deadlines, is_in_dues, is_in_fail_fast, is_ready_waiter}
use Rattle.end_cases.proofs.AttemptEnds.Base.{books, c, has, here, slot}
use Rattle.end_cases.proofs.AttemptEnds.Closing as closing
use Rattle.end_cases.proofs.AttemptEnds.Closing.{Between, Continues}
use Rattle.end_cases.proofs.AttemptEnds.OffSets.{and_on}
use Rattle.end_cases.specs.AttemptEnds.Ends.{EndNext}
use Rattle.channel_core.specs.States.{StateSeen}
use Rattle.channel_core.specs.Timing.{timer_moved}
use Rattle.channel_core.specs.declared.state.slots.CallSlot.{CallSlot}
use Rattle.picker_gate.specs.Pairs.{is_same}
use Rattle.session_actions.specs.Calls.{is_open_call}
use Rattle.session_actions.specs.Words.{holds, is_number, numbered}
use Rattle.session_actions.specs.declared.attempt.Attempt.{Attempt}
use Rattle.session_actions.specs.declared.call.Call.{Call}
use Rattle.session_actions.specs.declared.entry.OpenEntry.{OpenEntry}
use Rattle.session_actions.specs.declared.response.Outcome.{Outcome}
use Rattle.session_actions.specs.declared.seen.Seen.{Seen}
use Rattle.session_order.specs.declared.line.Line.{Line}

gone_by : (p q r : Bool) → p ≡ q → ((p && r) && not q) ≡ false
gone_by true true r e = and_right r false refl
gone_by true false r e = absurd (cc)
gone_by false q r e = refl

gone_too : (p q r v : Bool) → p ≡ q → (((p && r) && v) && not q) ≡ false
gone_too true true r v e = and_right (r && v) false refl
gone_too true false r v e = absurd (cc)
gone_too false q r v e = refl

zero_turns : (m : ℕ) → (m == 0) ≡ (0 == m)
zero_turns m = grind (arith, nat_tests)

module _ (later : List (ℕ × RowEnd)) (waits : Line → Bool) (also : List ℕ) (a : Attempt) (out : Outcome) (x : StateSeen) (o : OpenEntry) (s : Seen) (is : EndNext later waits also a out x o s)
    (counting : IsCounting s (c later waits also a out x o s is) out) (b : Between later waits also a out x o s is counting) (goes : Continues later waits also a out x o s is counting b)
    (others : SetsApart (closing.n later waits also a out x o s is counting) s (closing.closed later waits also a out x o s is counting b)) where
  abbrev call : Call
  call = c later waits also a out x o s is

  abbrev m : ℕ
  m = call.number

  abbrev then_ : Seen
  then_ = closing.closed later waits also a out x o s is counting b

  abbrev ended : Call
  ended = closing.ended later waits also a out x o s is counting b

  abbrev ended_here : numbered then_.calls m ≡ Some ended
  ended_here = closing.closed_here later waits also a out x o s is counting b goes

  -- calls without a config
  none_unconfigured : (j : ℕ) → is_awaiting_config then_ j m ≡ false
  none_unconfigured j =
      ap (λ (q : Option Call). (j == 0) && holds (λ (g : Call). is_open_call g && is_none g.config) q) ended_here ∙ and_right (j == 0) (false && is_none call.config) refl

  zero_key : (j : ℕ) → (j == 0) ≡ is_same (0, m) (j, m)
  zero_key j = zero_turns j ∙ sym (own_key 0 j m)

  unconfigured_by : (j i : ℕ) (q : Bool) → (i == m) ≡ q → (is_awaiting_config s j i && not (is_same (0, m) (j, i))) ≡ is_awaiting_config then_ j i
  unconfigured_by j i true e =
      subst (λ (q : ℕ). (is_awaiting_config s j q && not (is_same (0, m) (j, q))) ≡ is_awaiting_config then_ j q) (sym (eqb-true i m e))
      (gone_by (j == 0) (is_same (0, m) (j, m)) (holds (λ (g : Call). is_open_call g && is_none g.config) (numbered s.calls m)) (zero_key j) ∙ sym (none_unconfigured j))
  unconfigured_by j i false e = ap (λ (q : Bool). is_awaiting_config s j i && not q) (other_key 0 j i m e) ∙ and_on (is_awaiting_config s j i) ∙ sym (others.awaiting_config j i e)

  fail_fast_by : (j i : ℕ) (q : Bool) → (i == m) ≡ q → (is_in_fail_fast s j i && not (is_same (0, m) (j, i))) ≡ is_in_fail_fast then_ j i
  fail_fast_by j i true e =
      subst (λ (q : ℕ). (is_in_fail_fast s j q && not (is_same (0, m) (j, q))) ≡ is_in_fail_fast then_ j q) (sym (eqb-true i m e))
      (gone_too (j == 0) (is_same (0, m) (j, m)) (holds (λ (g : Call). is_open_call g && is_none g.config) (numbered s.calls m)) (not (is_ready_waiter s m)) (zero_key j)
      ∙ sym (ap (λ (q : Bool). q && not (is_ready_waiter then_ m)) (none_unconfigured j)))
  fail_fast_by j i false e = ap (λ (q : Bool). is_in_fail_fast s j i && not q) (other_key 0 j i m e) ∙ and_on (is_in_fail_fast s j i) ∙ sym (others.fail_fast j i e)

  pub unconfigured_then : PairsAreExactly (remove_key (is_same (0, m)) x.awaiting_config) (is_awaiting_config then_)
  unconfigured_then =
      exactly_by (remove_key (is_same (0, m)) x.awaiting_config) (λ j i. is_awaiting_config s j i && not (is_same (0, m) (j, i))) (is_awaiting_config then_)
      (exactly_remove x.awaiting_config (is_awaiting_config s) (0, m) (books later waits also a out x o s is).sets.awaiting_config) (λ j i. unconfigured_by j i (i == m) refl)

  pub fail_fast_then : PairsAreExactly (remove_key (is_same (0, m)) x.fail_fast) (is_in_fail_fast then_)
  fail_fast_then =
      exactly_by (remove_key (is_same (0, m)) x.fail_fast) (λ j i. is_in_fail_fast s j i && not (is_same (0, m) (j, i))) (is_in_fail_fast then_)
      (exactly_remove x.fail_fast (is_in_fail_fast s) (0, m) (books later waits also a out x o s is).sets.fail_fast) (λ j i. fail_fast_by j i (i == m) refl)

  -- the timers of the call
  module _ (after : CallSlot) where
    pub dues_then : due_of then_ ended ≡ after.due → PairsAreExactly (timer_moved m (slot later waits also a out x o s is).due after.due x.dues) (is_in_dues then_)
    dues_then due =
        timers_exactly m x.dues (is_in_dues s) (slot later waits also a out x o s is).due after.due (books later waits also a out x o s is).sets.dues
        (λ j. ap (holds (λ (g : Call). is_number j (due_of s g))) (here later waits also a out x o s is) ∙ ap (is_number j) (has later waits also a out x o s is).sees.due)
        (is_in_dues then_) (λ j i e. others.dues j i e) (λ j. ap (holds (λ (g : Call). is_number j (due_of then_ g))) ended_here ∙ ap (is_number j) due)

    pub deadlines_then : deadline_of then_ ended ≡ after.deadline → PairsAreExactly (timer_moved m (slot later waits also a out x o s is).deadline after.deadline x.deadlines) (is_in_deadlines then_)
    deadlines_then past =
        timers_exactly m x.deadlines (is_in_deadlines s) (slot later waits also a out x o s is).deadline after.deadline (books later waits also a out x o s is).sets.deadlines
        (λ j. ap (holds (λ (g : Call). is_number j (deadline_of s g))) (here later waits also a out x o s is) ∙ ap (is_number j) (has later waits also a out x o s is).sees.deadline_is)
        (is_in_deadlines then_) (λ j i e. others.deadlines j i e) (λ j. ap (holds (λ (g : Call). is_number j (deadline_of then_ g))) ended_here ∙ ap (is_number j) past)
