-- A call that has ended waits for no moment and no config, and the others do as before.
use Rattle.std.proofs.Common.{◌≡◌, ◌&&◌, ◌==◌, not, ap, arith, refl, sym, ◌∙◌, Bool, true, false, List, Option, None, Some, ℕ, if◌then◌else◌, is_none, is_some}
use Rattle.std.proofs.lemmas.Bool.Decides.{nat_tests}
use Rattle.std.specs.Set.{remove_key}
use Rattle.attempt_ledger.specs.declared.ledger.CallEnd.{CallEnd}
use Rattle.call_cases.proofs.CallEnds.Alone.{goes_apart, has_cut}
use Rattle.call_cases.proofs.CallEnds.On.{next, resets, t}
use Rattle.call_cases.specs.CallEnds.Ends.{IsToEnd, TimersAgree}
use Rattle.channel_actions.specs.Calls.{HasSlot, deadline_of, due_of}
use Rattle.channel_actions.specs.Sets.{PairsAreExactly, is_awaiting_config, is_in_deadlines, is_in_dues, is_in_fail_fast, is_ready_waiter}
use Rattle.channel_core.specs.States.{StateSeen}
use Rattle.channel_core.specs.Timing.{timer_moved}
use Rattle.call_cases.proofs.EndsFollow.Cuts.{IsDone}
use Rattle.call_cases.proofs.EndsFollow.Follow.{base, reset_walk}
use Rattle.grpc_base.specs.declared.event.EndCause.{EndCause}
use Rattle.channel_actions.specs.KeptSessions.Kept.{IsKept}
use Rattle.call_cases.proofs.OtherCalls.Sets.{sets_stay}
use Rattle.call_cases.specs.OtherCalls.Laws.{SetsApart}
use Rattle.picker_gate.specs.Pairs.{is_same}
use Rattle.session_actions.specs.CallEnds.{call_ended}
use Rattle.session_actions.specs.Calls.{is_open_call}
use Rattle.session_actions.specs.Configs.{deadline}
use Rattle.session_actions.specs.DueAttempts.{next_due}
use Rattle.session_actions.specs.Words.{holds, is_number, numbered}
use Rattle.session_actions.specs.declared.call.Call.{Call}
use Rattle.session_actions.specs.declared.entry.OpenEntry.{OpenEntry}
use Rattle.session_actions.specs.declared.seen.Seen.{Seen}
use Rattle.session_order.specs.declared.line.Line.{Line}
use Rattle.channel_actions.proofs.Links.Settings.Pairs.{exactly_by, exactly_remove}
use Rattle.channel_actions.proofs.Links.Settings.Timers.{by_number, other_key, own_key, timers_exactly}

and_true : (b : Bool) → (b && true) ≡ b
and_true true = refl
and_true false = refl

and_false : (b : Bool) → (b && false) ≡ false
and_false true = refl
and_false false = refl

gone_by : (p q r : Bool) → p ≡ q → ((p && r) && not q) ≡ false
gone_by true true r e = and_false r
gone_by true false r e = absurd (cc)
gone_by false q r e = refl

gone_too : (p q r v : Bool) → p ≡ q → (((p && r) && v) && not q) ≡ false
gone_too true true r v e = and_false (r && v)
gone_too true false r v e = absurd (cc)
gone_too false q r v e = refl

zero_turns : (m : ℕ) → (m == 0) ≡ (0 == m)
zero_turns m = grind (arith, nat_tests)

closed_by_end : (o : Option CallEnd) → is_some o ≡ true → is_none o ≡ false
closed_by_end None e = absurd (cc)
closed_by_end (Some x) e = refl

-- a pair of the call that is taken out of such a set
module _ (n : ℕ) (pairs : List (ℕ × ℕ)) (test other : ℕ → ℕ → Bool) (h : PairsAreExactly pairs test) (away : (m k : ℕ) → (k == n) ≡ false → other m k ≡ test m k)
    (gone : (m : ℕ) → (test m n && not (is_same (0, n) (m, n))) ≡ false) (none : (m : ℕ) → other m n ≡ false) where
  pub taken_out : PairsAreExactly (remove_key (is_same (0, n)) pairs) other
  taken_out =
      exactly_by (remove_key (is_same (0, n)) pairs) (λ (a b : ℕ). test a b && not (is_same (0, n) (a, b))) other (exactly_remove pairs test (0, n) h)
      (λ a b. by_number n (λ (i j : ℕ). test i j && not (is_same (0, n) (i, j))) other
      (λ i j e. ap (λ (z : Bool). test i j && not z) (other_key 0 i j n e) ∙ and_true (test i j) ∙ sym (away i j e))
      (λ i. gone i ∙ sym (none i)) a b (b == n) refl)

module _ (waits : Line → Bool) (n : ℕ) (why : EndCause) (x : StateSeen) (o : OpenEntry) (s : Seen) (is : IsToEnd waits n why x o s) where
  abbrev u : Seen
  u = (resets waits n why x o s is).seen

  abbrev pub has : HasSlot x s is.call n
  has = is.agrees.calls.each n is.call is.there

  pub done : IsDone n u
  done =
      (reset_walk waits is.late n o (call_ended n why s) (base waits n why o s (next waits n why x o s is)) (resets waits n why x o s is).actions (t waits n why x o s is) u
      (has_cut waits n why x o s is).reset (resets waits n why x o s is).resets).reset.left.done

  closed : is_open_call done.call ≡ false
  closed = closed_by_end done.call.end done.ended

  module _ (kept : IsKept u) where
    pub apart : SetsApart n s u
    apart = sets_stay n x s u (goes_apart waits n why x o s is kept) is.agrees.calls

    none_due : (m : ℕ) → is_in_dues u m n ≡ false
    none_due m =
        ap (holds (λ (c : Call). is_number m (due_of u c))) done.there
        ∙ ap (λ (b : Bool). is_number m (if b then next_due done.call u else None)) closed

    none_past : (m : ℕ) → is_in_deadlines u m n ≡ false
    none_past m =
        ap (holds (λ (c : Call). is_number m (deadline_of u c))) done.there
        ∙ ap (λ (b : Bool). is_number m (if b then deadline done.call u else None)) closed

    none_unconfigured : (m : ℕ) → is_awaiting_config u m n ≡ false
    none_unconfigured m =
        ap (λ (q : Option Call). (m == 0) && holds (λ (c : Call). is_open_call c && is_none c.config) q) done.there
        ∙ ap (λ (b : Bool). (m == 0) && (b && is_none done.call.config)) closed ∙ and_false (m == 0)

    zero_key : (m : ℕ) → (m == 0) ≡ is_same (0, n) (m, n)
    zero_key m = zero_turns m ∙ sym (own_key 0 m n)

    pub timers_agree : TimersAgree (record x {
      dues = timer_moved n has.slot.due None x.dues;
      deadlines = timer_moved n has.slot.deadline None x.deadlines;
      awaiting_config = remove_key (is_same (0, n)) x.awaiting_config;
      fail_fast = remove_key (is_same (0, n)) x.fail_fast;
    }) u
    timers_agree = record {
      dues = timers_exactly n x.dues (is_in_dues s) has.slot.due None is.agrees.sets.dues
          (λ m. ap (holds (λ (c : Call). is_number m (due_of s c))) is.there ∙ ap (is_number m) has.sees.due)
          (is_in_dues u) (λ m k e. apart.dues m k e) none_due;
      deadlines = timers_exactly n x.deadlines (is_in_deadlines s) has.slot.deadline None is.agrees.sets.deadlines
          (λ m. ap (holds (λ (c : Call). is_number m (deadline_of s c))) is.there ∙ ap (is_number m) has.sees.deadline_is)
          (is_in_deadlines u) (λ m k e. apart.deadlines m k e) none_past;
      awaiting_config = taken_out n x.awaiting_config (is_awaiting_config s) (is_awaiting_config u) is.agrees.sets.awaiting_config (λ m k e. apart.awaiting_config m k e)
          (λ m. gone_by (m == 0) (is_same (0, n) (m, n)) (holds (λ (c : Call). is_open_call c && is_none c.config) (numbered s.calls n)) (zero_key m)) none_unconfigured;
      fail_fast = taken_out n x.fail_fast (is_in_fail_fast s) (is_in_fail_fast u) is.agrees.sets.fail_fast (λ m k e. apart.fail_fast m k e)
          (λ m. gone_too (m == 0) (is_same (0, n) (m, n)) (holds (λ (c : Call). is_open_call c && is_none c.config) (numbered s.calls n)) (not (is_ready_waiter s n)) (zero_key m))
          (λ m. ap (λ (b : Bool). b && not (is_ready_waiter u n)) (none_unconfigured m));
    }
