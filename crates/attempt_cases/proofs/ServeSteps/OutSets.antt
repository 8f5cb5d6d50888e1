-- The sets of the channel, once an attempt is placed: it is out of those that wait and among those that are outstanding, and the timers of its call move.
use Rattle.std.proofs.Common.{◌≡◌, ◌==◌, ◌&&◌, ◌||◌, ◌∙◌, not, ap, arith, eqb-true, refl, subst, sym, Bool, true, false, Option, None, Some, ℕ, is_none, is_some, option_map}
use Rattle.std.proofs.lemmas.Bool.Decides.{nat_tests}
use Rattle.std.specs.BTreeSet.{insert_key}
use Rattle.std.specs.Set.{remove_key}
use Rattle.attempt_ledger.specs.declared.row.RowEnd.{RowEnd}
use Rattle.call_actions.proofs.Places.{place_is}
use Rattle.call_actions.proofs.Ranks.{numbered_map}
use Rattle.channel_actions.proofs.Links.Settings.Pairs.{exactly_by, exactly_insert, exactly_remove}
use Rattle.channel_actions.proofs.Links.Settings.Timers.{timers_exactly}
use Rattle.channel_actions.specs.Calls.{deadline_of, due_of}
use Rattle.call_cases.specs.OtherCalls.Laws.{SetsApart}
use Rattle.channel_actions.specs.Sets.{SeesSets, is_awaiting_config, is_in_deadlines, is_in_dues, is_in_fail_fast, is_in_outstanding, is_in_ready_waiters, is_in_queue, is_ready_waiter, is_waiting}
use Rattle.call_cases.proofs.ConfiguredCalls.Lists.{equal_numbers}
use Rattle.attempt_cases.proofs.MakingSteps.Lists.{holds_alike, holds_changed, pair_away, pair_here}
use Rattle.attempt_cases.proofs.ServeSteps.OutBase as base
use Rattle.attempt_cases.proofs.ServeSteps.OutBase.{OutLaws, OutNext}
use Rattle.attempt_cases.proofs.ServeSteps.OutBooks.{apart}
use Rattle.attempt_cases.proofs.ServeSteps.OutServes.{own_deadline, own_due}
use Rattle.channel_core.specs.States.{StateSeen}
use Rattle.picker_gate.specs.Pairs.{is_same, pair_cmp}
use Rattle.session_actions.specs.Attempts.{commitment, is_outstanding, is_over, is_over_in, is_queued}
use Rattle.session_actions.specs.Calls.{is_open_call}
use Rattle.session_actions.specs.Configs.{waits_for_ready}
use Rattle.session_actions.specs.Links.{link_number}
use Rattle.session_actions.specs.Words.{holds, is_number, numbered}
use Rattle.session_actions.specs.declared.attempt.Attempt.{Attempt}
use Rattle.session_actions.specs.declared.call.Call.{Call}
use Rattle.session_actions.specs.declared.seen.Seen.{Seen}

-- tests
out_and : (w d p : Bool) → ((w && not d) && p) ≡ ((w && p) && not d)
out_and true true true = refl
out_and true true false = refl
out_and true false true = refl
out_and true false false = refl
out_and false d p = refl

no_both : (b : Bool) → (b && false) ≡ ((b && true) && not b)
no_both true = refl
no_both false = refl

with_true : (b : Bool) → (b && true) ≡ b
with_true true = refl
with_true false = refl

or_none : (b : Bool) → (b || false) ≡ b
or_none true = refl
or_none false = refl

pair_turned : (n k p : ℕ) → is_same (n, p) (k, p) ≡ (n == k)
pair_turned n k p = grind (arith, nat_tests)

pair_off : (n k p r : ℕ) → (r == p) ≡ false → is_same (n, p) (k, r) ≡ false
pair_off n k p r e = grind (arith, nat_tests)

module _ (x : StateSeen) (s : Seen) (is : OutNext x s) where
  abbrev c : Call
  c = is.call

  abbrev row : ℕ
  row = is.row

  abbrev a : Attempt
  a = is.attempt

  abbrev g : Attempt → Attempt
  g = base.g x s is

  abbrev t : Seen
  t = base.t x s is

  abbrev gone : ℕ × ℕ → Bool
  gone p = is_same (is.call.number, is.row) p

  -- who waits for a pick
  number_by : (z : Attempt) (o : Option Attempt) → holds (λ (q : Attempt). not (q.row.number == z.row.number)) (option_map g o) ≡ holds (λ (q : Attempt). not (q.row.number == z.row.number)) o
  number_by z None = refl
  number_by z (Some q) = refl

  over_in : (z : Attempt) (k : Call) → is_over_in k z t ≡ is_over_in k z s
  over_in z k =
      ap (λ (o : Option Attempt). is_some k.end || holds (λ (q : Attempt). not (q.row.number == z.row.number)) o) (base.commitment_now x s is k)
      ∙ ap (λ (q : Bool). is_some k.end || q) (number_by z (commitment k s))

  over_same : (z : Attempt) → is_over z t ≡ is_over z s
  over_same z =
      holds_alike (λ (k : Call). is_over_in k z t) (λ (k : Call). is_over_in k z s) (over_in z) (numbered t.calls z.row.call)
      ∙ holds_changed (base.noted x s is) c.number s.calls (λ (k : Call). is_over_in k z s) (λ k. refl) z.row.call

  queued_same : (z : Attempt) → is_queued z t ≡ is_queued z s
  queued_same z = ap (λ (q : Bool). is_none z.row.placed && is_none z.row.ended && not q) (over_same z)

  waiting_at : (k r : ℕ) (o : Option Attempt) → (r == row) ≡ false → numbered s.attempts r ≡ o
      → holds (λ (z : Attempt). (z.row.call == k) && is_queued z t) (option_map g o) ≡ holds (λ (z : Attempt). (z.row.call == k) && is_queued z s) o
  waiting_at k r None other got = refl
  waiting_at k r (Some z) other got =
      let place : z.place ≡ r = place_is r s.attempts z is.sees.order.places got in
      ap (λ (q : Attempt). (q.row.call == k) && is_queued q t) (base.g_off x s is z (ap (λ (n : ℕ). n == row) place ∙ other))
      ∙ ap (λ (q : Bool). (z.row.call == k) && q) (queued_same z)

  waiting_here : (k : ℕ) → is_waiting t k row ≡ (is_waiting s k row && not (gone (k, row)))
  waiting_here k =
      ap (holds (λ (z : Attempt). (z.row.call == k) && is_queued z t)) (base.here_now x s is)
      ∙ ap (λ (z : Attempt). (z.row.call == k) && is_queued z t) (base.g_here x s is)
      ∙ ap (λ (n : ℕ). (n == k) && false) (eqb-true a.row.call c.number is.own)
      ∙ no_both (c.number == k)
      ∙ sym (ap (λ (o : Option Attempt). holds (λ (z : Attempt). (z.row.call == k) && is_queued z s) o && not (gone (k, row))) is.here
      ∙ ap (λ (q : Bool). ((a.row.call == k) && q) && not (gone (k, row))) is.queued
      ∙ ap (λ (n : ℕ). ((n == k) && true) && not (gone (k, row))) (eqb-true a.row.call c.number is.own)
      ∙ ap (λ (q : Bool). ((c.number == k) && true) && not q) (pair_turned c.number k row))

  waiting_by : (k r : ℕ) (q : Bool) → (r == row) ≡ q → is_waiting t k r ≡ (is_waiting s k r && not (gone (k, r)))
  waiting_by k r true e = subst (λ (n : ℕ). is_waiting t k n ≡ (is_waiting s k n && not (gone (k, n)))) (sym (equal_numbers r row e)) (waiting_here k)
  waiting_by k r false e =
      ap (holds (λ (z : Attempt). (z.row.call == k) && is_queued z t)) (numbered_map g s.attempts r) ∙ waiting_at k r (numbered s.attempts r) e refl
      ∙ sym (ap (λ (q : Bool). is_waiting s k r && not q) (pair_off c.number k row r e) ∙ with_true (is_waiting s k r))

  waiting_less : (k r : ℕ) → is_waiting t k r ≡ (is_waiting s k r && not (gone (k, r)))
  waiting_less k r = waiting_by k r (r == row) refl

  wait_for_ready_same : (k : ℕ) → is_ready_waiter t k ≡ is_ready_waiter s k
  wait_for_ready_same k = holds_changed (base.noted x s is) c.number s.calls (λ (d : Call). waits_for_ready d s) (λ d. refl) k

  in_queue : (k r : ℕ) → (is_in_queue s k r && not (gone (k, r))) ≡ is_in_queue t k r
  in_queue k r =
      sym (ap (λ (q : Bool). q && not (is_ready_waiter t k)) (waiting_less k r)
      ∙ ap (λ (q : Bool). (is_waiting s k r && not (gone (k, r))) && not q) (wait_for_ready_same k)
      ∙ out_and (is_waiting s k r) (gone (k, r)) (not (is_ready_waiter s k)))

  in_ready_waiters : (k r : ℕ) → (is_in_ready_waiters s k r && not (gone (k, r))) ≡ is_in_ready_waiters t k r
  in_ready_waiters k r =
      sym (ap (λ (q : Bool). q && is_ready_waiter t k) (waiting_less k r)
      ∙ ap (λ (q : Bool). (is_waiting s k r && not (gone (k, r))) && q) (wait_for_ready_same k)
      ∙ out_and (is_waiting s k r) (gone (k, r)) (is_ready_waiter s k))

  -- who is outstanding
  outstanding_at : (link r : ℕ) (o : Option Attempt) → (r == row) ≡ false → numbered s.attempts r ≡ o
      → holds (λ (z : Attempt). is_outstanding z && (link_number z == link)) (option_map g o) ≡ holds (λ (z : Attempt). is_outstanding z && (link_number z == link)) o
  outstanding_at link r None other got = refl
  outstanding_at link r (Some z) other got =
      let place : z.place ≡ r = place_is r s.attempts z is.sees.order.places got in
      ap (λ (q : Attempt). is_outstanding q && (link_number q == link)) (base.g_off x s is z (ap (λ (n : ℕ). n == row) place ∙ other))

  outstanding_here : (link : ℕ) → (is_same (link, row) (is.at.link, row) || is_in_outstanding s link row) ≡ is_in_outstanding t link row
  outstanding_here link =
      ap (λ (q : Bool). q || is_in_outstanding s link row) (pair_here link is.at.link row)
      ∙ ap (λ (o : Option Attempt). (is.at.link == link) || holds (λ (z : Attempt). is_outstanding z && (link_number z == link)) o) is.here
      ∙ ap (λ (q : Bool). (is.at.link == link) || (q && (link_number a == link))) (base.off_now x s is) ∙ or_none (is.at.link == link)
      ∙ sym (ap (holds (λ (z : Attempt). is_outstanding z && (link_number z == link))) (base.here_now x s is)
      ∙ ap (λ (z : Attempt). is_outstanding z && (link_number z == link)) (base.g_here x s is)
      ∙ ap (λ (o : Option RowEnd). is_none o && (is.at.link == link)) (base.unended x s is))

  outstanding_by : (link r : ℕ) (q : Bool) → (r == row) ≡ q → (is_same (link, r) (is.at.link, row) || is_in_outstanding s link r) ≡ is_in_outstanding t link r
  outstanding_by link r true e =
      subst (λ (n : ℕ). (is_same (link, n) (is.at.link, row) || is_in_outstanding s link n) ≡ is_in_outstanding t link n) (sym (equal_numbers r row e)) (outstanding_here link)
  outstanding_by link r false e =
      ap (λ (q : Bool). q || is_in_outstanding s link r) (pair_away link is.at.link r row e)
      ∙ sym (ap (holds (λ (z : Attempt). is_outstanding z && (link_number z == link))) (numbered_map g s.attempts r) ∙ outstanding_at link r (numbered s.attempts r) e refl)

  -- its timers
  own_dues : (u : Seen) (d : Call) (due : Option ℕ) → numbered u.calls c.number ≡ Some d → due_of u d ≡ due → (m : ℕ) → is_in_dues u m c.number ≡ is_number m due
  own_dues u d due e f m = ap (holds (λ (k : Call). is_number m (due_of u k))) e ∙ ap (is_number m) f

  own_deadlines : (u : Seen) (d : Call) (due : Option ℕ) → numbered u.calls c.number ≡ Some d → deadline_of u d ≡ due → (m : ℕ) → is_in_deadlines u m c.number ≡ is_number m due
  own_deadlines u d due e f m = ap (holds (λ (k : Call). is_number m (deadline_of u k))) e ∙ ap (is_number m) f

  -- calls without a config
  unconfigured_same : (z k : ℕ) → is_awaiting_config s z k ≡ is_awaiting_config t z k
  unconfigured_same z k =
      sym (ap (λ (q : Bool). (z == 0) && q) (holds_changed (base.noted x s is) c.number s.calls (λ (d : Call). is_open_call d && is_none d.config) (λ d. refl) k))

  fail_fast_same : (z k : ℕ) → is_in_fail_fast s z k ≡ is_in_fail_fast t z k
  fail_fast_same z k =
      ap (λ (q : Bool). q && not (is_ready_waiter s k)) (unconfigured_same z k) ∙ sym (ap (λ (q : Bool). is_awaiting_config t z k && not q) (wait_for_ready_same k))

  module _ (laws : OutLaws) where
    others : SetsApart c.number s t
    others = laws.frames.sets c.number x s t (apart x s is laws) is.agrees.calls

    pub sets_now : SeesSets (base.y x s is) (base.t x s is)
    sets_now = record {
      queue =
          exactly_by (remove_key (is_same (c.number, row)) x.queue) (λ k r. is_in_queue s k r && not (gone (k, r))) (is_in_queue t)
          (exactly_remove x.queue (is_in_queue s) (c.number, row) is.agrees.sets.queue) in_queue;
      ready_waiters =
          exactly_by (remove_key (is_same (c.number, row)) x.ready_waiters) (λ k r. is_in_ready_waiters s k r && not (gone (k, r))) (is_in_ready_waiters t)
          (exactly_remove x.ready_waiters (is_in_ready_waiters s) (c.number, row) is.agrees.sets.ready_waiters) in_ready_waiters;
      dues =
          timers_exactly c.number x.dues (is_in_dues s) is.slot.due (base.slot2 x s is).due is.agrees.sets.dues (own_dues s c is.slot.due is.there is.sees.due) (is_in_dues t)
          (λ m k e. others.dues m k e) (own_dues t (base.c1 x s is) (base.slot2 x s is).due (base.own_now x s is) (own_due x s is laws));
      deadlines =
          timers_exactly c.number x.deadlines (is_in_deadlines s) is.slot.deadline (base.slot2 x s is).deadline is.agrees.sets.deadlines
          (own_deadlines s c is.slot.deadline is.there is.sees.deadline_is) (is_in_deadlines t) (λ m k e. others.deadlines m k e)
          (own_deadlines t (base.c1 x s is) (base.slot2 x s is).deadline (base.own_now x s is) (own_deadline x s is laws));
      awaiting_config = exactly_by x.awaiting_config (is_awaiting_config s) (is_awaiting_config t) is.agrees.sets.awaiting_config unconfigured_same;
      fail_fast = exactly_by x.fail_fast (is_in_fail_fast s) (is_in_fail_fast t) is.agrees.sets.fail_fast fail_fast_same;
      outstanding =
          exactly_by (insert_key pair_cmp x.outstanding (is.at.link, row)) (λ link r. is_same (link, r) (is.at.link, row) || is_in_outstanding s link r) (is_in_outstanding t)
          (exactly_insert x.outstanding (is_in_outstanding s) (is.at.link, row) is.agrees.sets.outstanding) (λ link r. outstanding_by link r (r == row) refl);
      resets = is.agrees.sets.resets;
    }
