-- The sets of the channel, once an attempt has ended and its call goes on: the attempt is out of one of them, and the timers of its call move.
use Rattle.std.proofs.Common.{◌≡◌, ◌&&◌, ◌==◌, not, ap, refl, subst, sym, ◌∙◌, Bool, true, false, List, Option, None, Some, ℕ, is_none, is_some}
use Rattle.std.proofs.lemmas.Bool.{and_parts, and_right, eq-eqb, eqb-true}
use Rattle.attempt_ledger.specs.declared.row.Placed.{Placed}
use Rattle.attempt_ledger.specs.declared.row.RowEnd.{RowEnd}
use Rattle.channel_actions.proofs.Links.Settings.Pairs.{exactly_by}
use Rattle.channel_actions.proofs.Links.Settings.Timers.{timers_exactly}
use Rattle.channel_actions.specs.Calls.{deadline_of, due_of}
use Rattle.call_cases.specs.OtherCalls.Laws.{SetsApart}
use Rattle.channel_actions.specs.Sets.{PairsAreExactly, is_awaiting_config, is_in_deadlines, is_in_dues, is_in_fail_fast, is_in_ready_waiters, is_in_queue, is_ready_waiter, is_waiting}
use Rattle.end_cases.proofs.AttemptEnds.After.{d, d_here, in_out, in_wait, u}
use Rattle.end_cases.proofs.AttemptEnds.Base.{books, c, has, here, out_off, queue_off, slot}
use Rattle.end_cases.proofs.AttemptEnds.OffSets.{out_left, queue_left}
use Rattle.end_cases.specs.AttemptEnds.Ahead.{SetsAgree}
use Rattle.end_cases.specs.AttemptEnds.Ends.{EndNext}
use Rattle.channel_core.specs.States.{StateSeen}
use Rattle.channel_core.specs.Timing.{timer_moved}
use Rattle.channel_core.specs.declared.state.slots.CallSlot.{CallSlot}
use Rattle.session_actions.specs.Attempts.{commitment, is_over, is_queued}
use Rattle.session_actions.specs.Calls.{is_open_call}
use Rattle.session_actions.specs.Configs.{waits_for_ready}
use Rattle.session_actions.specs.Words.{holds, is_number}
use Rattle.session_actions.specs.declared.attempt.Attempt.{Attempt}
use Rattle.session_actions.specs.declared.call.Call.{Call}
use Rattle.session_actions.specs.declared.entry.OpenEntry.{OpenEntry}
use Rattle.session_actions.specs.declared.response.Outcome.{Outcome}
use Rattle.session_actions.specs.declared.seen.Seen.{Seen}
use Rattle.session_order.specs.declared.line.Line.{Line}

and_swap : (p q r : Bool) → ((p && r) && q) ≡ ((p && q) && r)
and_swap true true true = refl
and_swap true true false = refl
and_swap true false true = refl
and_swap true false false = refl
and_swap false q r = refl

unplaced_by : (o : Option Placed) (n p over : Bool) → is_some o ≡ true → ((is_none o && p) && over) ≡ false
unplaced_by None n p over e = absurd (cc)
unplaced_by (Some at) n p over e = refl

module _ (later : List (ℕ × RowEnd)) (waits : Line → Bool) (also : List ℕ) (a : Attempt) (out : Outcome) (x : StateSeen) (o : OpenEntry) (s : Seen) (is : EndNext later waits also a out x o s)
    (open_now : (c later waits also a out x o s is).end ≡ None) (free : commitment (c later waits also a out x o s is) s ≡ None) (others : SetsApart (c later waits also a out x o s is).number s (u later waits also a out x o s is)) where
  abbrev call : Call
  call = c later waits also a out x o s is

  abbrev n : ℕ
  n = call.number

  abbrev then_ : Seen
  then_ = u later waits also a out x o s is

  abbrev sets : SetsAgree x s
  sets = record {
    queue = (books later waits also a out x o s is).sets.queue;
    ready_waiters = (books later waits also a out x o s is).sets.ready_waiters;
    dues = (books later waits also a out x o s is).sets.dues;
    deadlines = (books later waits also a out x o s is).sets.deadlines;
    awaiting_config = (books later waits also a out x o s is).sets.awaiting_config;
    fail_fast = (books later waits also a out x o s is).sets.fail_fast;
    outstanding = (books later waits also a out x o s is).sets.outstanding;
  }

  -- whether the call waits for ready
  wait_for_ready_same : is_ready_waiter then_ n ≡ is_ready_waiter s n
  wait_for_ready_same = ap (holds (λ (k : Call). waits_for_ready k then_)) (d_here later waits also a out x o s is) ∙ sym (ap (holds (λ (k : Call). waits_for_ready k s)) (here later waits also a out x o s is))

  wait_same : (row : ℕ) → is_waiting then_ n row ≡ (is_waiting s n row && not (row == a.place))
  wait_same row = in_wait later waits also a out x o s is open_now free row

  -- it waited for a pick, or not
  not_waiting : is_some a.row.placed ≡ true → (row : ℕ) (b : Bool) → (row == a.place) ≡ b → is_waiting s n row ≡ true → (row == a.place) ≡ false
  not_waiting some row false e waits_ = e
  not_waiting some row true e waits_ =
      let none : is_waiting s n a.place ≡ false
      = ap (holds (λ (q : Attempt). (q.row.call == n) && is_queued q s)) is.ending.there
      ∙ and_right (a.row.call == n) (is_queued a s) (unplaced_by a.row.placed true (is_none a.row.ended) (not (is_over a s)) some) in
      let both : true ≡ false = sym waits_ ∙ ap (is_waiting s n) (eqb-true row a.place e) ∙ none in
      absurd (cc)

  queue_by : (test : Bool) (row : ℕ) → ((is_waiting s n row && not (row == a.place)) && test) ≡ ((is_waiting s n row && test) && not (row == a.place))
  queue_by test row = and_swap (is_waiting s n row) test (not (row == a.place))

  waiting_of : (b : Bool) (row : ℕ) → (is_waiting s n row && b) ≡ true → is_waiting s n row ≡ true
  waiting_of b row e = (and_parts (is_waiting s n row) b e).0

  pub queue_then : PairsAreExactly (queue_off a.row.call a.place a.row.placed x.queue) (is_in_queue then_)
  queue_then =
      queue_left later waits also a out x o s is (is_in_queue s) (is_in_queue then_)
      (λ row. ap (λ (b : Bool). b && not (is_ready_waiter then_ n)) (wait_same row) ∙ ap (λ (b : Bool). (is_waiting s n row && not (row == a.place)) && not b) wait_for_ready_same
      ∙ queue_by (not (is_ready_waiter s n)) row)
      (λ k row e. others.queue k row e) (λ some row e. not_waiting some row (row == a.place) refl (waiting_of (not (is_ready_waiter s n)) row e)) x.queue sets.queue

  pub wait_for_ready_then : PairsAreExactly (queue_off a.row.call a.place a.row.placed x.ready_waiters) (is_in_ready_waiters then_)
  wait_for_ready_then =
      queue_left later waits also a out x o s is (is_in_ready_waiters s) (is_in_ready_waiters then_)
      (λ row. ap (λ (b : Bool). b && is_ready_waiter then_ n) (wait_same row) ∙ ap (λ (b : Bool). (is_waiting s n row && not (row == a.place)) && b) wait_for_ready_same ∙ queue_by (is_ready_waiter s n) row)
      (λ k row e. others.ready_waiters k row e) (λ some row e. not_waiting some row (row == a.place) refl (waiting_of (is_ready_waiter s n) row e)) x.ready_waiters sets.ready_waiters

  -- calls without a config
  unconfigured_by : (z k : ℕ) (b : Bool) → (k == n) ≡ b → is_awaiting_config s z k ≡ is_awaiting_config then_ z k
  unconfigured_by z k true e =
      subst (λ (m : ℕ). is_awaiting_config s z m ≡ is_awaiting_config then_ z m) (sym (eqb-true k n e))
      (ap (λ (r : Option Call). (z == 0) && holds (λ (g : Call). is_open_call g && is_none g.config) r) (here later waits also a out x o s is)
      ∙ sym (ap (λ (r : Option Call). (z == 0) && holds (λ (g : Call). is_open_call g && is_none g.config) r) (d_here later waits also a out x o s is)))
  unconfigured_by z k false e = sym (others.awaiting_config z k e)

  fail_fast_by : (z k : ℕ) (b : Bool) → (k == n) ≡ b → is_in_fail_fast s z k ≡ is_in_fail_fast then_ z k
  fail_fast_by z k true e =
      subst (λ (m : ℕ). is_in_fail_fast s z m ≡ is_in_fail_fast then_ z m) (sym (eqb-true k n e))
      (ap (λ (b : Bool). b && not (is_ready_waiter s n)) (unconfigured_by z n true (eq-eqb n n refl)) ∙ ap (λ (b : Bool). is_awaiting_config then_ z n && not b) (sym wait_for_ready_same))
  fail_fast_by z k false e = sym (others.fail_fast z k e)

  -- with the timers of the call
  module _ (after : CallSlot) (due : due_of then_ (d later waits also a out x o s is) ≡ after.due) (past : deadline_of then_ (d later waits also a out x o s is) ≡ after.deadline) where
    pub sets_then : SetsAgree (record x {
      queue = queue_off a.row.call a.place a.row.placed x.queue;
      ready_waiters = queue_off a.row.call a.place a.row.placed x.ready_waiters;
      outstanding = out_off a.place a.row.placed x.outstanding;
      dues = timer_moved n (slot later waits also a out x o s is).due after.due x.dues;
      deadlines = timer_moved n (slot later waits also a out x o s is).deadline after.deadline x.deadlines;
    }) then_
    sets_then = record {
      queue = queue_then;
      ready_waiters = wait_for_ready_then;
      dues = timers_exactly n x.dues (is_in_dues s) (slot later waits also a out x o s is).due after.due sets.dues
          (λ m. ap (holds (λ (k : Call). is_number m (due_of s k))) (here later waits also a out x o s is) ∙ ap (is_number m) (has later waits also a out x o s is).sees.due)
          (is_in_dues then_) (λ m k e. others.dues m k e)
          (λ m. ap (holds (λ (k : Call). is_number m (due_of then_ k))) (d_here later waits also a out x o s is) ∙ ap (is_number m) due);
      deadlines = timers_exactly n x.deadlines (is_in_deadlines s) (slot later waits also a out x o s is).deadline after.deadline sets.deadlines
          (λ m. ap (holds (λ (k : Call). is_number m (deadline_of s k))) (here later waits also a out x o s is) ∙ ap (is_number m) (has later waits also a out x o s is).sees.deadline_is)
          (is_in_deadlines then_) (λ m k e. others.deadlines m k e)
          (λ m. ap (holds (λ (k : Call). is_number m (deadline_of then_ k))) (d_here later waits also a out x o s is) ∙ ap (is_number m) past);
      awaiting_config = exactly_by x.awaiting_config (is_awaiting_config s) (is_awaiting_config then_) sets.awaiting_config (λ z k. unconfigured_by z k (k == n) refl);
      fail_fast = exactly_by x.fail_fast (is_in_fail_fast s) (is_in_fail_fast then_) sets.fail_fast (λ z k. fail_fast_by z k (k == n) refl);
      outstanding = out_left later waits also a out x o s is then_ (in_out later waits also a out x o s is);
    }
