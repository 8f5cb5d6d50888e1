-- The sets of the channel once a call began: it waits for its config, and for its deadline if it has one.
use Rattle.call_cases.proofs.BeginActions.New.{before, beyond, last_is, later, new_call, none_at, number}
use Rattle.call_cases.proofs.BeginActions.Table.{begun_with}
use Rattle.channel_actions.specs.Calls.{deadline_of, due_of}
use Rattle.channel_actions.specs.Sets.{PairsAreExactly, SeesSets, is_awaiting_config, is_in_deadlines, is_in_dues, is_in_fail_fast, is_in_ready_waiters, is_in_queue, is_ready_waiter, is_waiting}
use Rattle.channel_core.specs.States.{StateSeen}
use Rattle.channel_core.specs.Steps.{says_yes}
use Rattle.channel_core.specs.Timing.{timer_moved}
use Rattle.grpc_base.specs.Requests.{RequestSeen}
use Rattle.call_cases.specs.OtherCalls.Laws.{SetsApart}
use Rattle.picker_gate.specs.Pairs.{is_same, pair_cmp}
use Rattle.session_actions.specs.Attempts.{is_of, is_queued}
use Rattle.session_actions.specs.Calls.{is_open_call}
use Rattle.session_actions.specs.Configs.{waits_for_ready}
use Rattle.session_actions.specs.Words.{holds, is_number, numbered}
use Rattle.session_actions.specs.declared.attempt.Attempt.{Attempt}
use Rattle.session_actions.specs.declared.call.Call.{Call}
use Rattle.session_actions.specs.declared.entry.OpenEntry.{OpenEntry}
use Rattle.session_actions.specs.declared.seen.Seen.{Seen}
use Rattle.channel_actions.proofs.Links.Settings.Pairs.{same_is, self_same}
use Rattle.channel_actions.specs.SetFrames.Laws.{PairsComeIn, TestsAreSame}
use Rattle.std.proofs.Common.{Bool, List, None, Option, Some, [], ap, eq-eqb, eqb-true, false, if◌then◌else◌, is_none, is_some, not, refl, subst, sym, true, unwrap_or, ℕ, ◌&&◌, ◌++◌, ◌==◌, ◌||◌, ◌∙◌, ◌∷◌, ◌≡◌}
use Rattle.std.proofs.lemmas.Bool.{and_from, and_left, and_parts, and_right, eqb-false, ne_eqb}
use Rattle.std.specs.BTreeSet.{insert_key}
use Rattle.std.specs.List.{list_any}
use Rattle.std.specs.Option.{option_or}

equal_back : (a b : ℕ) (c : Bool) → (a == b) ≡ c → (b == a) ≡ c
equal_back a b true e = eq-eqb b a (sym (eqb-true a b e))
equal_back a b false e = ne_eqb b a (λ same. eqb-false a b e (sym same))

test_by : (a b m n : ℕ) (c d : Bool) → is_same (a, b) (m, n) ≡ c → ((a == m) && (b == n)) ≡ d → c ≡ d
test_by a b m n true true e f = refl
test_by a b m n false false e f = refl
test_by a b m n true false e f =
    let first : a ≡ m = ap (λ (p : ℕ × ℕ). p.0) (same_is (a, b) (m, n) e) in
    let second : b ≡ n = ap (λ (p : ℕ × ℕ). p.1) (same_is (a, b) (m, n) e) in
    let both : true ≡ false = sym (and_from (a == m) (b == n) (eq-eqb a m first) (eq-eqb b n second)) ∙ f in absurd (cc)
test_by a b m n false true e f =
    let parts : ((a == m) ≡ true) × ((b == n) ≡ true) = and_parts (a == m) (b == n) f in
    let yes : is_same (a, b) (m, n) ≡ true
    = ap (λ (k : ℕ). is_same (a, b) (k, n)) (sym (eqb-true a m parts.0)) ∙ ap (λ (k : ℕ). is_same (a, b) (a, k)) (sym (eqb-true b n parts.1)) ∙ self_same (a, b) in
    let both : false ≡ true = sym e ∙ yes in absurd (cc)

same_test : (a b m n : ℕ) → is_same (a, b) (m, n) ≡ ((a == m) && (b == n))
same_test a b m n = test_by a b m n (is_same (a, b) (m, n)) ((a == m) && (b == n)) refl refl

and_one : (b : Bool) → (b && true) ≡ b
and_one true = refl
and_one false = refl

or_no : (b : Bool) → (b || false) ≡ b
or_no true = refl
or_no false = refl

restricted : (own q : Attempt → Bool) (o : Option Attempt) → holds own o ≡ false → holds (λ (a : Attempt). own a && q a) o ≡ false
restricted own q None e = refl
restricted own q (Some a) e = and_left (own a) (q a) e

absent : {X : Type 0} (o : Option X) → is_some o ≡ false → o ≡ None
absent None e = refl
absent (Some x) e = absurd (cc)

poll_delay : (w : Option Bool) → unwrap_or (option_or w None) false ≡ says_yes w
poll_delay None = refl
poll_delay (Some b) = refl

-- two tests that agree at one number, and at all others
each_by : (p q : ℕ → Bool) (n : ℕ) → p n ≡ q n → ((k : ℕ) → (k == n) ≡ false → q k ≡ p k) → (k : ℕ) (b : Bool) → (k == n) ≡ b → p k ≡ q k
each_by p q n here off k true e = let at : k ≡ n = eqb-true k n e in ap p at ∙ here ∙ sym (ap q at)
each_by p q n here off k false e = sym (off k e)

each : (p q : ℕ → Bool) (n : ℕ) → p n ≡ q n → ((k : ℕ) → (k == n) ≡ false → q k ≡ p k) → (k : ℕ) → p k ≡ q k
each p q n here off k = each_by p q n here off k (k == n) refl

-- one pair more, of a number of its own
module _ (comes : PairsComeIn) (same : TestsAreSame) (n : ℕ) where
  inserted : (pairs : List (ℕ × ℕ)) (old new : ℕ → ℕ → Bool) (m : ℕ) → PairsAreExactly pairs old → ((a : ℕ) → old a n ≡ false) → ((a : ℕ) → new a n ≡ (a == m))
      → ((a k : ℕ) → (k == n) ≡ false → new a k ≡ old a k) → PairsAreExactly (insert_key pair_cmp pairs (m, n)) new
  inserted pairs old new m e none here off =
      same (insert_key pair_cmp pairs (m, n)) (λ a b. is_same (a, b) (m, n) || old a b) new (comes pairs old (m, n) e)
      (λ a b.
      each (λ (j : ℕ). is_same (a, j) (m, n) || old a j) (λ (j : ℕ). new a j) n
      (ap (λ (c : Bool). c || old a n) (same_test a n m n ∙ ap (λ (c : Bool). (a == m) && c) (eq-eqb n n refl) ∙ and_one (a == m)) ∙ ap (λ (c : Bool). (a == m) || c) (none a)
      ∙ or_no (a == m) ∙ sym (here a))
      (λ k away. off a k away ∙ sym (ap (λ (c : Bool). c || old a k) (same_test a k m n ∙ and_right (a == m) (k == n) away))) b)

module _ (comes : PairsComeIn) (same : TestsAreSame) (o : OpenEntry) (z : Seen) (request : RequestSeen) (x : StateSeen) (h : SeesSets x (before o z request))
    (apart : SetsApart (number o z request) (before o z request) (later o z request)) (unowned : list_any (is_of (new_call o z request)) z.attempts ≡ false)
    (undue : due_of (later o z request) (new_call o z request) ≡ None) where
  abbrev s : Seen
  s = before o z request

  abbrev t : Seen
  t = later o z request

  abbrev c : Call
  c = new_call o z request

  abbrev n : ℕ
  n = number o z request

  none_before : numbered z.calls n ≡ None
  none_before = absent (numbered z.calls n) (beyond z.calls)

  here_now : numbered (z.calls ++ c ∷ []) n ≡ Some c
  here_now = last_is z.calls c

  waits_not : (u : Seen) (row : ℕ) → holds (λ (a : Attempt). (a.row.call == n) && is_queued a u) (numbered z.attempts row) ≡ false
  waits_not u row = restricted (is_of c) (λ (a : Attempt). is_queued a u) (numbered z.attempts row) (none_at (is_of c) z.attempts row unowned)

  queue_now : PairsAreExactly x.queue (is_in_queue t)
  queue_now =
      same x.queue (is_in_queue s) (is_in_queue t) h.queue
      (λ k row.
      each (λ (j : ℕ). is_in_queue s j row) (λ (j : ℕ). is_in_queue t j row) n
      (and_left (is_waiting s n row) (not (is_ready_waiter s n)) (waits_not s row) ∙ sym (and_left (is_waiting t n row) (not (is_ready_waiter t n)) (waits_not t row)))
      (λ j away. apart.queue j row away) k)

  wait_for_ready_now : PairsAreExactly x.ready_waiters (is_in_ready_waiters t)
  wait_for_ready_now =
      same x.ready_waiters (is_in_ready_waiters s) (is_in_ready_waiters t) h.ready_waiters
      (λ k row.
      each (λ (j : ℕ). is_in_ready_waiters s j row) (λ (j : ℕ). is_in_ready_waiters t j row) n
      (and_left (is_waiting s n row) (is_ready_waiter s n) (waits_not s row) ∙ sym (and_left (is_waiting t n row) (is_ready_waiter t n) (waits_not t row)))
      (λ j away. apart.ready_waiters j row away) k)

  due_before : (m : ℕ) → is_in_dues s m n ≡ false
  due_before m = ap (holds (λ (d : Call). is_number m (due_of s d))) none_before

  due_now : (m : ℕ) → is_in_dues t m n ≡ false
  due_now m = ap (holds (λ (d : Call). is_number m (due_of t d))) here_now ∙ ap (is_number m) undue

  dues_now : PairsAreExactly x.dues (is_in_dues t)
  dues_now =
      same x.dues (is_in_dues s) (is_in_dues t) h.dues
      (λ m k. each (λ (j : ℕ). is_in_dues s m j) (λ (j : ℕ). is_in_dues t m j) n (due_before m ∙ sym (due_now m)) (λ j away. apart.dues m j away) k)

  deadline_before : (m : ℕ) → is_in_deadlines s m n ≡ false
  deadline_before m = ap (holds (λ (d : Call). is_number m (deadline_of s d))) none_before

  deadlines_by : (d : Option ℕ) → deadline_of t c ≡ d → PairsAreExactly (timer_moved n None d x.deadlines) (is_in_deadlines t)
  deadlines_by None is =
      same x.deadlines (is_in_deadlines s) (is_in_deadlines t) h.deadlines
      (λ m k.
      each (λ (j : ℕ). is_in_deadlines s m j) (λ (j : ℕ). is_in_deadlines t m j) n
      (deadline_before m ∙ sym (ap (holds (λ (d : Call). is_number m (deadline_of t d))) here_now ∙ ap (is_number m) is))
      (λ j away. apart.deadlines m j away) k)
  deadlines_by (Some moment) is =
      inserted comes same n x.deadlines (is_in_deadlines s) (is_in_deadlines t) moment h.deadlines deadline_before
      (λ a. ap (holds (λ (d : Call). is_number a (deadline_of t d))) here_now ∙ ap (is_number a) is ∙ equal_back a moment (a == moment) refl)
      (λ a k away. apart.deadlines a k away)

  unconfigured_before : (a : ℕ) → is_awaiting_config s a n ≡ false
  unconfigured_before a =
      ap (λ (b : Option Call). (a == 0) && holds (λ (d : Call). is_open_call d && is_none d.config) b) none_before ∙ and_right (a == 0) false refl

  unconfigured_here : (a : ℕ) → is_awaiting_config t a n ≡ (a == 0)
  unconfigured_here a = ap (λ (b : Option Call). (a == 0) && holds (λ (d : Call). is_open_call d && is_none d.config) b) here_now ∙ and_one (a == 0)

  unconfigured_now : PairsAreExactly (insert_key pair_cmp x.awaiting_config (0, n)) (is_awaiting_config t)
  unconfigured_now = inserted comes same n x.awaiting_config (is_awaiting_config s) (is_awaiting_config t) 0 h.awaiting_config unconfigured_before unconfigured_here (λ a k away. apart.awaiting_config a k away)

  wait_for_ready_is : is_ready_waiter t n ≡ says_yes request.wait
  wait_for_ready_is = ap (holds (λ (d : Call). waits_for_ready d t)) here_now ∙ poll_delay request.wait

  fail_fast_before : (a : ℕ) → is_in_fail_fast s a n ≡ false
  fail_fast_before a = and_left (is_awaiting_config s a n) (not (is_ready_waiter s n)) (unconfigured_before a)

  fail_fast_by : (b : Bool) → says_yes request.wait ≡ b → PairsAreExactly (if b then x.fail_fast else insert_key pair_cmp x.fail_fast (0, n)) (is_in_fail_fast t)
  fail_fast_by true is =
      same x.fail_fast (is_in_fail_fast s) (is_in_fail_fast t) h.fail_fast
      (λ a k.
      each (λ (j : ℕ). is_in_fail_fast s a j) (λ (j : ℕ). is_in_fail_fast t a j) n
      (fail_fast_before a ∙ sym (ap (λ (b : Bool). is_awaiting_config t a n && not b) (wait_for_ready_is ∙ is) ∙ and_right (is_awaiting_config t a n) false refl))
      (λ j away. apart.fail_fast a j away) k)
  fail_fast_by false is =
      inserted comes same n x.fail_fast (is_in_fail_fast s) (is_in_fail_fast t) 0 h.fail_fast fail_fast_before
      (λ a. ap (λ (b : Bool). is_awaiting_config t a n && not b) (wait_for_ready_is ∙ is) ∙ and_one (is_awaiting_config t a n) ∙ unconfigured_here a) (λ a k away. apart.fail_fast a k away)

  pub sets_now : (y : StateSeen) (d : Option ℕ) → deadline_of t c ≡ d → y ≡ begun_with n d request x → SeesSets y t
  sets_now y d is same_state =
      subst (λ (v : StateSeen). SeesSets v t) (sym same_state)
      (record {
        queue = queue_now;
        ready_waiters = wait_for_ready_now;
        dues = dues_now;
        deadlines = deadlines_by d is;
        awaiting_config = unconfigured_now;
        fail_fast = fail_fast_by (says_yes request.wait) refl;
        outstanding = record { rising = h.outstanding.rising; exact = h.outstanding.exact };
        resets = h.resets;
      })
