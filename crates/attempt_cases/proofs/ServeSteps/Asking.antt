-- Whom the channel serves next asks next: of the attempts that wait after the last one it is the foremost that can be served.
use Rattle.std.proofs.Common.{◌≡◌, ◌&&◌, ◌||◌, ◌==◌, ◌∙◌, ◌∷◌, inl, inr, ap, arith, refl, sym, Bool, true, false, [], None, Option, Some, ℕ, zero, suc, filter, is_some, nat_lt, not, slice_get}
use Rattle.std.proofs.lemmas.Bool.{and_from, and_parts}
use Rattle.std.proofs.lemmas.Bool.Decides.{nat_tests}
use Rattle.std.specs.Option.{option_map}
use Rattle.std.specs.Prelude.{option_and_then}
use Rattle.channel_actions.proofs.Gone.{all_numbered}
use Rattle.channel_actions.proofs.KeptSessions.Lists.{counted_places, own_number}
use Rattle.channel_actions.proofs.Settles.{follows_by}
use Rattle.channel_actions.specs.Agrees.{Agrees}
use Rattle.channel_actions.specs.Quiescent.{IsAt}
use Rattle.channel_actions.specs.Sets.{is_in_queue, is_ready_waiter, is_waiting}
use Rattle.attempt_cases.proofs.PassActions.Queue.{Waits, first_found, next_waits, none_found}
use Rattle.attempt_cases.proofs.ServeSteps.Order.{IsForemost, IsOrder, foremost_is, least_found, left_least, none_left, right_least}
use Rattle.attempt_cases.specs.PassActions.Serves.{IsBeginning, IsPassing, turn_of}
use Rattle.attempt_cases.specs.ServeSteps.Laws.{AskNext, AsksFollow, answer_for}
use Rattle.channel_core.specs.States.{StateSeen}
use Rattle.channel_core.specs.Steps.{next_served, served_in}
use Rattle.channel_core.specs.Timing.{first_pair}
use Rattle.channel_net.specs.Steps.{net_state}
use Rattle.grpc_base.specs.declared.event.Conn.{Conn}
use Rattle.grpc_base.specs.declared.event.Conn.TheVariants as conn
use Rattle.net_actions.specs.Laws.{StatesAreSame}
use Rattle.picker_gate.specs.Pairs.{has, comes_after, next_after}
use Rattle.session_actions.specs.Actions.{config_action, first_action, following, following_in, of_calls, of_links, of_policies, of_stage}
use Rattle.session_actions.specs.Attempts.{call_of, is_queued, of_its_call}
use Rattle.session_actions.specs.Configs.{waits_for_ready}
use Rattle.session_actions.specs.Making.{next_due_attempt}
use Rattle.session_actions.specs.Policies.{asking, current_policy, is_after, is_queued_before, is_served, is_served_by, next_asked, next_of_pass, next_of_queue, next_take_over, policy_state}
use Rattle.session_actions.specs.Subchannels.{next_connected, next_of_clock}
use Rattle.session_actions.specs.Words.{first_of, foremost, holds, numbered}
use Rattle.session_actions.specs.declared.action.Action.{Action}
use Rattle.session_actions.specs.declared.action.Action.TheVariants as action
use Rattle.session_actions.specs.declared.attempt.Attempt.{Attempt}
use Rattle.session_actions.specs.declared.call.Call.{Call}
use Rattle.session_actions.specs.declared.entry.OpenEntry.{OpenEntry}
use Rattle.session_actions.specs.declared.entry.Stage.TheVariants as stage
use Rattle.session_actions.specs.declared.entry.Turn.{Turn}
use Rattle.session_actions.specs.declared.policy.PolicyUse.{PolicyUse}
use Rattle.session_actions.specs.declared.seen.Seen.{Seen}

equal_is : (n m : ℕ) → n ≡ m → (n == m) ≡ true
equal_is n m e = grind (arith, nat_tests)

-- the order of the queue
self_by : (c r : ℕ) → (nat_lt c c || ((c == c) && nat_lt r r)) ≡ false
self_by c r = grind (arith, nat_tests)

back_by : (c r d q : ℕ) → (nat_lt c d || ((c == d) && nat_lt r q)) ≡ true → (nat_lt d c || ((d == c) && nat_lt q r)) ≡ false
back_by c r d q e = grind (arith, nat_tests)

through_by : (c r d q f t : ℕ) → (nat_lt c d || ((c == d) && nat_lt r q)) ≡ false → (nat_lt d f || ((d == f) && nat_lt q t)) ≡ false
    → (nat_lt c f || ((c == f) && nat_lt r t)) ≡ false
through_by c r d q f t e g = grind (arith, nat_tests)

in_order : IsOrder is_queued_before
in_order = record {
  self = λ a. self_by a.row.call a.place;
  back = λ a b. back_by a.row.call a.place b.row.call b.place;
  through = λ a b c. through_by a.row.call a.place b.row.call b.place c.row.call c.place;
}

-- two pairs of which neither stands before the other are one
one_place : (c r d q : ℕ) → (nat_lt c d || ((c == d) && nat_lt r q)) ≡ false → comes_after (d, q) (c, r) ≡ false → r ≡ q
one_place c r d q e f = grind (arith, nat_tests)

policy_holds : (s : Seen) (a : Attempt) (o : Option PolicyUse)
    → holds (λ (g : PolicyUse). is_served_by (policy_state g s) a s) o ≡ holds (λ (c : Conn). is_served_by c a s) (option_map (λ (g : PolicyUse). policy_state g s) o)
policy_holds s a None = refl
policy_holds s a (Some g) = refl

flipped : (b : Bool) → not b ≡ true → b ≡ false
flipped true e = absurd (let bad : false ≡ true = e in (cc))
flipped false e = refl

-- a call that is there, and is no ready waiter, does not wait for ready
fail_fast_by : (s : Seen) (a : Attempt) (o : Option Call) → call_of a s ≡ o → is_some o ≡ true → is_ready_waiter s a.row.call ≡ false
    → of_its_call (λ (c : Call). not (waits_for_ready c s)) a s ≡ true
fail_fast_by s a None is there off = absurd (let bad : false ≡ true = there in (cc))
fail_fast_by s a (Some c) is there off =
    ap (holds (λ (d : Call). not (waits_for_ready d s))) is ∙ ap not (sym (ap (holds (λ (d : Call). waits_for_ready d s)) is) ∙ off)

module _ (x : StateSeen) (s : Seen) (h : Agrees x s) where
  -- an attempt that waits is served
  fail_fast : (p : ℕ × ℕ) (w : Waits p s) → is_ready_waiter s p.0 ≡ false → is_served_by conn.Failure w.attempt s ≡ true
  fail_fast p w off =
      fail_fast_by s w.attempt (call_of w.attempt s) refl (all_numbered (λ (a : Attempt). is_some (call_of a s)) s.attempts p.1 w.attempt w.there h.kept.owned)
      (ap (is_ready_waiter s) w.call ∙ off)

  unpatient : (last p : ℕ × ℕ) → next_after x.queue last ≡ Some p → is_ready_waiter s p.0 ≡ false
  unpatient last p e =
      let found = first_found (comes_after last) x.queue p e in
      let test : is_in_queue s p.0 p.1 ≡ true = sym (h.sets.queue.exact p.0 p.1) ∙ found.1 in
      flipped (is_ready_waiter s p.0) (and_parts (is_waiting s p.0 p.1) (not (is_ready_waiter s p.0)) test).1

  served_by : (o : Option Conn) (last p : ℕ × ℕ) (w : Waits p s) → served_in o last x ≡ Some p → holds (λ (c : Conn). is_served_by c w.attempt s) o ≡ true
  served_by None last p w e = absurd (let bad : None ≡ Some p = e in (cc))
  served_by (Some conn.Idle) last p w e = absurd (let bad : None ≡ Some p = e in (cc))
  served_by (Some conn.Connecting) last p w e = absurd (let bad : None ≡ Some p = e in (cc))
  served_by (Some conn.Ready) last p w e = refl
  served_by (Some conn.Failure) last p w e = fail_fast p w (unpatient last p e)
  served_by (Some conn.Shutdown) last p w e = absurd (let bad : None ≡ Some p = e in (cc))

  -- none that is served stands before it
  module _ (last p : ℕ × ℕ) (a : Attempt) (own : numbered s.attempts a.place ≡ Some a) (queued : is_queued a s ≡ true) (afterwards : comes_after last (a.row.call, a.place) ≡ true) where
    abbrev q : ℕ × ℕ
    q = (a.row.call, a.place)

    waiting : is_waiting s a.row.call a.place ≡ true
    waiting =
        ap (holds (λ (b : Attempt). (b.row.call == a.row.call) && is_queued b s)) own
        ∙ and_from (a.row.call == a.row.call) (is_queued a s) (equal_is a.row.call a.row.call refl) queued

    in_queue : is_ready_waiter s a.row.call ≡ false → has x.queue q ≡ true
    in_queue off = h.sets.queue.exact a.row.call a.place ∙ and_from (is_waiting s a.row.call a.place) (not (is_ready_waiter s a.row.call)) waiting (ap not off)

    in_ready_waiters : is_ready_waiter s a.row.call ≡ true → has x.ready_waiters q ≡ true
    in_ready_waiters on = h.sets.ready_waiters.exact a.row.call a.place ∙ and_from (is_waiting s a.row.call a.place) (is_ready_waiter s a.row.call) waiting on

    queue_least : (o : Option (ℕ × ℕ)) → next_after x.queue last ≡ o → is_ready_waiter s a.row.call ≡ false → first_pair o (next_after x.ready_waiters last) ≡ Some p
        → comes_after q p ≡ false
    queue_least None e off first =
        absurd (let bad : true ≡ false = sym afterwards ∙ none_found (comes_after last) x.queue q e (in_queue off) in (cc))
    queue_least (Some r) e off first = left_least q r p (next_after x.ready_waiters last) (least_found last r q x.queue h.sets.queue.rising e afterwards (in_queue off)) first

    wait_for_ready_least : (o : Option (ℕ × ℕ)) → next_after x.ready_waiters last ≡ o → is_ready_waiter s a.row.call ≡ true → first_pair (next_after x.queue last) o ≡ Some p
        → comes_after q p ≡ false
    wait_for_ready_least None e on first =
        absurd (let bad : true ≡ false = sym afterwards ∙ none_found (comes_after last) x.ready_waiters q e (in_ready_waiters on) in (cc))
    wait_for_ready_least (Some r) e on first = right_least q r p (next_after x.queue last) (least_found last r q x.ready_waiters h.sets.ready_waiters.rising e afterwards (in_ready_waiters on)) first

    ready_least : (b : Bool) → is_ready_waiter s a.row.call ≡ b → first_pair (next_after x.queue last) (next_after x.ready_waiters last) ≡ Some p → comes_after q p ≡ false
    ready_least true on e = wait_for_ready_least (next_after x.ready_waiters last) refl on e
    ready_least false off e = queue_least (next_after x.queue last) refl off e

    -- a call that does not wait for ready is no ready waiter
    not_wait_for_ready : (o : Option Call) → call_of a s ≡ o → holds (λ (c : Call). not (waits_for_ready c s)) o ≡ true → is_ready_waiter s a.row.call ≡ false
    not_wait_for_ready None is e = absurd (let bad : false ≡ true = e in (cc))
    not_wait_for_ready (Some c) is e = ap (holds (λ (d : Call). waits_for_ready d s)) is ∙ flipped (waits_for_ready c s) e

    state_least : (o : Option Conn) → served_in o last x ≡ Some p → holds (λ (c : Conn). is_served_by c a s) o ≡ true → comes_after q p ≡ false
    state_least None e on = absurd (let bad : false ≡ true = on in (cc))
    state_least (Some conn.Idle) e on = absurd (let bad : false ≡ true = on in (cc))
    state_least (Some conn.Connecting) e on = absurd (let bad : false ≡ true = on in (cc))
    state_least (Some conn.Ready) e on = ready_least (is_ready_waiter s a.row.call) refl e
    state_least (Some conn.Failure) e on = least_found last p q x.queue h.sets.queue.rising e afterwards (in_queue (not_wait_for_ready (call_of a s) refl on))
    state_least (Some conn.Shutdown) e on = absurd (let bad : false ≡ true = on in (cc))

module _ (state : StatesAreSame) (last p : ℕ × ℕ) (x : StateSeen) (s : Seen) (h : Agrees x s) (e : next_served last x ≡ Some p) where
  found : (comes_after last p ≡ true) × (Waits p s)
  found = next_waits x s h last p e

  abbrev a : Attempt
  a = found.1.attempt

  state_is : option_map (λ (g : PolicyUse). policy_state g s) (current_policy s) ≡ net_state x.net
  state_is = state s x.net h.net

  served : holds (λ (g : PolicyUse). is_served_by (policy_state g s) a s) (current_policy s) ≡ true
  served =
      policy_holds s a (current_policy s) ∙ ap (holds (λ (c : Conn). is_served_by c a s)) state_is
      ∙ served_by x s h (net_state x.net) last p found.1 e

  is_served_now : is_served s a ≡ true
  is_served_now = and_from (is_queued a s) (holds (λ (g : PolicyUse). is_served_by (policy_state g s) a s) (current_policy s)) found.1.queued served

  place : a.place ≡ p.1
  place = counted_places (λ (b : Attempt). b.place) s.attempts h.kept.attempts p.1 a found.1.there

  -- the attempts that pass a test of their pass, which stand after the last one
  module _ (test : Attempt → Bool) (afterwards : (b : Attempt) (i : ℕ) → b.place ≡ suc i → test b ≡ true → comes_after last (b.row.call, b.place) ≡ true)
      (passes : test a ≡ true) where
    abbrev both_tests : Attempt → Bool
    both_tests b = is_served s b && test b

    own_test : both_tests a ≡ true
    own_test = and_from (is_served s a) (test a) is_served_now passes

    own_index : (n : ℕ) → numbered s.attempts n ≡ Some a → (i : ℕ) × (slice_get s.attempts i ≡ Some a)
    own_index zero got = absurd (let bad : None ≡ Some a = got in (cc))
    own_index (suc i) got = (i, got)

    same_at : (m : Attempt) → IsForemost is_queued_before both_tests s.attempts m → m ≡ a
    same_at m f =
        let parts = and_parts (is_served s m) (test m) f.passes in
        let queue = and_parts (is_queued m s) (holds (λ (g : PolicyUse). is_served_by (policy_state g s) m s) (current_policy s)) parts.0 in
        let own : numbered s.attempts m.place ≡ Some m = own_number (λ (b : Attempt). b.place) s.attempts f.index m h.kept.attempts f.there in
        let at : m.place ≡ suc f.index = counted_places (λ (b : Attempt). b.place) s.attempts h.kept.attempts (suc f.index) m f.there in
        let now : holds (λ (c : Conn). is_served_by c m s) (net_state x.net) ≡ true
        = sym (ap (holds (λ (c : Conn). is_served_by c m s)) state_is) ∙ sym (policy_holds s m (current_policy s)) ∙ queue.1 in
        let low : comes_after (m.row.call, m.place) p ≡ false
        = state_least x s h last p m own queue.0 (afterwards m f.index at parts.1) (net_state x.net) e now in
        let index = own_index p.1 found.1.there in
        let high : is_queued_before a m ≡ false = f.least index.0 a index.1 own_test in
        let lower : comes_after (m.row.call, m.place) (a.row.call, a.place) ≡ false
        = ap (λ (n : ℕ). comes_after (m.row.call, m.place) (n, a.place)) found.1.call ∙ ap (λ (n : ℕ). comes_after (m.row.call, m.place) (p.0, n)) place ∙ low in
        let one : a.place ≡ m.place = one_place a.row.call a.place m.row.call m.place high lower in
        let two : Some m ≡ Some a = sym own ∙ ap (numbered s.attempts) (sym one ∙ place) ∙ found.1.there in
        (cc)

    first_by : (o : Option Attempt) → foremost is_queued_before (filter both_tests s.attempts) ≡ o → o ≡ Some a
    first_by None none =
        let index = own_index p.1 found.1.there in absurd (none_left is_queued_before both_tests s.attempts index.0 a none index.1 own_test)
    first_by (Some m) some = ap (λ (b : Attempt). Some b) (same_at m (foremost_is is_queued_before in_order both_tests s.attempts m some))

    first : foremost is_queued_before (filter both_tests s.attempts) ≡ Some a
    first = first_by (foremost is_queued_before (filter both_tests s.attempts)) refl

    asks : (g : PolicyUse) → current_policy s ≡ Some g → next_asked test s ≡ Some (action.PickRequested p.1 g.number (answer_for g s))
    asks g is =
        ap (option_and_then (asking s)) first ∙ ap (option_map (λ (k : PolicyUse). action.PickRequested a.place k.number (answer_for k s))) is
        ∙ ap (λ (n : ℕ). Some (action.PickRequested n g.number (answer_for g s))) place

  -- a policy is current
  policy_by : (o : Option PolicyUse) → holds (λ (g : PolicyUse). is_served_by (policy_state g s) a s) o ≡ true → (g : PolicyUse) × (o ≡ Some g)
  policy_by None on = absurd (let bad : false ≡ true = on in (cc))
  policy_by (Some g) on = (g, refl)

  policy : (g : PolicyUse) × (current_policy s ≡ Some g)
  policy = policy_by (current_policy s) served

first_five : (a b c d e f g h : Option Action) (z : Action) → a ≡ None → b ≡ None → c ≡ None → d ≡ None → e ≡ Some z
    → first_action (a ∷ b ∷ c ∷ d ∷ e ∷ f ∷ g ∷ h ∷ []) ≡ Some z
first_five a b c d e f g h z p q r s u =
    ap (λ (w : Option Action). first_action (w ∷ b ∷ c ∷ d ∷ e ∷ f ∷ g ∷ h ∷ [])) p
    ∙ ap (λ (w : Option Action). first_action (w ∷ c ∷ d ∷ e ∷ f ∷ g ∷ h ∷ [])) q
    ∙ ap (λ (w : Option Action). first_action (w ∷ d ∷ e ∷ f ∷ g ∷ h ∷ [])) r ∙ ap (λ (w : Option Action). first_action (w ∷ e ∷ f ∷ g ∷ h ∷ [])) s
    ∙ ap (λ (w : Option Action). first_action (w ∷ f ∷ g ∷ h ∷ [])) u

first_seven : (a b c d e f g h : Option Action) (z : Action) → a ≡ None → b ≡ None → c ≡ None → d ≡ None → e ≡ None → f ≡ None → g ≡ Some z
    → first_action (a ∷ b ∷ c ∷ d ∷ e ∷ f ∷ g ∷ h ∷ []) ≡ Some z
first_seven a b c d e f g h z p q r s t u v =
    ap (λ (w : Option Action). first_action (w ∷ b ∷ c ∷ d ∷ e ∷ f ∷ g ∷ h ∷ [])) p
    ∙ ap (λ (w : Option Action). first_action (w ∷ c ∷ d ∷ e ∷ f ∷ g ∷ h ∷ [])) q
    ∙ ap (λ (w : Option Action). first_action (w ∷ d ∷ e ∷ f ∷ g ∷ h ∷ [])) r ∙ ap (λ (w : Option Action). first_action (w ∷ e ∷ f ∷ g ∷ h ∷ [])) s
    ∙ ap (λ (w : Option Action). first_action (w ∷ f ∷ g ∷ h ∷ [])) t ∙ ap (λ (w : Option Action). first_action (w ∷ g ∷ h ∷ [])) u
    ∙ ap (λ (w : Option Action). first_action (w ∷ h ∷ [])) v

first_after : (c i : ℕ) → comes_after (0, 0) (c, suc i) ≡ true
first_after c i = grind (arith, nat_tests)

after_afterwards : (p q : ℕ × ℕ) → (nat_lt p.0 q.0 || ((p.0 == q.0) && nat_lt p.1 q.1)) ≡ true → comes_after p q ≡ true
after_afterwards p q e = grind (arith, nat_tests)

afterwards_after : (p q : ℕ × ℕ) → comes_after p q ≡ true → (nat_lt p.0 q.0 || ((p.0 == q.0) && nat_lt p.1 q.1)) ≡ true
afterwards_after p q e = grind (arith, nat_tests)

module _ (state : StatesAreSame) (last p : ℕ × ℕ) (x : StateSeen) (o : OpenEntry) (s : Seen) (h : Agrees x s) (at : IsAt stage.Settling o s) (passing : IsPassing last o s)
    (e : next_served last x ≡ Some p) where
  abbrev g : PolicyUse
  g = (policy state last p x s h e).0

  abbrev b : Attempt
  b = (found state last p x s h e).1.attempt

  abbrev does_it : Action
  does_it = action.PickRequested p.1 g.number (answer_for g s)

  after_the_first : last ≡ (0, 0) → (c : Attempt) (i : ℕ) → c.place ≡ suc i → true ≡ true → comes_after last (c.row.call, c.place) ≡ true
  after_the_first zero_ c i is f =
      ap (λ (q : ℕ × ℕ). comes_after q (c.row.call, c.place)) zero_ ∙ ap (λ (n : ℕ). comes_after (0, 0) (c.row.call, n)) is ∙ first_after c.row.call i

  begins : IsBeginning last o s → of_stage o s stage.Settling ≡ Some does_it
  begins begin =
      first_seven (next_of_clock s) (next_take_over s) (next_connected s) (first_of (config_action s) s.calls) (next_of_pass o s) (next_due_attempt s) (next_of_queue s)
      (Some action.EntryCloses) does_it passing.clock passing.take_over passing.connected passing.configs begin.made.tended.pass begin.made.due
      (asks state last p x s h e (λ c. true) (after_the_first begin.none) refl g (policy state last p x s h e).1)

  own_after : is_after (turn_of last) b ≡ true
  own_after =
      afterwards_after last (b.row.call, b.place)
      (ap (λ (n : ℕ). comes_after last (n, b.place)) (found state last p x s h e).1.call ∙ ap (λ (n : ℕ). comes_after last (p.0, n)) (place state last p x s h e)
      ∙ (found state last p x s h e).0)

  goes_on : o.turn ≡ Some (turn_of last) → of_stage o s stage.Settling ≡ Some does_it
  goes_on turn =
      first_five (next_of_clock s) (next_take_over s) (next_connected s) (first_of (config_action s) s.calls) (next_of_pass o s) (next_due_attempt s) (next_of_queue s)
      (Some action.EntryCloses) does_it passing.clock passing.take_over passing.connected passing.configs
      (ap (option_and_then (λ (t : Turn). next_asked (is_after t) s)) turn
      ∙ asks state last p x s h e (is_after (turn_of last)) (λ c i is f. after_afterwards last (c.row.call, c.place) f) own_after g (policy state last p x s h e).1)

  stage_gives : of_stage o s o.stage ≡ Some does_it
  stage_gives =
      ap (of_stage o s) at.stage_is
      ∙ elim passing.begun [
        | inl begin ↦ begins begin
        | inr turn ↦ goes_on turn
      ]

  follows : following s ≡ Some does_it
  follows =
      ap (option_and_then (following_in s)) at.current
      ∙ follows_by (of_calls o s) (of_links o s) (of_policies o s) (of_stage o s o.stage) does_it at.quiescent.calls at.quiescent.links at.quiescent.policies stage_gives

  pub next : AskNext p s
  next = record {
    policy = g;
    current = (policy state last p x s h e).1;
    attempt = b;
    there = (found state last p x s h e).1.there;
    place = place state last p x s h e;
    call = (found state last p x s h e).1.call;
    queued = (found state last p x s h e).1.queued;
    served = sym (ap (holds (λ (k : PolicyUse). is_served_by (policy_state k s) b s)) (policy state last p x s h e).1) ∙ served state last p x s h e;
    next = follows;
  }

pub asks_follow : StatesAreSame → AsksFollow
asks_follow state last p x o s h at passing e = next state last p x o s h at passing e
