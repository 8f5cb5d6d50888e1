-- Where nothing is due of calls and attempts, they stay as they are: none gets a config, none ends, no attempt is made, and none asks.
use Rattle.std.proofs.Common.{◌≡◌, ◌&&◌, ◌-◌, ◌<◌, ◌==◌, ◌∷◌, ap, arith, refl, sym, ◌∙◌, Bool, true, false, List, [], Option, None, Some, ℕ, zero, suc, cond, if◌then◌else◌, filter, is_none, is_some, not, slice_get}
use Rattle.std.proofs.lemmas.Bool.{and_parts}
use Rattle.std.proofs.lemmas.Bool.Decides.{nat_tests}
use Rattle.std.specs.Option.{option_map}
use Rattle.std.specs.Prelude.{nat_le, option_and_then}
use Rattle.channel_actions.proofs.Outstanding.{any_of, same_self}
use Rattle.channel_actions.proofs.Gone.{all_numbered}
use Rattle.channel_actions.proofs.Quiet.{or_parts_none}
use Rattle.channel_actions.proofs.States.{unconfigured}
use Rattle.channel_actions.specs.Agrees.{Agrees}
use Rattle.channel_actions.specs.Calls.{due_of}
use Rattle.channel_actions.specs.Cases.{IsIdle}
use Rattle.channel_actions.specs.Sets.{PairsAreExactly, is_awaiting_config, is_in_dues, is_in_fail_fast, is_in_ready_waiters, is_in_queue, is_ready_waiter, is_waiting}
use Rattle.channel_core.proofs.Idling.{nothing_made}
use Rattle.channel_core.proofs.SettlingLaws.{passed_step, rounds_step}
use Rattle.channel_core.specs.Settling.{also, most, passed, passed_on, queue_served, round, round_on, rounds, rounds_on, stays}
use Rattle.channel_core.specs.States.{StateSeen}
use Rattle.channel_core.specs.Steps.{all_configured, all_unconfigured, unconfigured_served, next_served, round_made, served_in}
use Rattle.channel_core.specs.Timing.{due_keys, first_pair, later}
use Rattle.grpc_base.specs.declared.event.Conn.{Conn}
use Rattle.grpc_base.specs.declared.event.Conn.TheVariants as conn
use Rattle.lb_policy.specs.Table.{pick_of}
use Rattle.net_actions.specs.Laws.{StatesAreSame}
use Rattle.picker_gate.specs.Pairs.{first_due, is_same, next_after}
use Rattle.service_config.specs.declared.config.Config.{Config}
use Rattle.session_actions.specs.Actions.{config_action}
use Rattle.session_actions.specs.Attempts.{call_of, is_queued}
use Rattle.session_actions.specs.Calls.{is_open_call}
use Rattle.session_actions.specs.Configs.{held_config, is_to_configure, is_unconfigured, waits_for_ready}
use Rattle.session_actions.specs.CallEnds.{lacks_config}
use Rattle.session_actions.specs.DueAttempts.{next_due}
use Rattle.session_actions.specs.Entries.{now}
use Rattle.session_actions.specs.Making.{due_action, due_attempt, due_if_past}
use Rattle.session_actions.specs.Policies.{asking, current_policy, is_queued_before, is_served, is_served_by, policy_of, policy_state}
use Rattle.session_actions.specs.Words.{earlier, first_of, foremost, holds, is_number, numbered}
use Rattle.session_actions.specs.declared.action.Action.{Action}
use Rattle.session_actions.specs.declared.action.Action.TheVariants as action
use Rattle.session_actions.specs.declared.attempt.Attempt.{Attempt}
use Rattle.session_actions.specs.declared.call.Call.{Call}
use Rattle.session_actions.specs.declared.config.HeldConfig.{HeldConfig}
use Rattle.session_actions.specs.declared.policy.PolicyUse.{PolicyUse}
use Rattle.session_actions.specs.declared.seen.Seen.{Seen}

-- where the first of all is nothing, each is
none_first : {X Y : Type 0} (f : X → Option Y) (xs : List X) (i : ℕ) (x : X) → first_of f xs ≡ None → slice_get xs i ≡ Some x → f x ≡ None
none_first f [] i x h e = absurd (cc)
none_first f (y ∷ xs) zero x h e = let one : y ≡ x = (cc) in ap f (sym one) ∙ (or_parts_none (f y) (first_of f xs) h).0
none_first f (y ∷ xs) (suc i) x h e = none_first f xs i x (or_parts_none (f y) (first_of f xs) h).1 e

none_at : {X Y : Type 0} (f : X → Option Y) (xs : List X) (n : ℕ) (x : X) → first_of f xs ≡ None → numbered xs n ≡ Some x → f x ≡ None
none_at f xs zero x h e = absurd (cc)
none_at f xs (suc i) x h e = none_first f xs i x h e

-- a set of which no pair passes its test is empty
empty_by : (pairs : List (ℕ × ℕ)) (test : ℕ → ℕ → Bool) → PairsAreExactly pairs test → ((a b : ℕ) → test a b ≡ true → ⊥) → pairs ≡ []
empty_by [] test exact none = refl
empty_by (p ∷ pairs) test exact none =
    absurd (none p.0 p.1 (sym (exact.exact p.0 p.1) ∙ any_of (is_same p) (p ∷ pairs) zero p refl (same_self p)))

not_some : {X : Type 0} (b : Bool) (z : X) → (if b then Some z else None) ≡ None → b ≡ false
not_some true z e = absurd (cc)
not_some false z e = refl

pub equal_moment : (n m : ℕ) → (n == m) ≡ true → n ≡ m
equal_moment n m h = grind (arith, nat_tests)

-- none of a list passes a test
kept_none : {X : Type 0} (p : X → Bool) (y : X) (xs : List X) (b : Bool) → p y ≡ b → cond b (y ∷ filter p xs) (filter p xs) ≡ [] → (b ≡ false) × (filter p xs ≡ [])
kept_none p y xs true e h = absurd (cc)
kept_none p y xs false e h = (refl, h)

filter_none : {X : Type 0} (p : X → Bool) (xs : List X) (i : ℕ) (x : X) → filter p xs ≡ [] → slice_get xs i ≡ Some x → p x ≡ false
filter_none p [] i x h e = absurd (cc)
filter_none p (y ∷ xs) zero x h e = let one : y ≡ x = (cc) in ap p (sym one) ∙ (kept_none p y xs (p y) refl h).0
filter_none p (y ∷ xs) (suc i) x h e = filter_none p xs i x (kept_none p y xs (p y) refl h).1 e

pub filter_none_at : {X : Type 0} (p : X → Bool) (xs : List X) (n : ℕ) (x : X) → filter p xs ≡ [] → numbered xs n ≡ Some x → p x ≡ false
filter_none_at p xs zero x h e = absurd (cc)
filter_none_at p xs (suc i) x h e = filter_none p xs i x h e

none_foremost : {X Y : Type 0} (before : X → X → Bool) (f : X → Option Y) (xs : List X) → ((x : X) → f x ≡ None → ⊥) → option_and_then f (foremost before xs) ≡ None → xs ≡ []
none_foremost before f [] some h = refl
none_foremost before f (y ∷ xs) some h = absurd (some (earlier before y (foremost before xs)) h)

no_config : (a b c : Bool) → c ≡ true → (a && b) ≡ true → (a && b && c) ≡ false → ⊥
no_config true true true e f g = absurd (cc)
no_config true true false e f g = absurd (cc)
no_config true false c e f g = absurd (cc)
no_config false b c e f g = absurd (cc)

no_lack : (a b c : Bool) → a ≡ true → b ≡ true → c ≡ true → (a && b && c) ≡ false → ⊥
no_lack true true true e f g k = absurd (cc)
no_lack true true false e f g k = absurd (cc)
no_lack true false c e f g k = absurd (cc)
no_lack false b c e f g k = absurd (cc)

none_of : {X : Type 0} (o : Option X) → is_some o ≡ false → o ≡ None
none_of None e = refl
none_of (Some z) e = absurd (cc)

some_most : 0 < most
some_most = omega arith

module _ (x : StateSeen) (s : Seen) (h : Agrees x s) (idle : IsIdle x s) where
  -- no attempt is due
  past_not : (c : Call) (m : ℕ) (o : Option ℕ) → next_due c s ≡ o → is_number m o ≡ true → option_and_then (due_if_past c s) o ≡ None → nat_le m (now s) ≡ false
  past_not c m None e is none = absurd (cc)
  past_not c m (Some n) e is none =
      ap (λ (k : ℕ). nat_le k (now s)) (sym (equal_moment n m is)) ∙ not_some (nat_le n (now s)) (due_attempt c s n) none

  due_not : (c : Call) (m : ℕ) (b : Bool) → is_open_call c ≡ b → is_number m (if b then next_due c s else None) ≡ true
      → (if b then option_and_then (due_if_past c s) (next_due c s) else None) ≡ None → nat_le m (now s) ≡ false
  due_not c m true e is none = past_not c m (next_due c s) refl is none
  due_not c m false e is none = absurd (cc)

  dues_not : (m n : ℕ) (o : Option Call) → numbered s.calls n ≡ o → holds (λ (c : Call). is_number m (due_of s c)) o ≡ true → nat_le m (now s) ≡ false
  dues_not m n None e is = absurd (cc)
  dues_not m n (Some c) e is = due_not c m (is_open_call c) refl is (none_at (due_action s) s.calls n c idle.due e)

  first_not : (dues : List (ℕ × ℕ)) → PairsAreExactly dues (is_in_dues s) → None ≡ first_due dues x.book.moment
  first_not [] exact = refl
  first_not (t ∷ ts) exact =
      let in_set : is_in_dues s t.0 t.1 ≡ true = sym (exact.exact t.0 t.1) ∙ any_of (is_same t) (t ∷ ts) zero t refl (same_self t) in
      let late : nat_le t.0 x.book.moment ≡ false = ap (nat_le t.0) (sym h.clock.moment) ∙ dues_not t.0 t.1 (numbered s.calls t.1) refl in_set in
      sym (ap (λ (b : Bool). if b then Some t else None) late)

  made_not : round_made x ≡ stays x
  made_not = nothing_made x (first_not x.dues h.sets.dues)

  -- no call gets a config, or ends for want of one
  neither : (a b : Bool) (u v : Action) → (if a then Some u else if b then Some v else None) ≡ None → (a ≡ false) × (b ≡ false)
  neither true b u v e = absurd (cc)
  neither false true u v e = absurd (cc)
  neither false false u v e = (refl, refl)

  config_not : (n : ℕ) (c : Call) → numbered s.calls n ≡ Some c → (is_to_configure s c ≡ false) × (lacks_config s c ≡ false)
  config_not n c e = neither (is_to_configure s c) (lacks_config s c) _ _ (none_at (config_action s) s.calls n c idle.configs e)

  unconfigured_by : is_some (held_config s) ≡ true → (a n : ℕ) (o : Option Call) → numbered s.calls n ≡ o
      → ((a == 0) && holds (λ (c : Call). is_open_call c && is_none c.config) o) ≡ true → ⊥
  unconfigured_by held a n None e in_set = absurd (let bad = (and_parts (a == 0) false in_set).1 in (cc))
  unconfigured_by held a n (Some c) e in_set =
      let awaiting_config : (is_open_call c && is_none c.config) ≡ true = (and_parts (a == 0) (is_open_call c && is_none c.config) in_set).1 in
      let not_so : is_to_configure s c ≡ false = (config_not n c e).0 in
      no_config (is_open_call c) (is_none c.config) (is_some (held_config s)) held awaiting_config not_so

  some_held : (o : Option HeldConfig) → held_config s ≡ o → is_some x.held ≡ true → is_some (held_config s) ≡ true
  some_held None e held = absurd (let bad : is_some x.held ≡ false = ap (λ (z : Option Config). is_some z) (sym h.configs.held ∙ ap (option_map (λ (z : HeldConfig). z.config)) e) in (cc))
  some_held (Some k) e held = ap (λ (z : Option HeldConfig). is_some z) e

  held_unconfigured : is_some x.held ≡ true → x.awaiting_config ≡ []
  held_unconfigured held = empty_by x.awaiting_config (is_awaiting_config s) h.sets.awaiting_config (λ a n in_set. unconfigured_by (some_held (held_config s) refl held) a n (numbered s.calls n) refl in_set)

  held_fail_fast : is_some x.held ≡ true → x.fail_fast ≡ []
  held_fail_fast held =
      empty_by x.fail_fast (is_in_fail_fast s) h.sets.fail_fast
      (λ a n in_set. unconfigured_by (some_held (held_config s) refl held) a n (numbered s.calls n) refl (and_parts (is_awaiting_config s a n) (not (is_ready_waiter s n)) in_set).0)

  fail_fast_by : is_unconfigured s ≡ true → (a n : ℕ) (o : Option Call) → numbered s.calls n ≡ o
      → (((a == 0) && holds (λ (c : Call). is_open_call c && is_none c.config) o) && not (holds (λ (c : Call). waits_for_ready c s) o)) ≡ true → ⊥
  fail_fast_by awaiting_config a n None e in_set = absurd (let bad = (and_parts (a == 0) false (and_parts ((a == 0) && false) true in_set).0).1 in (cc))
  fail_fast_by awaiting_config a n (Some c) e in_set =
      let both = and_parts ((a == 0) && (is_open_call c && is_none c.config)) (not (waits_for_ready c s)) in_set in
      let unended : is_open_call c ≡ true = (and_parts (is_open_call c) (is_none c.config) (and_parts (a == 0) (is_open_call c && is_none c.config) both.0).1).0 in
      no_lack (is_open_call c) (is_unconfigured s) (not (waits_for_ready c s)) unended awaiting_config both.1 (config_not n c e).1

  unconfigured_cases : (held unconfigured : Bool) → is_some x.held ≡ held → x.unconfigured ≡ unconfigured
      → (if held then all_configured (due_keys 0 x.awaiting_config) (record x { awaiting_config = later 0 x.awaiting_config; fail_fast = [] })
      else if unconfigured then all_unconfigured (due_keys 0 x.fail_fast) (record x { fail_fast = later 0 x.fail_fast })
      else x) ≡ x
  unconfigured_cases true unconfigured e f =
      ap (λ (l : List (ℕ × ℕ)). all_configured (due_keys 0 l) (record x { awaiting_config = later 0 l; fail_fast = [] })) (held_unconfigured e)
      ∙ ap (λ (l : List (ℕ × ℕ)). record x { awaiting_config = l; fail_fast = [] }) (sym (held_unconfigured e)) ∙ ap (λ (l : List (ℕ × ℕ)). record x { fail_fast = l }) (sym (held_fail_fast e))
  unconfigured_cases false true e f =
      let none : x.fail_fast ≡ []
      = empty_by x.fail_fast (is_in_fail_fast s) h.sets.fail_fast
      (λ a n in_set. fail_fast_by (unconfigured x s h (none_of x.held e) ∙ f) a n (numbered s.calls n) refl in_set) in
      ap (λ (l : List (ℕ × ℕ)). all_unconfigured (due_keys 0 l) (record x { fail_fast = later 0 l })) none ∙ ap (λ (l : List (ℕ × ℕ)). record x { fail_fast = l }) (sym none)
  unconfigured_cases false false e f = refl

  pub unconfigured_idle : unconfigured_served x ≡ x
  unfolding unconfigured_served
  unconfigured_idle = unconfigured_cases (is_some x.held) x.unconfigured refl refl

  -- no attempt is served
  module _ (g : PolicyUse) (current : current_policy s ≡ Some g) where
    asks : (a : Attempt) → asking s a ≡ None → ⊥
    asks a e = absurd (let bad = sym (ap (option_map (λ (g : PolicyUse). action.PickRequested a.place g.number (pick_of (policy_of g s)))) current) ∙ e in (cc))

    served_none : filter (λ (a : Attempt). is_served s a && true) s.attempts ≡ []
    served_none = none_foremost is_queued_before (asking s) (filter (λ (a : Attempt). is_served s a && true) s.attempts) asks idle.queue

    served_not : (n : ℕ) (a : Attempt) → numbered s.attempts n ≡ Some a → is_queued a s ≡ true → is_served_by (policy_state g s) a s ≡ true → ⊥
    served_not n a e queued by =
        let not_so : (is_served s a && true) ≡ false = filter_none_at (λ (q : Attempt). is_served s q && true) s.attempts n a served_none e in
        let served : is_served s a ≡ true
        = ap (λ (b : Bool). b && holds (λ (k : PolicyUse). is_served_by (policy_state k s) a s) (current_policy s)) queued
        ∙ ap (holds (λ (k : PolicyUse). is_served_by (policy_state k s) a s)) current ∙ by in
        absurd (let bad : true ≡ false = sym (ap (λ (b : Bool). b && true) served) ∙ not_so in (cc))

    waiting_not : ((a : Attempt) (n : ℕ) → numbered s.attempts n ≡ Some a → is_queued a s ≡ true → (call : ℕ) → (a.row.call == call) ≡ true → not (is_ready_waiter s call) ≡ true → is_served_by (policy_state g s) a s ≡ true)
        → (call row : ℕ) (o : Option Attempt) → numbered s.attempts row ≡ o → holds (λ (a : Attempt). (a.row.call == call) && is_queued a s) o ≡ true → not (is_ready_waiter s call) ≡ true → ⊥
    waiting_not by call row None e in_set ready_waiters = absurd (cc)
    waiting_not by call row (Some a) e in_set ready_waiters =
        let both = and_parts (a.row.call == call) (is_queued a s) in_set in
        served_not row a e both.1 (by a row e both.1 call both.0 ready_waiters)

    waiting_none : (policy_state g s ≡ conn.Ready) → (call row : ℕ) (o : Option Attempt) → numbered s.attempts row ≡ o
        → holds (λ (a : Attempt). (a.row.call == call) && is_queued a s) o ≡ true → ⊥
    waiting_none ready call row None e in_set = absurd (cc)
    waiting_none ready call row (Some a) e in_set =
        served_not row a e (and_parts (a.row.call == call) (is_queued a s) in_set).1 (ap (λ (c : Conn). is_served_by c a s) ready)

    ready_queue : (policy_state g s ≡ conn.Ready) → x.queue ≡ []
    ready_queue ready =
        empty_by x.queue (is_in_queue s) h.sets.queue
        (λ call row in_set. waiting_none ready call row (numbered s.attempts row) refl (and_parts (is_waiting s call row) (not (is_ready_waiter s call)) in_set).0)

    ready_wait_for_ready : (policy_state g s ≡ conn.Ready) → x.ready_waiters ≡ []
    ready_wait_for_ready ready =
        empty_by x.ready_waiters (is_in_ready_waiters s) h.sets.ready_waiters
        (λ call row in_set. waiting_none ready call row (numbered s.attempts row) refl (and_parts (is_waiting s call row) (is_ready_waiter s call) in_set).0)

    unpatient : (a : Attempt) (o : Option Call) → is_some o ≡ true → not (holds (λ (c : Call). waits_for_ready c s) o) ≡ true → holds (λ (c : Call). not (waits_for_ready c s)) o ≡ true
    unpatient a None some waits = absurd (cc)
    unpatient a (Some c) some waits = waits

    failing_by : (policy_state g s ≡ conn.Failure) → (a : Attempt) (n : ℕ) → numbered s.attempts n ≡ Some a → is_queued a s ≡ true → (call : ℕ) → (a.row.call == call) ≡ true
        → not (is_ready_waiter s call) ≡ true → is_served_by (policy_state g s) a s ≡ true
    failing_by failing a n e queued call own ready_waiters =
        ap (λ (c : Conn). is_served_by c a s) failing
        ∙ unpatient a (numbered s.calls a.row.call) (all_numbered (λ (q : Attempt). is_some (call_of q s)) s.attempts n a e h.kept.owned)
        (ap (λ (k : ℕ). not (is_ready_waiter s k)) (equal_moment a.row.call call own) ∙ ready_waiters)

    failing_queue : (policy_state g s ≡ conn.Failure) → x.queue ≡ []
    failing_queue failing =
        empty_by x.queue (is_in_queue s) h.sets.queue
        (λ call row in_set. waiting_not (failing_by failing) call row (numbered s.attempts row) refl
        (and_parts (is_waiting s call row) (not (is_ready_waiter s call)) in_set).0 (and_parts (is_waiting s call row) (not (is_ready_waiter s call)) in_set).1)

    by_state : (c : Conn) → policy_state g s ≡ c → served_in (Some c) (0, 0) x ≡ None
    by_state conn.Idle e = refl
    by_state conn.Connecting e = refl
    by_state conn.Ready e =
        ap (λ (l : List (ℕ × ℕ)). first_pair (next_after l (0, 0)) (next_after x.ready_waiters (0, 0))) (ready_queue e)
        ∙ ap (λ (l : List (ℕ × ℕ)). first_pair None (next_after l (0, 0))) (ready_wait_for_ready e)
    by_state conn.Failure e = ap (λ (l : List (ℕ × ℕ)). next_after l (0, 0)) (failing_queue e)
    by_state conn.Shutdown e = refl

  module _ (states : StatesAreSame) where
    served_by_policy : (o : Option PolicyUse) → current_policy s ≡ o → next_served (0, 0) x ≡ None
    served_by_policy None e =
        ap (λ (c : Option Conn). served_in c (0, 0) x) (sym (states s x.net h.net) ∙ ap (option_map (λ (g : PolicyUse). policy_state g s)) e)
    served_by_policy (Some g) e =
        ap (λ (c : Option Conn). served_in c (0, 0) x) (sym (states s x.net h.net) ∙ ap (option_map (λ (g : PolicyUse). policy_state g s)) e)
        ∙ by_state g e (policy_state g s) refl

    none_served : next_served (0, 0) x ≡ None
    none_served = served_by_policy (current_policy s) refl

    queue_idle : queue_served x ≡ stays x
    queue_idle = passed_step most 0 (0, 0) (stays x) some_most ∙ ap (λ (o : Option (ℕ × ℕ)). passed_on (passed (most - 1)) o (stays x)) none_served

    round_idle : round x ≡ stays x
    round_idle = ap round_on made_not ∙ ap (also false) queue_idle

    pub rounds_idle : rounds most x ≡ x
    rounds_idle = rounds_step most 0 x some_most ∙ ap (rounds_on (rounds (most - 1))) round_idle
