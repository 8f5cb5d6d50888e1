-- Which attempt the channel serves next, by its sets: one of the session that waits, and stands after the one before. And where it serves none, the session
-- asks for none.
use Rattle.std.proofs.Common.{◌≡◌, ◌&&◌, ◌||◌, ◌==◌, ◌∙◌, ◌∷◌, ap, arith, cond, refl, sym, Bool, true, false, List, [], None, Option, Some, ℕ, zero, suc, ◌⊎◌, inl, inr, filter, find, if◌then◌else◌, nat_lt, not, slice_get}
use Rattle.std.proofs.lemmas.Bool.{and_from, and_parts}
use Rattle.std.proofs.lemmas.Bool.Decides.{nat_tests}
use Rattle.std.specs.Option.{option_map}
use Rattle.std.specs.Prelude.{option_and_then}
use Rattle.channel_actions.proofs.KeptSessions.Lists.{counted_places, own_number}
use Rattle.channel_actions.proofs.Links.Settings.Pairs.{same_is, self_same}
use Rattle.channel_actions.specs.Agrees.{Agrees}
use Rattle.channel_actions.specs.Sets.{is_in_ready_waiters, is_in_queue, is_ready_waiter, is_waiting}
use Rattle.channel_net.specs.Steps.{net_state}
use Rattle.channel_core.specs.States.{StateSeen}
use Rattle.channel_core.specs.Steps.{next_served, served_in}
use Rattle.channel_core.specs.Timing.{first_pair}
use Rattle.grpc_base.specs.declared.event.Conn.{Conn}
use Rattle.grpc_base.specs.declared.event.Conn.TheVariants as conn
use Rattle.net_actions.specs.Laws.{StatesAreSame}
use Rattle.picker_gate.specs.Pairs.{has, comes_after, is_same, next_after}
use Rattle.session_actions.specs.Attempts.{call_of, is_queued}
use Rattle.session_actions.specs.Configs.{waits_for_ready}
use Rattle.session_actions.specs.Policies.{asking, current_policy, is_queued_before, is_served, is_served_by, next_asked, policy_state}
use Rattle.session_actions.specs.Words.{foremost, holds, numbered}
use Rattle.session_actions.specs.declared.attempt.Attempt.{Attempt}
use Rattle.session_actions.specs.declared.call.Call.{Call}
use Rattle.session_actions.specs.declared.policy.PolicyUse.{PolicyUse}
use Rattle.session_actions.specs.declared.seen.Seen.{Seen}

-- the first pair that passes a test
none_by : (test : ℕ × ℕ → Bool) (p q : ℕ × ℕ) (pairs : List (ℕ × ℕ)) (b c : Bool) → test p ≡ b → is_same q p ≡ c
    → (find test pairs ≡ None → has pairs q ≡ true → test q ≡ false) → cond b (Some p) (find test pairs) ≡ None → (c || has pairs q) ≡ true → test q ≡ false
none_by test p q pairs true c is at rest e there = absurd (let bad : Some p ≡ None = e in (cc))
none_by test p q pairs false true is at rest e there = ap test (same_is q p at) ∙ is
none_by test p q pairs false false is at rest e there = rest e there

pub none_found : (test : ℕ × ℕ → Bool) (pairs : List (ℕ × ℕ)) (q : ℕ × ℕ) → find test pairs ≡ None → has pairs q ≡ true → test q ≡ false
none_found test [] q e there = absurd (let bad : false ≡ true = there in (cc))
none_found test (p ∷ pairs) q e there = none_by test p q pairs (test p) (is_same q p) refl refl (none_found test pairs q) e there

or_left : (b : Bool) → (b || true) ≡ true
or_left true = refl
or_left false = refl

found_by : (test : ℕ × ℕ → Bool) (p q : ℕ × ℕ) (pairs : List (ℕ × ℕ)) (b : Bool) → test p ≡ b
    → (find test pairs ≡ Some q → (test q ≡ true) × (has pairs q ≡ true)) → cond b (Some p) (find test pairs) ≡ Some q
    → (test q ≡ true) × ((is_same q p || has pairs q) ≡ true)
found_by test p q pairs true is rest e =
    let same : p ≡ q = (cc) in
    (ap test (sym same) ∙ is, ap (λ (z : ℕ × ℕ). is_same z p || has pairs z) (sym same) ∙ ap (λ (b : Bool). b || has pairs p) (self_same p))
found_by test p q pairs false is rest e =
    let more = rest e in (more.0, ap (λ (b : Bool). is_same q p || b) more.1 ∙ or_left (is_same q p))

pub first_found : (test : ℕ × ℕ → Bool) (pairs : List (ℕ × ℕ)) (q : ℕ × ℕ) → find test pairs ≡ Some q → (test q ≡ true) × (has pairs q ≡ true)
first_found test [] q e = absurd (let bad : None ≡ Some q = e in (cc))
first_found test (p ∷ pairs) q e = found_by test p q pairs (test p) refl (first_found test pairs q) e

-- of two
pick_none : (b : Bool) (p q : ℕ × ℕ) → (if b then Some p else Some q) ≡ None → ⊥
pick_none true p q e = (cc)
pick_none false p q e = (cc)

neither : (a b : Option (ℕ × ℕ)) → first_pair a b ≡ None → (a ≡ None) × (b ≡ None)
neither None None e = (refl, refl)
neither None (Some q) e = absurd (let bad : Some q ≡ None = e in (cc))
neither (Some p) None e = absurd (let bad : Some p ≡ None = e in (cc))
neither (Some p) (Some q) e = absurd (pick_none (nat_lt p.0 q.0 || ((p.0 == q.0) && nat_lt p.1 q.1)) p q e)

pick_one : (b : Bool) (p q r : ℕ × ℕ) → (if b then Some p else Some q) ≡ Some r → (p ≡ r) ⊎ (q ≡ r)
pick_one true p q r e = inl (cc)
pick_one false p q r e = inr (cc)

pub one_of : (a b : Option (ℕ × ℕ)) (r : ℕ × ℕ) → first_pair a b ≡ Some r → (a ≡ Some r) ⊎ (b ≡ Some r)
one_of None None r e = absurd (let bad : None ≡ Some r = e in (cc))
one_of None (Some q) r e = inr e
one_of (Some p) None r e = inl e
one_of (Some p) (Some q) r e =
    elim (pick_one (nat_lt p.0 q.0 || ((p.0 == q.0) && nat_lt p.1 q.1)) p q r e) [
      | inl same ↦ inl (ap (λ (z : ℕ × ℕ). Some z) same)
      | inr same ↦ inr (ap (λ (z : ℕ × ℕ). Some z) same)
    ]

-- an attempt that waits, by its call and place
pub record Waits (p : ℕ × ℕ) (s : Seen) : Type 0 where
  pub attempt : Attempt
  pub there : numbered s.attempts p.1 ≡ Some attempt
  pub call : attempt.row.call ≡ p.0
  pub queued : is_queued attempt s ≡ true

equal_numbers : (n m : ℕ) → (n == m) ≡ true → n ≡ m
equal_numbers n m e = grind (arith, nat_tests)

equal_is : (n m : ℕ) → n ≡ m → (n == m) ≡ true
equal_is n m e = grind (arith, nat_tests)

waits_in : (p : ℕ × ℕ) (s : Seen) (o : Option Attempt) → numbered s.attempts p.1 ≡ o → holds (λ (a : Attempt). (a.row.call == p.0) && is_queued a s) o ≡ true → Waits p s
waits_in p s None at e = absurd (let bad : false ≡ true = e in (cc))
waits_in p s (Some a) at e =
    let both = and_parts (a.row.call == p.0) (is_queued a s) e in
    record { attempt = a; there = at; call = equal_numbers a.row.call p.0 both.0; queued = both.1 }

pub waits_of : (p : ℕ × ℕ) (s : Seen) → is_waiting s p.0 p.1 ≡ true → Waits p s
waits_of p s e = waits_in p s (numbered s.attempts p.1) refl e

-- which pair of the channel's sets is served
module _ (x : StateSeen) (s : Seen) (h : Agrees x s) where
  in_queue : (last p : ℕ × ℕ) → next_after x.queue last ≡ Some p → (comes_after last p ≡ true) × (Waits p s)
  in_queue last p e =
      let found = first_found (comes_after last) x.queue p e in
      let test : is_in_queue s p.0 p.1 ≡ true = sym (h.sets.queue.exact p.0 p.1) ∙ found.1 in
      (found.0, waits_of p s (and_parts (is_waiting s p.0 p.1) (not (is_ready_waiter s p.0)) test).0)

  in_ready_waiters : (last p : ℕ × ℕ) → next_after x.ready_waiters last ≡ Some p → (comes_after last p ≡ true) × (Waits p s)
  in_ready_waiters last p e =
      let found = first_found (comes_after last) x.ready_waiters p e in
      let test : is_in_ready_waiters s p.0 p.1 ≡ true = sym (h.sets.ready_waiters.exact p.0 p.1) ∙ found.1 in
      (found.0, waits_of p s (and_parts (is_waiting s p.0 p.1) (is_ready_waiter s p.0) test).0)

  in_either : (last p : ℕ × ℕ) → first_pair (next_after x.queue last) (next_after x.ready_waiters last) ≡ Some p → (comes_after last p ≡ true) × (Waits p s)
  in_either last p e =
      elim (one_of (next_after x.queue last) (next_after x.ready_waiters last) p e) [
        | inl one ↦ in_queue last p one
        | inr one ↦ in_ready_waiters last p one
      ]

  waits_by : (o : Option Conn) (last p : ℕ × ℕ) → served_in o last x ≡ Some p → (comes_after last p ≡ true) × (Waits p s)
  waits_by None last p e = absurd (let bad : None ≡ Some p = e in (cc))
  waits_by (Some conn.Idle) last p e = absurd (let bad : None ≡ Some p = e in (cc))
  waits_by (Some conn.Connecting) last p e = absurd (let bad : None ≡ Some p = e in (cc))
  waits_by (Some conn.Ready) last p e = in_either last p e
  waits_by (Some conn.Failure) last p e = in_queue last p e
  waits_by (Some conn.Shutdown) last p e = absurd (let bad : None ≡ Some p = e in (cc))

  pub next_waits : (last p : ℕ × ℕ) → next_served last x ≡ Some p → (comes_after last p ≡ true) × (Waits p s)
  next_waits last p e = waits_by (net_state x.net) last p e

  -- none is served where none waits after the last one
  module _ (last : ℕ × ℕ) (a : Attempt) (own : numbered s.attempts a.place ≡ Some a) (queued : is_queued a s ≡ true) (afterwards : comes_after last (a.row.call, a.place) ≡ true) where
    waiting : is_waiting s a.row.call a.place ≡ true
    waiting =
        ap (holds (λ (b : Attempt). (b.row.call == a.row.call) && is_queued b s)) own
        ∙ and_from (a.row.call == a.row.call) (is_queued a s) (equal_is a.row.call a.row.call refl) queued

    not_in_queue : next_after x.queue last ≡ None → is_ready_waiter s a.row.call ≡ false → ⊥
    not_in_queue e off =
        let test : is_in_queue s a.row.call a.place ≡ true = and_from (is_waiting s a.row.call a.place) (not (is_ready_waiter s a.row.call)) waiting (ap not off) in
        let there : has x.queue (a.row.call, a.place) ≡ true = h.sets.queue.exact a.row.call a.place ∙ test in
        let bad : true ≡ false = sym afterwards ∙ none_found (comes_after last) x.queue (a.row.call, a.place) e there in
        (cc)

    not_in_wait_for_ready : next_after x.ready_waiters last ≡ None → is_ready_waiter s a.row.call ≡ true → ⊥
    not_in_wait_for_ready e on =
        let test : is_in_ready_waiters s a.row.call a.place ≡ true = and_from (is_waiting s a.row.call a.place) (is_ready_waiter s a.row.call) waiting on in
        let there : has x.ready_waiters (a.row.call, a.place) ≡ true = h.sets.ready_waiters.exact a.row.call a.place ∙ test in
        let bad : true ≡ false = sym afterwards ∙ none_found (comes_after last) x.ready_waiters (a.row.call, a.place) e there in
        (cc)

    not_ready : (b : Bool) → is_ready_waiter s a.row.call ≡ b → first_pair (next_after x.queue last) (next_after x.ready_waiters last) ≡ None → ⊥
    not_ready true is e = not_in_wait_for_ready (neither (next_after x.queue last) (next_after x.ready_waiters last) e).1 is
    not_ready false is e = not_in_queue (neither (next_after x.queue last) (next_after x.ready_waiters last) e).0 is

    -- a call that does not wait for ready is no ready waiter
    fail_fast : (o : Option Call) → call_of a s ≡ o → holds (λ (c : Call). not (waits_for_ready c s)) o ≡ true → is_ready_waiter s a.row.call ≡ false
    fail_fast None is e = absurd (let bad : false ≡ true = e in (cc))
    fail_fast (Some c) is e = ap (holds (λ (d : Call). waits_for_ready d s)) is ∙ flipped (waits_for_ready c s) e
      where
        flipped : (b : Bool) → not b ≡ true → b ≡ false
        flipped true e = absurd (let bad : false ≡ true = e in (cc))
        flipped false e = refl

    none_state : (o : Option Conn) → served_in o last x ≡ None → holds (λ (c : Conn). is_served_by c a s) o ≡ true → ⊥
    none_state None e served = (let bad : false ≡ true = served in (cc))
    none_state (Some conn.Idle) e served = (let bad : false ≡ true = served in (cc))
    none_state (Some conn.Connecting) e served = (let bad : false ≡ true = served in (cc))
    none_state (Some conn.Ready) e served = not_ready (is_ready_waiter s a.row.call) refl e
    none_state (Some conn.Failure) e served = not_in_queue e (fail_fast (call_of a s) refl served)
    none_state (Some conn.Shutdown) e served = (let bad : false ≡ true = served in (cc))

policy_holds : (s : Seen) (a : Attempt) (o : Option PolicyUse)
    → holds (λ (g : PolicyUse). is_served_by (policy_state g s) a s) o ≡ holds (λ (c : Conn). is_served_by c a s) (option_map (λ (g : PolicyUse). policy_state g s) o)
policy_holds s a None = refl
policy_holds s a (Some g) = refl

-- of all attempts
none_passes : {X : Type 0} (p : X → Bool) (xs : List X) → ((i : ℕ) (y : X) → slice_get xs i ≡ Some y → p y ≡ false) → filter p xs ≡ []
none_passes p [] each = refl
none_passes p (y ∷ xs) each =
    ap (λ (b : Bool). cond b (y ∷ filter p xs) (filter p xs)) (each zero y refl) ∙ none_passes p xs (λ i z e. each (suc i) z e)

two_off : (b c : Bool) → (b ≡ true → c ≡ true → ⊥) → (b && c) ≡ false
two_off true true never = absurd (never refl refl)
two_off true false never = refl
two_off false c never = refl

pub none_asks : (state : StatesAreSame) (x : StateSeen) (s : Seen) (h : Agrees x s) (last : ℕ × ℕ) (test : Attempt → Bool)
    → ((a : Attempt) (i : ℕ) → a.place ≡ suc i → test a ≡ true → comes_after last (a.row.call, a.place) ≡ true) → next_served last x ≡ None → next_asked test s ≡ None
none_asks state x s h last test afterwards e =
    let each : (i : ℕ) (a : Attempt) → slice_get s.attempts i ≡ Some a → (is_served s a && test a) ≡ false
    = λ i a got. two_off (is_served s a) (test a) (λ served passes.
    let both = and_parts (is_queued a s) (holds (λ (g : PolicyUse). is_served_by (policy_state g s) a s) (current_policy s)) served in
    let own : numbered s.attempts a.place ≡ Some a = own_number (λ (b : Attempt). b.place) s.attempts i a h.kept.attempts got in
    let at : a.place ≡ suc i = counted_places (λ (b : Attempt). b.place) s.attempts h.kept.attempts (suc i) a got in
    let now : holds (λ (c : Conn). is_served_by c a s) (net_state x.net) ≡ true
    = sym (ap (holds (λ (c : Conn). is_served_by c a s)) (state s x.net h.net)) ∙ sym (policy_holds s a (current_policy s)) ∙ both.1 in
    none_state x s h last a own both.0 (afterwards a i at passes) (net_state x.net) e now) in
    let none : filter (λ (a : Attempt). is_served s a && test a) s.attempts ≡ [] = none_passes (λ (a : Attempt). is_served s a && test a) s.attempts each in
    ap (λ (l : List Attempt). option_and_then (asking s) (foremost is_queued_before l)) none
