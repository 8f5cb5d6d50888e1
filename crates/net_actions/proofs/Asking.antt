-- The state of the channel, and pick requests, are the same in the session and in the net.
use Rattle.std.proofs.Common.{◌≡◌, ◌≤◌, ◌<◌, ◌+◌, ◌∷◌, ◌++◌, ◌==◌, ◌&&◌, nat_lt, ap, arith, refl, subst, sym, ◌∙◌, Bool, true, false, List, [], Option, None, Some, ℕ, if◌then◌else◌, is_some, length, cond}
use Rattle.std.proofs.lemmas.List.{length-append}
use Rattle.std.proofs.lemmas.Bool.{eq-eqb}
use Rattle.std.proofs.lemmas.Option.{same_Some}
use Rattle.std.specs.Prelude.{fold, sum_by}
use Rattle.std.specs.Option.{option_map}
use Rattle.attempt_ledger.specs.declared.ledger.Ask.{Ask}
use Rattle.grpc_base.specs.declared.address.Address.{Address}
use Rattle.lb_policy.specs.Steps.{turned}
use Rattle.lb_policy.specs.Table.{PolicySeen, pick_of, state_of}
use Rattle.policy_rack.specs.Steps.{changed, changed_of}
use Rattle.policy_rack.specs.Steps as rack
use Rattle.policy_rack.specs.declared.live.Live.{Live}
use Rattle.channel_net.specs.Askers.{answer_of, may_ask}
use Rattle.channel_net.specs.declared.replies.Asked.{Asked}
use Rattle.grpc_base.specs.declared.kind.Kind.{Kind}
use Rattle.grpc_base.specs.declared.kind.Pick.{Pick}
use Rattle.session_actions.specs.Entries.{entry}
use Rattle.channel_net.specs.Steps.{NetSeen, net_answer, net_asked}
use Rattle.net_actions.proofs.KindsKept.{kinds_changed_of, plain}
use Rattle.net_actions.proofs.Noting.{get_away, get_here}
use Rattle.net_actions.proofs.OwnLinks.{unlike}
use Rattle.net_actions.proofs.Uses.{UseAt, use_at, use_within}
use Rattle.net_actions.specs.Laws.{AsksAreAnswered, StatesAreSame}
use Rattle.net_actions.specs.Sees.{UsesAreApart, UsesAgree, IsUse, NoneAskedBeyond, Sees}
use Rattle.session_actions.specs.Policies.{current_policy, is_current, pending_policy, pick_requested, policy_of, policy_state, turns_of}
use Rattle.session_actions.specs.declared.policy.PolicyUse.{PolicyUse}
use Rattle.session_actions.specs.declared.seen.Seen.{Seen}

-- the state of the current policy
pub state_by : (s : Seen) (o : Option PolicyUse) (live : Option Live) (addresses : List Address) (policies : List PolicySeen)
    → IsUse o (option_map (λ (g : PolicyUse). policy_of g s) o) live addresses policies
    → option_map (λ (g : PolicyUse). policy_state g s) o ≡ option_map state_of (rack.policy_of policies live)
state_by s None None addresses policies u = refl
state_by s (Some g) (Some live) addresses policies u = ap (option_map state_of) (sym u.2)
state_by s None (Some live) addresses policies u = absurd u
state_by s (Some g) None addresses policies u = absurd u

pub states_are_same : StatesAreSame
states_are_same s n h = state_by s (current_policy s) n.asker.rack.current n.current n.asker.rack.policies h.current_is

abbrev asked_by : ℕ → Pick → Asked
asked_by generation pick = record { generation = generation; pick = pick }

-- one pick request more
counted_from : {X : Type 0} (f : X → ℕ) (k : ℕ) (xs : List X) (a : X) → fold (λ n x. n + f x) k (xs ++ a ∷ []) ≡ fold (λ n x. n + f x) k xs + f a
counted_from f k [] a = refl
counted_from f k (x ∷ xs) a = counted_from f (k + f x) xs a

counted : {X : Type 0} (f : X → ℕ) (xs : List X) (a : X) → sum_by f (xs ++ a ∷ []) ≡ sum_by f xs + f a
counted f xs a = counted_from f 0 xs a

abbrev pub with_ask : Ask → Seen → Seen
with_ask a s = record s { asks = s.asks ++ a ∷ [] }

one_if : (t : Bool) → t ≡ true → ◌≡◌ {A = ℕ} (cond t 1 0) 1
one_if true e = refl
one_if false e = absurd (cc)

none_if : (t : Bool) → t ≡ false → ◌≡◌ {A = ℕ} (cond t 1 0) 0
none_if true e = absurd (cc)
none_if false e = refl

more_turns : (s : Seen) (a : Ask) (g : PolicyUse) → (a.generation == g.number) ≡ true → policy_of g (with_ask a s) ≡ turned (policy_of g s)
more_turns s a g e =
    ap (λ (k : ℕ). record (policy_of g s) { turns = k })
    (counted (λ (x : Ask). cond (x.generation == g.number) 1 0) s.asks a ∙ ap (λ (k : ℕ). turns_of g s + k) (one_if (a.generation == g.number) e))

no_zero : (k : ℕ) → k + 0 ≡ k
no_zero k = omega arith

from_zero : (k : ℕ) → 0 + k ≡ k
from_zero k = omega arith

same_turns : (s : Seen) (a : Ask) (g : PolicyUse) → (a.generation == g.number) ≡ false → policy_of g (with_ask a s) ≡ policy_of g s
same_turns s a g e =
    ap (λ (k : ℕ). record (policy_of g s) { turns = k })
    (counted (λ (x : Ask). cond (x.generation == g.number) 1 0) s.asks a ∙ ap (λ (k : ℕ). turns_of g s + k) (none_if (a.generation == g.number) e)
    ∙ no_zero (turns_of g s))

-- the policies of the rack, one turn further
turned_current : (s : Seen) (a : Ask) (o : Option PolicyUse) (live : Option Live) (addresses : List Address) (policies : List PolicySeen)
    → ((g : PolicyUse) → o ≡ Some g → (a.generation == g.number) ≡ true)
    → IsUse o (option_map (λ (g : PolicyUse). policy_of g s) o) live addresses policies
    → IsUse o (option_map (λ (g : PolicyUse). policy_of g (with_ask a s)) o) live addresses (changed_of turned live policies)
turned_current s a None None addresses policies is u = u
turned_current s a (Some g) (Some live) addresses policies is u =
    (u.0, u.1, get_here turned policies live.place ∙ ap (option_map turned) u.2 ∙ ap (λ (p : PolicySeen). Some p) (sym (more_turns s a g (is g refl))), u.3)
turned_current s a None (Some live) addresses policies is u = absurd u
turned_current s a (Some g) None addresses policies is u = absurd u

still_pending : (s : Seen) (a : Ask) (o : Option PolicyUse) (live current : Option Live) (addresses : List Address) (policies : List PolicySeen)
    → ((c p : Live) → current ≡ Some c → live ≡ Some p → a.generation ≡ c.generation) → UsesAreApart current live
    → ((p : Live) → live ≡ Some p → (c : Live) × (current ≡ Some c))
    → IsUse o (option_map (λ (g : PolicyUse). policy_of g s) o) live addresses policies
    → IsUse o (option_map (λ (g : PolicyUse). policy_of g (with_ask a s)) o) live addresses (changed_of turned current policies)
still_pending s a None None current addresses policies of_it apart stands u = u
still_pending s a (Some g) (Some live) None addresses policies of_it apart stands u =
    absurd (let there : (c : Live) × (None ≡ Some c) = stands live refl in let bad : None ≡ Some there.0 = there.1 in let no_one : ⊥ = (cc) in no_one)
still_pending s a (Some g) (Some live) (Some c) addresses policies of_it apart stands u =
    let other : (a.generation == g.number) ≡ false
    = unlike a.generation g.number (λ e. apart.1 (sym (of_it c live refl refl) ∙ e ∙ u.0)) in
    (u.0, u.1, get_away turned policies c.place live.place (λ e. apart.0 (sym e)) ∙ u.2 ∙ ap (λ (p : PolicySeen). Some p) (sym (same_turns s a g other)), u.3)
still_pending s a None (Some live) current addresses policies of_it apart stands u = absurd u
still_pending s a (Some g) None current addresses policies of_it apart stands u = absurd u

-- the generation of the current policy
numbers_of : (s : Seen) (o : Option PolicyUse) (live : Option Live) (addresses : List Address) (policies : List PolicySeen) (g : PolicyUse) (c : Live)
    → IsUse o (option_map (λ (x : PolicyUse). policy_of x s) o) live addresses policies → o ≡ Some g → live ≡ Some c → g.number ≡ c.generation
numbers_of s None live addresses policies g c u e f = absurd (cc)
numbers_of s (Some x) None addresses policies g c u e f = absurd u
numbers_of s (Some x) (Some live) addresses policies g c u e f =
    sym (ap (λ (y : PolicyUse). y.number) (same_Some x g e)) ∙ u.0 ∙ ap (λ (y : Live). y.generation) (same_Some live c f)

-- the net may ask, and answers by the table
abbrev named : Live → PolicySeen → ℕ × Kind
named live p = (live.generation, p.kind)

abbrev is_live_by : Live → Option PolicySeen → Bool
is_live_by live q = is_some (option_map (named live) q)

may_be : (live : Option Live) (policies : List PolicySeen) (p : Option PolicySeen) (o : Option PolicyUse) (addresses : List Address) (g : PolicyUse) (asks : ℕ)
    → IsUse o p live addresses policies → o ≡ Some g → nat_lt asks 18446744073709551615 ≡ true
    → (is_some (rack.live_of policies live) && nat_lt asks 18446744073709551615) ≡ true
may_be live policies p None addresses g asks u e few = absurd (cc)
may_be None policies None (Some x) addresses g asks u e few = absurd u
may_be None policies (Some p) (Some x) addresses g asks u e few = absurd u
may_be (Some live) policies None (Some x) addresses g asks u e few = absurd u
may_be (Some live) policies (Some p) (Some x) addresses g asks u e few =
    ap (λ (q : Option PolicySeen). is_live_by live q && nat_lt asks 18446744073709551615) u.2 ∙ few

answer_is : (s : Seen) (live : Option Live) (policies : List PolicySeen) (pending : Option Live) (made : ℕ) (o : Option PolicyUse) (addresses : List Address) (g : PolicyUse)
    → IsUse o (option_map (λ (x : PolicyUse). policy_of x s) o) live addresses policies → o ≡ Some g
    → answer_of (record { policies = policies; current = live; pending = pending; made = made }) ≡ Some (record { generation = g.number; pick = pick_of (policy_of g s) })
answer_is s live policies pending made None addresses g u e = absurd (cc)
answer_is s None policies pending made (Some x) addresses g u e = absurd u
answer_is s (Some live) policies pending made (Some x) addresses g u e =
    ap (option_map (λ (p : PolicySeen). asked_by live.generation (pick_of p))) u.2
    ∙ ap (λ (k : ℕ). Some (asked_by k (pick_of (policy_of x s)))) (sym u.0)
    ∙ ap (λ (y : PolicyUse). Some (asked_by y.number (pick_of (policy_of y s)))) (same_Some x g e)

-- and none of those to come
asked_beyond : (s : Seen) (a : Ask) (g : PolicyUse) → UsesAgree s.policies → current_policy s ≡ Some g → a.generation ≡ g.number
    → NoneAskedBeyond (length s.policies) s.asks → NoneAskedBeyond (length s.policies) (s.asks ++ a ∷ [])
asked_beyond s a g h is of_it none number less =
    let at : UseAt s.policies g 1 = use_at s.policies is_current 1 g h.numbers is in
    let within : at.place < length s.policies = use_within s.policies at.place g at.own in
    let is_number : g.number ≡ 1 + at.place = at.number_is in
    let other : (a.generation == number) ≡ false = unlike a.generation number (λ e. omega (arith, e, of_it, is_number)) in
    counted (λ (x : Ask). cond (x.generation == number) 1 0) s.asks a
    ∙ ap (λ (k : ℕ). k + cond (a.generation == number) 1 0) (none number less) ∙ from_zero (cond (a.generation == number) 1 0)
    ∙ none_if (a.generation == number) other

one_counted : (n m k : ℕ) → n ≤ m → k ≡ m + 1 → n + 1 ≤ k
one_counted n m k e f = omega (arith, e, f)

-- a pick request of the current policy
pub asks_are_answered : AsksAreAnswered
asks_are_answered s n g row answer h beside few is =
    let rack_asks : may_ask n.asker ≡ true = may_be n.asker.rack.current n.asker.rack.policies (option_map (λ (x : PolicyUse). policy_of x s) (current_policy s)) (current_policy s) n.current g n.asker.asks h.current_is is few in
    let a : Ask = record { entry = entry s; generation = g.number; row = row; answer = answer } in
    let net : net_asked n ≡ record n { asker = record { rack = rack.asked n.asker.rack; asks = n.asker.asks + 1 } }
    = ap (λ (x : Bool). record n { asker = (if x then record { rack = rack.asked n.asker.rack; asks = n.asker.asks + 1 } else n.asker) }) rack_asks in
    let answered : net_answer n ≡ Some (record { generation = g.number; pick = pick_of (policy_of g s) })
    = ap (λ (x : Bool). if x then answer_of n.asker.rack else None) rack_asks
    ∙ answer_is s n.asker.rack.current n.asker.rack.policies n.asker.rack.pending n.asker.rack.made (current_policy s) n.current g h.current_is is in
    let after : Sees (with_ask a s) (record n { asker = record { rack = rack.asked n.asker.rack; asks = n.asker.asks + 1 } }) = record {
      subs_are = h.subs_are;
      beyond = h.beyond;
      uses_are = h.uses_are;
      made = h.made;
      kinds_are = kinds_changed_of turned (plain turned (λ p. (refl, refl))) s.setup.policies n.asker.rack.policies n.asker.rack.current h.kinds_are;
      unasked = asked_beyond s a g h.uses_are is refl h.unasked;
      counted = one_counted n.asker.asks (length s.asks) (length (s.asks ++ a ∷ [])) h.counted (length-append s.asks (a ∷ []));
      current_is = turned_current s a (current_policy s) n.asker.rack.current n.current n.asker.rack.policies
          (λ x e. (let one : g ≡ x = same_Some g x (sym is ∙ e) in eq-eqb g.number x.number (ap (λ (y : PolicyUse). y.number) one))) h.current_is;
      pending_is = still_pending s a (pending_policy s) n.asker.rack.pending n.asker.rack.current n.pending n.asker.rack.policies
          (λ c p e f. numbers_of s (current_policy s) n.asker.rack.current n.current n.asker.rack.policies g c h.current_is is e) h.apart (λ p e. beside p e) h.pending_is;
      apart = h.apart;
    } in
    (answered, subst (λ (m : NetSeen). Sees (pick_requested row g.number answer s) m) (sym net) after)
