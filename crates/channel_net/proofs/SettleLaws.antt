-- Nothing is left to do after the clock, and after a net settled.
use Rattle.std.proofs.Common.{◌≡◌, ◌+◌, ℕ, zero, suc, Bool, true, false, ◌&&◌, not, cond, if◌then◌else◌, find, Option, Some, None, List, [], ◌∷◌, slice_get, refl, ap, sym, subst, ◌∙◌, arith}
use Rattle.std.specs.List.{position_from}
use Rattle.std.proofs.lemmas.Option.{same_Some, none-some}
use Rattle.grpc_base.specs.declared.event.Conn.{Conn}
use Rattle.grpc_base.specs.declared.event.Conn.TheVariants as conn
use Rattle.subchannel.specs.Records.{SubRecord, is_due, is_idle, is_live, is_shut}
use Rattle.subchannel.specs.Boards.{numbered, first_number, passes_test}
use Rattle.subchannel.specs.Insides.{live_numbers}
use Rattle.policy_rack.specs.Steps.{RackSeen, may_take_over, may_follow, taken_over, state_in}
use Rattle.channel_net.specs.Steps as steps
use Rattle.channel_net.specs.Steps.{NetSeen, NetLeft, clocks_left, clock_round, clock_rounds, is_wished, idle_and_wished, first_wished, connected_at, connect_round, connect_rounds, idle_count, settle_round, settled_further, net_settled, net_taken_over, net_connected, left_of}
use Rattle.channel_net.specs.Laws as laws
use Rattle.channel_net.specs.Laws.{IsSettled}
use Rattle.channel_net.proofs.RoundLaws.{clock-ends, connect-ends}

-- a number at which a test fails
none-step : (p : SubRecord → Bool) (x : SubRecord) (n : ℕ) (b : Bool) (o : Option ℕ) → p x ≡ b → cond b (Some n) o ≡ None → (p x ≡ false) × (o ≡ None)
none-step p x n true o test e = let absurdity : ⊥ = (cc) in absurd absurdity
none-step p x n false o test e = (test, e)

none-at : (p : SubRecord → Bool) (subs : List SubRecord) (n i : ℕ) (s : SubRecord) → position_from p n subs ≡ None → slice_get subs i ≡ Some s → p s ≡ false
none-at p [] n i s e at = absurd (none-some s at)
none-at p (x ∷ subs) n zero s e at =
    ap p (sym (same_Some x s at)) ∙ (none-step p x n (p x) (position_from p (n + 1) subs) refl e).0
none-at p (x ∷ subs) n (suc i) s e at =
    none-at p subs (n + 1) i s (none-step p x n (p x) (position_from p (n + 1) subs) refl e).1 at

none-numbered : (p : SubRecord → Bool) (subs : List SubRecord) (k : ℕ) (s : SubRecord) → first_number p subs ≡ None → numbered subs k ≡ Some s → p s ≡ false
none-numbered p subs zero s e at = absurd (none-some s at)
none-numbered p subs (suc i) s e at = none-at p subs 1 i s e at

pub nothing-is-due : laws.NothingIsDue
nothing-is-due moment n number s at =
    none-numbered (is_due moment) (steps.net_clocked moment n).net.board number s (clock-ends moment (clocks_left n.board) (left_of n) refl) at

-- what a search through the live ones leaves
find-none : (p : ℕ → Bool) (x : ℕ) (xs : List ℕ) (b : Bool) → p x ≡ b → cond b (Some x) (find p xs) ≡ None → (p x ≡ false) × (find p xs ≡ None)
find-none p x xs true test e = let absurdity : ⊥ = (cc) in absurd absurdity
find-none p x xs false test e = (test, e)

if-live : (b : Bool) (p : ℕ → Bool) (n : ℕ) (xs : List ℕ) → find p (if b then n ∷ xs else xs) ≡ None → (b ≡ true → p n ≡ false) × (find p xs ≡ None)
if-live true p n xs e = let both = find-none p n xs (p n) refl e in ((λ h. both.0), both.1)
if-live false p n xs e = ((λ h. let absurdity : ⊥ = (cc) in absurd absurdity), e)

live-none : (p : ℕ → Bool) (subs : List SubRecord) (n i : ℕ) (s : SubRecord) → find p (live_numbers n subs) ≡ None → slice_get subs i ≡ Some s → is_live s ≡ true → p (n + i) ≡ false
live-none p [] n i s e at live = absurd (none-some s at)
live-none p (x ∷ subs) n zero s e at live =
    let here : is_live x ≡ true = ap is_live (same_Some x s at) ∙ live in
    let same : n ≡ n + 0 = omega arith in
    subst (λ (k : ℕ). p k ≡ false) same ((if-live (is_live x) p n (live_numbers (n + 1) subs) e).0 here)
live-none p (x ∷ subs) n (suc i) s e at live =
    let same : n + 1 + i ≡ n + suc i = omega arith in
    subst (λ (k : ℕ). p k ≡ false) same (live-none p subs (n + 1) i s (if-live (is_live x) p n (live_numbers (n + 1) subs) e).1 at live)

idle-is-live : (c : Conn) → c ≡ conn.Idle → (is_idle c ≡ true) × (not (is_shut c) ≡ true)
idle-is-live conn.Idle e = (refl, refl)
idle-is-live conn.Connecting e = let absurdity : ⊥ = (cc) in absurd absurdity
idle-is-live conn.Ready e = let absurdity : ⊥ = (cc) in absurd absurdity
idle-is-live conn.Failure e = let absurdity : ⊥ = (cc) in absurd absurdity
idle-is-live conn.Shutdown e = let absurdity : ⊥ = (cc) in absurd absurdity

and-false : (a b : Bool) → a ≡ true → (a && b) ≡ false → b ≡ false
and-false true b t e = e
and-false false b t e = let absurdity : ⊥ = (cc) in absurd absurdity

-- no IDLE subchannel is wished where the search finds none
pub connected-all : (n : NetSeen) → first_wished n ≡ None → (number : ℕ) (s : SubRecord) → numbered n.board number ≡ Some s → s.state ≡ conn.Idle → is_wished n.asker.rack number ≡ false
connected-all n e zero s at idle = absurd (none-some s at)
connected-all n e (suc i) s at idle =
    let both : (is_idle s.state ≡ true) × (not (is_shut s.state) ≡ true) = idle-is-live s.state idle in
    let test : idle_and_wished n (1 + i) ≡ false = live-none (idle_and_wished n) n.board 1 i s e at both.1 in
    let same : 1 + i ≡ suc i = omega arith in
    let here : (passes_test (λ (r : SubRecord). is_idle r.state) (slice_get n.board i) && is_wished n.asker.rack (suc i)) ≡ false =
    subst (λ (k : ℕ). idle_and_wished n k ≡ false) same test in
    let passing : passes_test (λ (r : SubRecord). is_idle r.state) (slice_get n.board i) ≡ true =
    ap (passes_test (λ (r : SubRecord). is_idle r.state)) at ∙ both.0 in
    and-false (passes_test (λ (r : SubRecord). is_idle r.state) (slice_get n.board i)) (is_wished n.asker.rack (suc i)) passing here

-- wishes leave who is pending
pending-at : (n : NetSeen) (o : Option ℕ) → (connected_at o n).asker.rack.pending ≡ n.asker.rack.pending
pending-at n None = refl
pending-at n (Some sub) = refl

pending-rounds : (k : ℕ) (n : NetSeen) → (connect_rounds k n).asker.rack.pending ≡ n.asker.rack.pending
pending-rounds zero n = refl
pending-rounds (suc k) n = pending-rounds k (connect_round n) ∙ pending-at n (first_wished n)

none-pending : (r : RackSeen) → r.pending ≡ None → may_take_over r ≡ false
none-pending r e = ap (λ o. may_follow (state_in r r.current) (state_in r o)) e

over-pending : (l : NetLeft) → may_take_over l.net.asker.rack ≡ true → (net_taken_over l).net.asker.rack.pending ≡ None
over-pending l e =
    let r : RackSeen = l.net.asker.rack in
    let moved : NetLeft = record { net = steps.net_kept (steps.moved_over l.net); gone = steps.kept_shut (steps.moved_over l.net) } in
    ap (λ (b : Bool). (if b then moved else l).net.asker.rack.pending) e ∙ ap (λ (b : Bool). (if b then taken_over r else r).pending) e

round-connected : (l : NetLeft) → first_wished (settle_round l).net ≡ None
round-connected l =
    let t : NetSeen = (net_taken_over l).net in connect-ends (idle_count t.board) t refl

settled-by : (b : Bool) (l : NetLeft) → may_take_over (settle_round l).net.asker.rack ≡ b → IsSettled (if b then settle_round (settle_round l) else settle_round l).net
settled-by true l e =
    let t : NetSeen = (net_taken_over (settle_round l)).net in
    record {
      decided = none-pending (net_connected t).asker.rack (pending-rounds (idle_count t.board) t ∙ over-pending (settle_round l) e);
      connected = connected-all (net_connected t) (round-connected (settle_round l));
    }
settled-by false l e = record { decided = e; connected = connected-all (settle_round l).net (round-connected l) }

pub nothing-waits : laws.NothingWaits
nothing-waits n = settled-by (may_take_over (settle_round (left_of n)).net.asker.rack) (left_of n) refl
