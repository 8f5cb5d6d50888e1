-- The kinds of the policies of a rack stay over a run, and decide which place a kind has.
use Rattle.std.proofs.Common.{◌≡◌, ◌≤◌, ◌+◌, ◌==◌, ℕ, zero, suc, Bool, true, false, ◌&&◌, ◌||◌, not, cond, if◌then◌else◌, Option, Some, None, List, [], ◌∷◌, map, slice_get, refl, ap, sym, subst, ◌∙◌, arith}
use Rattle.std.specs.List.{list_any, position_from}
use Rattle.std.proofs.lemmas.Option.{same_Some, none-some}
use Rattle.std.proofs.lemmas.Bool.{eqb-true, eq-eqb}
use Rattle.grpc_base.specs.declared.kind.Kind.{Kind}
use Rattle.grpc_base.specs.Kinds.{kind_number}
use Rattle.lb_policy.specs.declared.seen.SubSeen.{SubSeen}
use Rattle.lb_policy.specs.Table.{PolicySeen}
use Rattle.lb_policy.specs.Steps.{emptied, given, noted, turned}
use Rattle.policy_rack.specs.declared.live.Live.{Live}
use Rattle.policy_rack.specs.Kinds.{same_kind, has_policy, kinds_differ, first_place}
use Rattle.policy_rack.specs.Steps.{RackSeen, new_rack, changed, changed_of, renewed, begun, may_take_over, taken_over, is_at}
use Rattle.policy_rack.specs.Runs as rack
use Rattle.policy_rack.specs.Runs.{RackCall}

abbrev pub kinds : List PolicySeen → List Kind
kinds ps = map (λ (p : PolicySeen). p.kind) ps

abbrev KeepsKind : (PolicySeen → PolicySeen) → Type 0
KeepsKind f = (p : PolicySeen) → (f p).kind ≡ p.kind

kinds-changed : (f : PolicySeen → PolicySeen) → KeepsKind f → (ps : List PolicySeen) (i : ℕ) → kinds (changed f ps i) ≡ kinds ps
kinds-changed f same [] i = refl
kinds-changed f same (p ∷ ps) zero = ap (λ (k : Kind). k ∷ kinds ps) (same p)
kinds-changed f same (p ∷ ps) (suc i) = ap (λ (ks : List Kind). p.kind ∷ ks) (kinds-changed f same ps i)

kinds-of : (f : PolicySeen → PolicySeen) → KeepsKind f → (live : Option Live) (ps : List PolicySeen) → kinds (changed_of f live ps) ≡ kinds ps
kinds-of f same None ps = refl
kinds-of f same (Some live) ps = kinds-changed f same ps live.place

kinds-emptied : (ps : List PolicySeen) → kinds (map emptied ps) ≡ kinds ps
kinds-emptied [] = refl
kinds-emptied (p ∷ ps) = ap (λ (ks : List Kind). p.kind ∷ ks) (kinds-emptied ps)

kinds-given : (subs : List SubSeen) (place : ℕ) (r : RackSeen) → kinds (changed (given subs) (changed_of emptied r.pending r.policies) place) ≡ kinds r.policies
kinds-given subs place r =
    kinds-changed (given subs) (λ p. refl) (changed_of emptied r.pending r.policies) place ∙ kinds-of emptied (λ p. refl) r.pending r.policies

kinds-adopt : (subs : List SubSeen) (place : ℕ) (r : RackSeen) (b d : Bool) → kinds (if b then renewed subs place r else (if d then record r { policies = changed (given subs) r.policies place } else begun subs place r)).policies ≡ kinds r.policies
kinds-adopt subs place r true d = kinds-given subs place r
kinds-adopt subs place r false true = kinds-changed (given subs) (λ p. refl) r.policies place
kinds-adopt subs place r false false = kinds-given subs place r

kinds-over : (r : RackSeen) (b : Bool) → kinds (if b then taken_over r else r).policies ≡ kinds r.policies
kinds-over r true = kinds-of emptied (λ p. refl) r.current r.policies
kinds-over r false = refl

kinds-call : (call : RackCall) (r : RackSeen) → kinds (rack.after_call call r).policies ≡ kinds r.policies
kinds-call (rack.Adopt place subs) r = kinds-adopt subs place r (is_at place r.current) (is_at place r.pending)
kinds-call (rack.Note sub state) r =
    kinds-of (noted sub state) (λ p. refl) r.pending (changed_of (noted sub state) r.current r.policies) ∙ kinds-of (noted sub state) (λ p. refl) r.current r.policies
kinds-call rack.TakeOver r = kinds-over r (may_take_over r)
kinds-call rack.Ask r = kinds-of turned (λ p. refl) r.current r.policies
kinds-call rack.RetireAll r =
    kinds-of emptied (λ p. refl) r.pending (changed_of emptied r.current r.policies) ∙ kinds-of emptied (λ p. refl) r.current r.policies

kinds-calls : (calls : List RackCall) (r : RackSeen) → kinds (rack.after_calls calls r).policies ≡ kinds r.policies
kinds-calls [] r = refl
kinds-calls (call ∷ calls) r = kinds-calls calls (rack.after_call call r) ∙ kinds-call call r

abbrev has_one : Kind → List Kind → Bool
has_one k ks = list_any (λ j. same_kind j k) ks

abbrev differ : List Kind → Bool
differ [] = true
differ (k ∷ ks) = not (has_one k ks) && differ ks

has-kinds : (k : Kind) (ps : List PolicySeen) → has_policy k ps ≡ has_one k (kinds ps)
has-kinds k [] = refl
has-kinds k (p ∷ ps) = ap (λ (b : Bool). same_kind p.kind k || b) (has-kinds k ps)

differ-kinds : (ps : List PolicySeen) → kinds_differ ps ≡ differ (kinds ps)
differ-kinds [] = refl
differ-kinds (p ∷ ps) =
    ap (λ (b : Bool). not b && kinds_differ ps) (has-kinds p.kind ps) ∙ ap (λ (b : Bool). not (has_one p.kind (kinds ps)) && b) (differ-kinds ps)

pub kinds-stay : (calls : List RackCall) (policies : List PolicySeen) → kinds_differ policies ≡ true → kinds_differ (rack.after_calls calls (new_rack policies)).policies ≡ true
kinds-stay calls policies e =
    differ-kinds (rack.after_calls calls (new_rack policies)).policies ∙ ap differ (kinds-calls calls (new_rack policies) ∙ kinds-emptied policies) ∙ sym (differ-kinds policies) ∙ e

-- of policies that differ, only the first one of a kind is of it
or-left : (a b : Bool) → (a || b) ≡ false → a ≡ false
or-left true b e = e
or-left false b e = refl

or-right : (a b : Bool) → (a || b) ≡ false → b ≡ false
or-right true b e = let absurdity : ⊥ = (cc) in absurd absurdity
or-right false b e = e

and-left : (a b : Bool) → (not a && b) ≡ true → a ≡ false
and-left true b e = let absurdity : ⊥ = (cc) in absurd absurdity
and-left false b e = refl

and-right : (a b : Bool) → (a && b) ≡ true → b ≡ true
and-right true b e = e
and-right false b e = let absurdity : ⊥ = (cc) in absurd absurdity

absent : (k : Kind) (ps : List PolicySeen) (i : ℕ) (q : PolicySeen) → has_policy k ps ≡ false → slice_get ps i ≡ Some q → same_kind q.kind k ≡ false
absent k [] i q h e = absurd (none-some q e)
absent k (p ∷ ps) zero q h e =
    ap (λ (x : PolicySeen). same_kind x.kind k) (sym (same_Some p q e)) ∙ or-left (same_kind p.kind k) (has_policy k ps) h
absent k (p ∷ ps) (suc i) q h e = absent k ps i q (or-right (same_kind p.kind k) (has_policy k ps) h) e

both-kinds : (b : Bool) (j k l : Kind) → same_kind j k ≡ true → same_kind l j ≡ false → same_kind l k ≡ b → same_kind l k ≡ false
both-kinds true j k l e out f =
    let one : kind_number j ≡ kind_number k = eqb-true (kind_number j) (kind_number k) e in
    let two : kind_number l ≡ kind_number k = eqb-true (kind_number l) (kind_number k) f in
    let same : same_kind l j ≡ true = eq-eqb (kind_number l) (kind_number j) (two ∙ sym one) in
    let absurdity : ⊥ = (cc) in absurd absurdity
both-kinds false j k l e out f = f

not-equal-by : (b : Bool) (m n : ℕ) → (m == n) ≡ b → (m ≡ n → ⊥) → (m == n) ≡ false
not-equal-by true m n e away = absurd (away (eqb-true m n e))
not-equal-by false m n e away = e

not-equal : (m n : ℕ) → (m ≡ n → ⊥) → (m == n) ≡ false
not-equal m n away = not-equal-by (m == n) m n refl away

-- a found place is no earlier than where the search began
from-by : (k : Kind) (x : PolicySeen) (ps : List PolicySeen) (n place : ℕ) (b : Bool) → cond b (Some n) (position_from (λ (p : PolicySeen). same_kind p.kind k) (n + 1) ps) ≡ Some place → (position_from (λ (p : PolicySeen). same_kind p.kind k) (n + 1) ps ≡ Some place → n + 1 ≤ place) → n ≤ place
from-by k x ps n place true e next = let same : n ≡ place = same_Some n place e in omega arith
from-by k x ps n place false e next = let le : n + 1 ≤ place = next e in omega arith

from : (k : Kind) (ps : List PolicySeen) (n place : ℕ) → position_from (λ (p : PolicySeen). same_kind p.kind k) n ps ≡ Some place → n ≤ place
from k [] n place e = absurd (none-some place e)
from k (x ∷ ps) n place e = from-by k x ps n place (same_kind x.kind k) e (from k ps (n + 1) place)

place-of : (k : Kind) (n : ℕ) (x : PolicySeen) (ps : List PolicySeen) (place i : ℕ) (q : PolicySeen) (b : Bool) → same_kind x.kind k ≡ b → kinds_differ (x ∷ ps) ≡ true → cond b (Some n) (position_from (λ (p : PolicySeen). same_kind p.kind k) (n + 1) ps) ≡ Some place → slice_get (x ∷ ps) i ≡ Some q → ((j : ℕ) → slice_get ps j ≡ Some q → position_from (λ (p : PolicySeen). same_kind p.kind k) (n + 1) ps ≡ Some place → same_kind q.kind k ≡ (n + 1 + j == place)) → same_kind q.kind k ≡ (n + i == place)
place-of k n x ps place zero q true t d e at next =
    let same : n ≡ place = same_Some n place e in
    let here : n + 0 ≡ place = omega arith in
    ap (λ (y : PolicySeen). same_kind y.kind k) (sym (same_Some x q at)) ∙ t ∙ sym (eq-eqb (n + 0) place here)
place-of k n x ps place (suc i) q true t d e at next =
    let same : n ≡ place = same_Some n place e in
    let out : same_kind q.kind x.kind ≡ false = absent x.kind ps i q (and-left (has_policy x.kind ps) (kinds_differ ps) d) at in
    both-kinds (same_kind q.kind k) x.kind k q.kind t out refl ∙ sym (not-equal (n + suc i) place (λ s. absurd (omega arith)))
place-of k n x ps place zero q false t d e at next =
    let le : n + 1 ≤ place = from k ps (n + 1) place e in
    ap (λ (y : PolicySeen). same_kind y.kind k) (sym (same_Some x q at)) ∙ t ∙ sym (not-equal (n + 0) place (λ s. absurd (omega arith)))
place-of k n x ps place (suc i) q false t d e at next =
    let same : n + 1 + i ≡ n + suc i = omega arith in
    next i at e ∙ ap (λ (m : ℕ). m == place) same

place-from : (k : Kind) (n : ℕ) (ps : List PolicySeen) (place i : ℕ) (q : PolicySeen) → kinds_differ ps ≡ true → position_from (λ (p : PolicySeen). same_kind p.kind k) n ps ≡ Some place → slice_get ps i ≡ Some q → same_kind q.kind k ≡ (n + i == place)
place-from k n [] place i q d e at = absurd (none-some q at)
place-from k n (x ∷ ps) place i q d e at =
    place-of k n x ps place i q (same_kind x.kind k) refl d e at (λ j there later. place-from k (n + 1) ps place j q (and-right (not (has_policy x.kind ps)) (kinds_differ ps) d) later there)

pub place-is : (k : Kind) (ps : List PolicySeen) (place i : ℕ) (q : PolicySeen) → kinds_differ ps ≡ true → first_place k ps ≡ Some place → slice_get ps i ≡ Some q → same_kind q.kind k ≡ (i == place)
place-is k ps place i q d e at =
    let same : 0 + i ≡ i = omega arith in
    place-from k 0 ps place i q d e at ∙ ap (λ (m : ℕ). m == place) same

-- there is a policy at a found place
there-by : (k : Kind) (x : PolicySeen) (ps : List PolicySeen) (n place : ℕ) (b : Bool) → cond b (Some n) (position_from (λ (p : PolicySeen). same_kind p.kind k) (n + 1) ps) ≡ Some place → (position_from (λ (p : PolicySeen). same_kind p.kind k) (n + 1) ps ≡ Some place → (i : ℕ) × ((q : PolicySeen) × ((slice_get ps i ≡ Some q) × (n + 1 + i ≡ place)))) → (i : ℕ) × ((q : PolicySeen) × ((slice_get (x ∷ ps) i ≡ Some q) × (n + i ≡ place)))
there-by k x ps n place true e next =
    let same : n ≡ place = same_Some n place e in
    let here : n + 0 ≡ place = omega arith in (zero, (x, (refl, here)))
there-by k x ps n place false e next =
    let f = next e in
    let sum : n + 1 + f.0 ≡ place = f.1.1.1 in
    let here : n + suc f.0 ≡ place = omega arith in (suc f.0, (f.1.0, (f.1.1.0, here)))

there-from : (k : Kind) (ps : List PolicySeen) (n place : ℕ) → position_from (λ (p : PolicySeen). same_kind p.kind k) n ps ≡ Some place → (i : ℕ) × ((q : PolicySeen) × ((slice_get ps i ≡ Some q) × (n + i ≡ place)))
there-from k [] n place e = absurd (none-some place e)
there-from k (x ∷ ps) n place e = there-by k x ps n place (same_kind x.kind k) e (there-from k ps (n + 1) place)

pub there : (k : Kind) (ps : List PolicySeen) (place : ℕ) → first_place k ps ≡ Some place → (q : PolicySeen) × (slice_get ps place ≡ Some q)
there k ps place e =
    let f = there-from k ps 0 place e in
    let sum : 0 + f.0 ≡ place = f.1.1.1 in
    let same : f.0 ≡ place = omega arith in
    (f.1.0, subst (λ (i : ℕ). slice_get ps i ≡ Some f.1.0) same f.1.1.0)
