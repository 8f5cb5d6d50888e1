-- The two live generations are of different kinds.
use Rattle.std.proofs.Common.{◌≡◌, ℕ, zero, suc, ◌∙◌, Bool, true, false, not, ◌||◌, ◌&&◌, if◌then◌else◌, Option, Some, None, List, [], ◌∷◌, map, slice_get, refl, ap, sym, subst}
use Rattle.std.proofs.lemmas.Option.{none-some, same_Some}
use Rattle.std.proofs.lemmas.Bool.{eq-eqb}
use Rattle.grpc_base.specs.declared.kind.Kind.{Kind}
use Rattle.grpc_base.specs.declared.kind.Kind.TheVariants as kind
use Rattle.grpc_base.specs.Kinds.{kind_number}
use Rattle.lb_policy.specs.declared.seen.SubSeen.{SubSeen}
use Rattle.lb_policy.specs.Table.{PolicySeen}
use Rattle.lb_policy.specs.Steps.{emptied, given, noted, turned}
use Rattle.policy_rack.specs.declared.live.Live.{Live}
use Rattle.policy_rack.specs.Kinds.{same_kind, has_policy, kinds_differ}
use Rattle.policy_rack.specs.Steps.{RackSeen, new_rack, changed, changed_of, renewed, begun, may_take_over, taken_over, is_at}
use Rattle.policy_rack.specs.Runs.{RackCall, Adopt, Note, TakeOver, Ask, RetireAll, after_call, after_calls, GenerationsAreLive, IsKept, KindsOfLiveDiffer, LiveKindsDiffer}
use Rattle.policy_rack.proofs.RunLaws.{rack-keeps}

-- no step changes a kind
abbrev KeepsKind : (PolicySeen → PolicySeen) → Type 0
KeepsKind f = (p : PolicySeen) → (f p).kind ≡ p.kind

has-changed : (f : PolicySeen → PolicySeen) → KeepsKind f → (k : Kind) (ps : List PolicySeen) (i : ℕ) → has_policy k (changed f ps i) ≡ has_policy k ps
has-changed f keeps k [] i = refl
has-changed f keeps k (p ∷ ps) zero = ap (λ (j : Kind). same_kind j k || has_policy k ps) (keeps p)
has-changed f keeps k (p ∷ ps) (suc i) = ap (λ (b : Bool). same_kind p.kind k || b) (has-changed f keeps k ps i)

differ-changed : (f : PolicySeen → PolicySeen) → KeepsKind f → (ps : List PolicySeen) (i : ℕ) → kinds_differ (changed f ps i) ≡ kinds_differ ps
differ-changed f keeps [] i = refl
differ-changed f keeps (p ∷ ps) zero = ap (λ (j : Kind). not (has_policy j ps) && kinds_differ ps) (keeps p)
differ-changed f keeps (p ∷ ps) (suc i) =
    ap (λ (b : Bool). not b && kinds_differ (changed f ps i)) (has-changed f keeps p.kind ps i) ∙ ap (λ (b : Bool). not (has_policy p.kind ps) && b) (differ-changed f keeps ps i)

differ-of : (f : PolicySeen → PolicySeen) → KeepsKind f → (l : Option Live) (ps : List PolicySeen) → kinds_differ (changed_of f l ps) ≡ kinds_differ ps
differ-of f keeps None ps = refl
differ-of f keeps (Some l) ps = differ-changed f keeps ps l.place

has-emptied : (k : Kind) (ps : List PolicySeen) → has_policy k (map emptied ps) ≡ has_policy k ps
has-emptied k [] = refl
has-emptied k (p ∷ ps) = ap (λ (b : Bool). same_kind p.kind k || b) (has-emptied k ps)

differ-emptied : (ps : List PolicySeen) → kinds_differ (map emptied ps) ≡ kinds_differ ps
differ-emptied [] = refl
differ-emptied (p ∷ ps) =
    ap (λ (b : Bool). not b && kinds_differ (map emptied ps)) (has-emptied p.kind ps) ∙ ap (λ (b : Bool). not (has_policy p.kind ps) && b) (differ-emptied ps)

-- so each call keeps whether the kinds differ
abbrev Differ : RackSeen → RackSeen → Type 0
Differ s r = kinds_differ s.policies ≡ kinds_differ r.policies

differ-given : (subs : List SubSeen) (place : ℕ) (r : RackSeen) → kinds_differ (changed (given subs) (changed_of emptied r.pending r.policies) place) ≡ kinds_differ r.policies
differ-given subs place r = differ-changed (given subs) (λ p. refl) (changed_of emptied r.pending r.policies) place ∙ differ-of emptied (λ p. refl) r.pending r.policies

differ-adopt : (subs : List SubSeen) (place : ℕ) (r : RackSeen) (b d : Bool) → Differ (if b then renewed subs place r else (if d then record r { policies = changed (given subs) r.policies place } else begun subs place r)) r
differ-adopt subs place r true d = differ-given subs place r
differ-adopt subs place r false true = differ-changed (given subs) (λ p. refl) r.policies place
differ-adopt subs place r false false = differ-given subs place r

differ-take : (r : RackSeen) (b : Bool) → Differ (if b then taken_over r else r) r
differ-take r true = differ-of emptied (λ p. refl) r.current r.policies
differ-take r false = refl

differ-call : (call : RackCall) (r : RackSeen) → Differ (after_call call r) r
differ-call (Adopt place subs) r = differ-adopt subs place r (is_at place r.current) (is_at place r.pending)
differ-call (Note sub state) r =
    differ-of (noted sub state) (λ p. refl) r.pending (changed_of (noted sub state) r.current r.policies) ∙ differ-of (noted sub state) (λ p. refl) r.current r.policies
differ-call TakeOver r = differ-take r (may_take_over r)
differ-call Ask r = differ-of turned (λ p. refl) r.current r.policies
differ-call RetireAll r =
    differ-of emptied (λ p. refl) r.pending (changed_of emptied r.current r.policies) ∙ differ-of emptied (λ p. refl) r.current r.policies

differ-calls : (calls : List RackCall) (r : RackSeen) → Differ (after_calls calls r) r
differ-calls [] r = refl
differ-calls (call ∷ calls) r = differ-calls calls (after_call call r) ∙ differ-call call r

-- policies at two places
same-self : (k : Kind) → same_kind k k ≡ true
same-self k = eq-eqb (kind_number k) (kind_number k) refl

or-left : (a b : Bool) → (a || b) ≡ false → a ≡ false
or-left true b e = e
or-left false b e = refl

or-right : (a b : Bool) → (a || b) ≡ false → b ≡ false
or-right true b e = let g : ⊥ = (cc) in absurd g
or-right false b e = e

and-left : (a b : Bool) → (not a && b) ≡ true → a ≡ false
and-left true b e = let g : ⊥ = (cc) in absurd g
and-left false b e = refl

and-right : (a b : Bool) → (a && b) ≡ true → b ≡ true
and-right true b e = e
and-right false b e = let g : ⊥ = (cc) in absurd g

and-first : (a b : Bool) → (a && b) ≡ true → a ≡ true
and-first true b e = refl
and-first false b e = e

true-false : (b : Bool) → b ≡ true → b ≡ false → ⊥
true-false b t f = (cc)

absent : (k : Kind) (ps : List PolicySeen) (i : ℕ) (q : PolicySeen) → has_policy k ps ≡ false → slice_get ps i ≡ Some q → k ≡ q.kind → ⊥
absent k [] i q h e s = none-some q e
absent k (p ∷ ps) zero q h e s =
    let t : k ≡ p.kind = s ∙ sym (ap (λ (x : PolicySeen). x.kind) (same_Some p q e)) in
    true-false (same_kind p.kind k) (subst (λ (j : Kind). same_kind j k ≡ true) t (same-self k)) (or-left (same_kind p.kind k) (has_policy k ps) h)
absent k (p ∷ ps) (suc i) q h e s = absent k ps i q (or-right (same_kind p.kind k) (has_policy k ps) h) e s

apart : (ps : List PolicySeen) (i j : ℕ) (p q : PolicySeen) → kinds_differ ps ≡ true → (i ≡ j → ⊥) → slice_get ps i ≡ Some p → slice_get ps j ≡ Some q → p.kind ≡ q.kind → ⊥
apart [] i j p q d out ep eq s = none-some p ep
apart (x ∷ ps) zero zero p q d out ep eq s = out refl
apart (x ∷ ps) zero (suc j) p q d out ep eq s =
    absent x.kind ps j q (and-left (has_policy x.kind ps) (kinds_differ ps) d) eq (ap (λ (y : PolicySeen). y.kind) (same_Some x p ep) ∙ s)
apart (x ∷ ps) (suc i) zero p q d out ep eq s =
    absent x.kind ps i p (and-left (has_policy x.kind ps) (kinds_differ ps) d) ep (ap (λ (y : PolicySeen). y.kind) (same_Some x q eq) ∙ sym s)
apart (x ∷ ps) (suc i) (suc j) p q d out ep eq s =
    apart ps i j p q (and-right (not (has_policy x.kind ps)) (kinds_differ ps) d) (λ e. out (ap suc e)) ep eq s

places-differ : (c n : Option Live) (made : ℕ) (live later : Live) → GenerationsAreLive c n made → c ≡ Some live → n ≡ Some later → live.place ≡ later.place → ⊥
places-differ None None made live later h e f = absurd (none-some live e)
places-differ None (Some b) made live later h e f = absurd h
places-differ (Some a) None made live later h e f = absurd (none-some later f)
places-differ (Some a) (Some b) made live later h e f = λ s. h.0 (ap (λ (x : Live). x.place) (same_Some a live e) ∙ s ∙ sym (ap (λ (x : Live). x.place) (same_Some b later f)))

by-kept : (r : RackSeen) → IsKept r → kinds_differ r.policies ≡ true → KindsOfLiveDiffer r
by-kept r k d live later p q ec en ep eq s =
    apart r.policies live.place later.place p q d (places-differ r.current r.pending r.made live later k.live ec en) ep eq s

pub live-kinds-differ : LiveKindsDiffer
live-kinds-differ calls policies ready =
    by-kept (after_calls calls (new_rack policies)) (rack-keeps calls policies) (differ-calls calls (new_rack policies) ∙ differ-emptied policies ∙ and-first (kinds_differ policies) (has_policy kind.PickFirst policies) ready)
