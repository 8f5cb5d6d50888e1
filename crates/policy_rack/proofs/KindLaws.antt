-- The set of the kinds of some policies, gathered one by one; a kind of that set has a place.
use Rattle.std.proofs.Common.{◌≡◌, ℕ, ◌+◌, ◌∙◌, Bool, true, false, ◌||◌, is_some, cond, Option, Some, List, [], ◌∷◌, map, refl, ap, sym}
use Rattle.std.specs.List.{position_from}
use Rattle.grpc_base.specs.declared.kind.Kind.{Kind}
use Rattle.grpc_base.specs.declared.kind.Kind.TheVariants as kind
use Rattle.grpc_base.specs.Kinds.{KindsSeen, each_kind, no_kinds, with_kind, has_kind}
use Rattle.lb_policy.specs.Table.{PolicySeen}
use Rattle.policy_rack.specs.Kinds.{same_kind, has_policy, first_place, kinds_of}

-- a set with the kinds of some policies added, one by one
abbrev pub kinds_with : KindsSeen → List PolicySeen → KindsSeen
kinds_with kinds [] = kinds
kinds_with kinds (p ∷ ps) = kinds_with (with_kind kinds p.kind) ps

or-false : (b : Bool) → b ≡ (b || false)
or-false true = refl
or-false false = refl

or-true : (b : Bool) → true ≡ (b || true)
or-true true = refl
or-true false = refl

or-assoc : (a b c : Bool) → ((a || b) || c) ≡ (a || (b || c))
or-assoc true b c = refl
or-assoc false b c = refl

-- the set of the kinds that pass a test
abbrev set_by : (Kind → Bool) → KindsSeen
set_by test = map test each_kind

map-same : (f g : Kind → Bool) → ((k : Kind) → f k ≡ g k) → (ks : List Kind) → map f ks ≡ map g ks
map-same f g same [] = refl
map-same f g same (k ∷ ks) = ap (λ (b : Bool). b ∷ map f ks) (same k) ∙ ap (λ (bs : List Bool). g k ∷ bs) (map-same f g same ks)

three : (a b c d e f : Bool) → a ≡ d → b ≡ e → c ≡ f → a ∷ b ∷ c ∷ [] ≡ d ∷ e ∷ f ∷ []
three a b c d e f g h i =
    ap (λ (x : Bool). x ∷ b ∷ c ∷ []) g ∙ ap (λ (x : Bool). d ∷ x ∷ c ∷ []) h ∙ ap (λ (x : Bool). d ∷ e ∷ x ∷ []) i

-- a set with one kind more
set-more : (test : Kind → Bool) (j : Kind) → with_kind (set_by test) j ≡ set_by (λ k. test k || same_kind j k)
set-more test kind.PickFirst =
    three true (test kind.RoundRobin) (test kind.Priority) (test kind.PickFirst || true) (test kind.RoundRobin || false) (test kind.Priority || false) (or-true (test kind.PickFirst)) (or-false (test kind.RoundRobin)) (or-false (test kind.Priority))
set-more test kind.RoundRobin =
    three (test kind.PickFirst) true (test kind.Priority) (test kind.PickFirst || false) (test kind.RoundRobin || true) (test kind.Priority || false) (or-false (test kind.PickFirst)) (or-true (test kind.RoundRobin)) (or-false (test kind.Priority))
set-more test kind.Priority =
    three (test kind.PickFirst) (test kind.RoundRobin) true (test kind.PickFirst || false) (test kind.RoundRobin || false) (test kind.Priority || true) (or-false (test kind.PickFirst)) (or-false (test kind.RoundRobin)) (or-true (test kind.Priority))

set-with : (test : Kind → Bool) (ps : List PolicySeen) → kinds_with (set_by test) ps ≡ set_by (λ k. test k || has_policy k ps)
set-with test [] = map-same test (λ k. test k || false) (λ k. or-false (test k)) each_kind
set-with test (p ∷ ps) =
    ap (λ (s : KindsSeen). kinds_with s ps) (set-more test p.kind) ∙ set-with (λ k. test k || same_kind p.kind k) ps ∙ map-same (λ k. (test k || same_kind p.kind k) || has_policy k ps) (λ k. test k || (same_kind p.kind k || has_policy k ps)) (λ k. or-assoc (test k) (same_kind p.kind k) (has_policy k ps)) each_kind

-- gathered from none they are the set of the kinds
pub kinds_gathered : (ps : List PolicySeen) → kinds_with no_kinds ps ≡ kinds_of ps
kinds_gathered ps = set-with (λ k. false) ps

has-kind : (k : Kind) (ps : List PolicySeen) → has_kind (kinds_of ps) k ≡ has_policy k ps
has-kind kind.PickFirst ps = refl
has-kind kind.RoundRobin ps = refl
has-kind kind.Priority ps = refl

some-or : (b r : Bool) (n : ℕ) (o : Option ℕ) → is_some o ≡ r → is_some (cond b (Some n) o) ≡ (b || r)
some-or true r n o e = refl
some-or false r n o e = e

place-any : (k : Kind) (ps : List PolicySeen) (n : ℕ) → is_some (position_from (λ (p : PolicySeen). same_kind p.kind k) n ps) ≡ has_policy k ps
place-any k [] n = refl
place-any k (p ∷ ps) n =
    some-or (same_kind p.kind k) (has_policy k ps) n (position_from (λ (q : PolicySeen). same_kind q.kind k) (n + 1) ps) (place-any k ps (n + 1))

-- a kind of the set has a place
pub has_place : (k : Kind) (ps : List PolicySeen) → has_kind (kinds_of ps) k ≡ true → is_some (first_place k ps) ≡ true
has_place k ps h = place-any k ps 0 ∙ sym (has-kind k ps) ∙ h
