-- A rack that has just taken its first result may be asked.
use Rattle.std.proofs.Common.{◌≡◌, ℕ, zero, suc, ◌+◌, ◌<◌, Bool, true, false, is_some, cond, Option, Some, None, IsSomeAnd, List, [], ◌∷◌, length, map, slice_get, refl, sym, subst, arith}
use Rattle.std.specs.List.{position_from}
use Rattle.std.proofs.lemmas.Option.{none-some, same_Some}
use Rattle.grpc_base.specs.declared.kind.Kind.{Kind}
use Rattle.grpc_base.specs.Kinds.{has_kind}
use Rattle.lb_policy.specs.declared.seen.SubSeen.{SubSeen}
use Rattle.lb_policy.specs.Table.{PolicySeen}
use Rattle.lb_policy.specs.Steps.{emptied, given}
use Rattle.policy_rack.specs.Kinds.{same_kind, first_place, kinds_of}
use Rattle.policy_rack.specs.Steps.{RackSeen, new_rack, changed, adopted, policy_of}
use Rattle.policy_rack.proofs.KindLaws.{has_place}

abbrev pub MayTurn : Option PolicySeen → Type 0
MayTurn o = IsSomeAnd o (λ p. p.turns < 18446744073709551615)

at-place : (subs : List SubSeen) (ps : List PolicySeen) (i : ℕ) → i < length ps → MayTurn (slice_get (changed (given subs) (map emptied ps) i) i)
at-place subs [] i h = search arith
at-place subs (p ∷ ps) zero h = omega arith
at-place subs (p ∷ ps) (suc i) h = at-place subs ps i (omega arith)

within-step : (n m len : ℕ) (b : Bool) (rest : Option ℕ) → cond b (Some n) rest ≡ Some m → (rest ≡ Some m → m < n + 1 + len) → m < n + suc len
within-step n m len true rest e next = let s : n ≡ m = same_Some n m e in omega arith
within-step n m len false rest e next = let l : m < n + 1 + len = next e in omega arith

within : (k : Kind) (n m : ℕ) (ps : List PolicySeen) → position_from (λ (q : PolicySeen). same_kind q.kind k) n (map emptied ps) ≡ Some m → m < n + length ps
within k n m [] e = absurd (none-some m e)
within k n m (p ∷ ps) e = within-step n m (length ps) (same_kind p.kind k) (position_from (λ (q : PolicySeen). same_kind q.kind k) (n + 1) (map emptied ps)) e (within k (n + 1) m ps)

fresh : (subs : List SubSeen) (ps : List PolicySeen) (o : Option ℕ) → is_some o ≡ true → ((m : ℕ) → o ≡ Some m → m < 0 + length ps) → MayTurn (policy_of (adopted subs o (new_rack ps)).policies (adopted subs o (new_rack ps)).current)
fresh subs ps None h range = let g : ⊥ = (cc) in absurd g
fresh subs ps (Some m) h range = let l : m < 0 + length ps = range m refl in at-place subs ps m (omega arith)

pub may-ask : (r t : RackSeen) (ps : List PolicySeen) (k : Kind) (subs : List SubSeen) → r ≡ new_rack ps → has_kind (kinds_of r.policies) k ≡ true → t ≡ adopted subs (first_place k r.policies) r → MayTurn (policy_of t.policies t.current)
may-ask r t ps k subs e h f =
    let has : has_kind (kinds_of (map emptied ps)) k ≡ true = subst (λ (s : RackSeen). has_kind (kinds_of s.policies) k ≡ true) e h in
    let is : t ≡ adopted subs (first_place k (map emptied ps)) (new_rack ps) = subst (λ (s : RackSeen). t ≡ adopted subs (first_place k s.policies) s) e f in
    subst (λ (s : RackSeen). MayTurn (policy_of s.policies s.current)) (sym is) (fresh subs ps (first_place k (map emptied ps)) (has_place k (map emptied ps) has) (λ m. within k 0 m ps))
