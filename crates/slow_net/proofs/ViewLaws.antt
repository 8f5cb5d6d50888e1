-- What the table says of a policy, by what the programs read of it.
use Rattle.std.proofs.Common.{◌≡◌, IfOk, List, Result, subst, ℕ}
use Rattle.grpc_base.specs.declared.event.Conn.{Conn}
use Rattle.grpc_base.specs.declared.kind.Kind.{Kind}
use Rattle.grpc_base.specs.declared.kind.Pick.{Pick}
use Rattle.lb_policy.specs.Table.{pick_by, state_of_kind}
use Rattle.lb_policy.specs.declared.seen.SubSeen.{SubSeen}

pub state_same : {E : Type 0} (k : Kind) (w x : ℕ) (f g : List ℕ) (u v : List SubSeen) (r : Result Conn E) → w ≡ x → f ≡ g → u ≡ v → IfOk r (λ c. c ≡ state_of_kind k w f u) → IfOk r (λ c. c ≡ state_of_kind k x g v)
state_same k w x f g u v r wx fg uv h =
    subst (λ (a : ℕ). IfOk r (λ c. c ≡ state_of_kind k a g v)) wx
    (subst (λ (a : List ℕ). IfOk r (λ c. c ≡ state_of_kind k w a v)) fg
    (subst (λ (a : List SubSeen). IfOk r (λ c. c ≡ state_of_kind k w f a)) uv h))

pub pick_same : {E : Type 0} (k : Kind) (w x : ℕ) (f g : List ℕ) (u v : List SubSeen) (t n : ℕ) (r : Result Pick E) → w ≡ x → f ≡ g → u ≡ v → t ≡ n → IfOk r (λ p. p ≡ pick_by k w f u t) → IfOk r (λ p. p ≡ pick_by k x g v n)
pick_same k w x f g u v t n r wx fg uv tn h =
    subst (λ (a : ℕ). IfOk r (λ p. p ≡ pick_by k a g v n)) wx
    (subst (λ (a : List ℕ). IfOk r (λ p. p ≡ pick_by k w a v n)) fg
    (subst (λ (a : List SubSeen). IfOk r (λ p. p ≡ pick_by k w f a n)) uv
    (subst (λ (a : ℕ). IfOk r (λ p. p ≡ pick_by k w f u a)) tn h)))
