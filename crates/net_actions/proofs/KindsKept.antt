-- The kinds and widths of policies stay, whatever happens to one of them.
use Rattle.std.proofs.Common.{◌≡◌, ◌∷◌, ◌∙◌, List, [], Option, None, Some, ℕ, zero, suc, map}
use Rattle.lb_policy.specs.Steps.{emptied}
use Rattle.lb_policy.specs.Table.{PolicySeen}
use Rattle.net_actions.specs.Sees.{KindsAgree}
use Rattle.policy_rack.specs.Steps.{changed, changed_of}
use Rattle.policy_rack.specs.declared.live.Live.{Live}
use Rattle.session_actions.specs.declared.seen.PolicyKind.{PolicyKind}

pub record KeepsKind (f : PolicySeen → PolicySeen) : Type 0 where
  pub kind : (p : PolicySeen) → p.kind ≡ (f p).kind
  pub width : (p : PolicySeen) → p.width ≡ (f p).width

pub kinds_changed : (f : PolicySeen → PolicySeen) → KeepsKind f → (kinds : List PolicyKind) (policies : List PolicySeen) (place : ℕ) → KindsAgree kinds policies
    → KindsAgree kinds (changed f policies place)
kinds_changed f keeps [] [] place h = tt
kinds_changed f keeps [] (p ∷ policies) place h = absurd h
kinds_changed f keeps (k ∷ kinds) [] place h = absurd h
kinds_changed f keeps (k ∷ kinds) (p ∷ policies) zero h = (h.0 ∙ keeps.kind p, h.1 ∙ keeps.width p, h.2)
kinds_changed f keeps (k ∷ kinds) (p ∷ policies) (suc place) h = (h.0, h.1, kinds_changed f keeps kinds policies place h.2)

pub kinds_changed_of : (f : PolicySeen → PolicySeen) → KeepsKind f → (kinds : List PolicyKind) (policies : List PolicySeen) (live : Option Live)
    → KindsAgree kinds policies → KindsAgree kinds (changed_of f live policies)
kinds_changed_of f keeps kinds policies None h = h
kinds_changed_of f keeps kinds policies (Some live) h = kinds_changed f keeps kinds policies live.place h

pub kinds_emptied : (kinds : List PolicyKind) (policies : List PolicySeen) → KindsAgree kinds policies → KindsAgree kinds (map emptied policies)
kinds_emptied [] [] h = tt
kinds_emptied [] (p ∷ policies) h = absurd h
kinds_emptied (k ∷ kinds) [] h = absurd h
kinds_emptied (k ∷ kinds) (p ∷ policies) h = (h.0, h.1, kinds_emptied kinds policies h.2)

-- what is done to a policy keeps its kind where that is plain
pub plain : (f : PolicySeen → PolicySeen) → ((p : PolicySeen) → (p.kind ≡ (f p).kind) × (p.width ≡ (f p).width)) → KeepsKind f
plain f h = record { kind = λ p. (h p).0; width = λ p. (h p).1 }
