-- Noting the same state again changes nothing in a rack.
use Rattle.std.proofs.Common.{◌≡◌, ℕ, zero, suc, ◌∙◌, Option, Some, None, List, [], ◌∷◌, refl, ap}
use Rattle.lb_policy.specs.Table.{PolicySeen}
use Rattle.lb_policy.specs.Steps.{noted}
use Rattle.lb_policy.proofs.NoteLaws.{noted-again}
use Rattle.policy_rack.specs.declared.live.Live.{Live}
use Rattle.policy_rack.specs.Steps.{changed, changed_of}
use Rattle.policy_rack.specs.Runs.{NotingAgainChangesNothing}

-- a step that changes nothing the second time
abbrev Settles : (PolicySeen → PolicySeen) → Type 0
Settles f = (p : PolicySeen) → f (f p) ≡ f p

once-more : (f : PolicySeen → PolicySeen) → Settles f → (ps : List PolicySeen) (i : ℕ) → changed f (changed f ps i) i ≡ changed f ps i
once-more f settles [] i = refl
once-more f settles (p ∷ ps) zero = ap (λ (q : PolicySeen). q ∷ ps) (settles p)
once-more f settles (p ∷ ps) (suc i) = ap (λ (qs : List PolicySeen). p ∷ qs) (once-more f settles ps i)

both-once-more : (f : PolicySeen → PolicySeen) → Settles f → (ps : List PolicySeen) (i j : ℕ) → changed f (changed f (changed f (changed f ps i) j) i) j ≡ changed f (changed f ps i) j
both-once-more f settles [] i j = refl
both-once-more f settles (p ∷ ps) zero zero = ap (λ (q : PolicySeen). q ∷ ps) (settles (f (f p)) ∙ settles (f p))
both-once-more f settles (p ∷ ps) zero (suc j) =
    ap (λ (q : PolicySeen). q ∷ changed f (changed f ps j) j) (settles p) ∙ ap (λ (qs : List PolicySeen). f p ∷ qs) (once-more f settles ps j)
both-once-more f settles (p ∷ ps) (suc i) zero =
    ap (λ (q : PolicySeen). q ∷ changed f (changed f ps i) i) (settles p) ∙ ap (λ (qs : List PolicySeen). f p ∷ qs) (once-more f settles ps i)
both-once-more f settles (p ∷ ps) (suc i) (suc j) = ap (λ (qs : List PolicySeen). p ∷ qs) (both-once-more f settles ps i j)

of-both : (f : PolicySeen → PolicySeen) → Settles f → (c n : Option Live) (ps : List PolicySeen) → changed_of f n (changed_of f c (changed_of f n (changed_of f c ps))) ≡ changed_of f n (changed_of f c ps)
of-both f settles None None ps = refl
of-both f settles None (Some n) ps = once-more f settles ps n.place
of-both f settles (Some c) None ps = once-more f settles ps c.place
of-both f settles (Some c) (Some n) ps = both-once-more f settles ps c.place n.place

pub noting-again : NotingAgainChangesNothing
noting-again sub state r =
    ap (λ (ps : List PolicySeen). record r { policies = ps }) (of-both (noted sub state) (λ (p : PolicySeen). noted-again sub state p) r.current r.pending r.policies)
