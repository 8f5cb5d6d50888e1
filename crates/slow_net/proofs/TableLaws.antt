-- Tiers, one by one.
use Rattle.std.proofs.Common.{◌≡◌, ℕ, zero, suc, ◌+◌, ◌-◌, ◌*◌, ◌<◌, Bool, cond, Option, Some, List, length, min, take, drop, ap, refl, arith}
use Rattle.std.proofs.lemmas.List.{take_min, drop_min}
use Rattle.lb_policy.specs.declared.seen.SubSeen.{SubSeen}
use Rattle.lb_policy.specs.Table.{tier}
use Rattle.slow_net.specs.Parts.{first_of_tiers}

-- a tier by its places in the view
pub tier_at : (w : ℕ) (view : List SubSeen) (place : ℕ) → take (min w (length (drop (min (place * w) (length view)) view))) (drop (min (place * w) (length view)) view) ≡ tier w view place
tier_at w view place = rw (take_min, drop_min) refl

-- one tier less
pub tier_step : (p : List SubSeen → Bool) (w : ℕ) (view : List SubSeen) (t n : ℕ) → 0 < n → first_of_tiers p w view t n ≡ cond (p (tier w view t)) (Some t) (first_of_tiers p w view (t + 1) (n - 1))
tier_step p w view t zero h = search arith
tier_step p w view t (suc n) h =
    let same : n ≡ suc n - 1 = omega arith in
    ap (λ (m : ℕ). cond (p (tier w view t)) (Some t) (first_of_tiers p w view (t + 1) m)) same
