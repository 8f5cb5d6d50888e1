-- Tiers by places.
use Rattle.std.proofs.Common.{◌≡◌, ℕ, ◌+◌, ◌*◌, ◌/◌, ◌<◌, ◌≤◌, ◌∙◌, Option, Some, None, List, [], take, drop, ap, sym, arith}
use Rattle.std.specs.List.{position_from}
use Rattle.std.specs.Option.{option_map, option_map_or}
use Rattle.std.proofs.Math.Nat.{add-mul, div-mul-le_self}
use Rattle.lb_policy.specs.declared.seen.SubSeen.{SubSeen}
use Rattle.lb_policy.specs.Table.{is_ready, subs_in, tier, upholds_tier, tiers_to_wish, choices_in_tiers}
use Rattle.lb_policy.proofs.TierLaws.{standing-tier, ready-tier}

-- a tier begins at its places, or before
pub start_within : (i w : ℕ) → i / w * w ≤ i
start_within i w = div-mul-le_self i w

-- the end of a tier
next-tier : (w i : ℕ) → (i / w + 1) * w ≡ i / w * w + w
next-tier w i =
    let more : (i / w + 1) * w ≡ i / w * w + 1 * w = add-mul (i / w) 1 w in
    let one : 1 * w ≡ w = omega arith in
    omega (arith, more, one)

-- the tiers up to that of the first subchannel that upholds its tier
pub wish-some : (w place : ℕ) (failed : List ℕ) (view : List SubSeen) → 0 < w → position_from (upholds_tier failed) 0 view ≡ Some place → take (place / w * w + w) view ≡ tiers_to_wish w failed view
wish-some w place failed view h e =
    ap (λ (n : ℕ). take n view) (sym (next-tier w place)) ∙ sym (ap (λ (o : Option ℕ). option_map_or (λ (k : ℕ). take ((k + 1) * w) view) o view) (standing-tier failed w view h ∙ ap (option_map (λ (i : ℕ). i / w)) e))

pub wish-none : (w : ℕ) (failed : List ℕ) (view : List SubSeen) → 0 < w → position_from (upholds_tier failed) 0 view ≡ None → view ≡ tiers_to_wish w failed view
wish-none w failed view h e =
    sym (ap (λ (o : Option ℕ). option_map_or (λ (k : ℕ). take ((k + 1) * w) view) o view) (standing-tier failed w view h ∙ ap (option_map (λ (i : ℕ). i / w)) e))

-- the tier of the first READY subchannel
pub choices-some : (w place : ℕ) (view : List SubSeen) → 0 < w → position_from (λ (s : SubSeen). is_ready s.state) 0 view ≡ Some place → subs_in is_ready (take w (drop (place / w * w) view)) ≡ choices_in_tiers w view
choices-some w place view h e =
    sym (ap (λ (o : Option ℕ). option_map_or (λ (t : ℕ). subs_in is_ready (tier w view t)) o []) (ready-tier w view h ∙ ap (option_map (λ (i : ℕ). i / w)) e))

pub choices-none : (w : ℕ) (view : List SubSeen) → 0 < w → position_from (λ (s : SubSeen). is_ready s.state) 0 view ≡ None → [] ≡ choices_in_tiers w view
choices-none w view h e =
    sym (ap (λ (o : Option ℕ). option_map_or (λ (t : ℕ). subs_in is_ready (tier w view t)) o []) (ready-tier w view h ∙ ap (option_map (λ (i : ℕ). i / w)) e))
