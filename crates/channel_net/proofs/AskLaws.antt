-- No policy has more turns than the pick requests that were counted.
use Rattle.std.proofs.Common.{◌≡◌, ℕ, zero, suc, ◌+◌, ◌≤◌, ◌<◌, Bool, true, false, ◌&&◌, nat_lt, is_some, if◌then◌else◌, Option, Some, None, IsSomeAnd, List, [], ◌∷◌, map, slice_get, refl, arith}
use Rattle.std.proofs.lemmas.Bool.Decides.{nat_tests}
use Rattle.std.specs.Option.{option_map}
use Rattle.grpc_base.specs.declared.event.Conn.{Conn}
use Rattle.grpc_base.specs.declared.kind.Kind.{Kind}
use Rattle.lb_policy.specs.declared.seen.SubSeen.{SubSeen}
use Rattle.lb_policy.specs.Table.{PolicySeen}
use Rattle.lb_policy.specs.Steps.{emptied, given, noted, turned}
use Rattle.policy_rack.specs.declared.live.Live.{Live}
use Rattle.policy_rack.specs.Steps.{RackSeen, changed, changed_of, policy_of, live_of, is_at, begun, renewed, adopted, noted_by_live, may_take_over, taken_over, asked, all_retired}
use Rattle.channel_net.specs.Askers.{TurnsWithin, may_ask}

within-more : (n m : ℕ) (ps : List PolicySeen) → n ≤ m → TurnsWithin n ps → TurnsWithin m ps
within-more n m [] h w = tt
within-more n m (p ∷ ps) h w = let here : p.turns ≤ n = w.0 in (omega arith, within-more n m ps h w.1)

within-changed : (n m : ℕ) (f : PolicySeen → PolicySeen) (ps : List PolicySeen) (place : ℕ) → n ≤ m → ((p : PolicySeen) → p.turns ≤ n → (f p).turns ≤ m) → TurnsWithin n ps → TurnsWithin m (changed f ps place)
within-changed n m f [] place h step w = tt
within-changed n m f (p ∷ ps) zero h step w = (step p w.0, within-more n m ps h w.1)
within-changed n m f (p ∷ ps) (suc place) h step w =
    let here : p.turns ≤ n = w.0 in (omega arith, within-changed n m f ps place h step w.1)

within-changed_of : (n m : ℕ) (f : PolicySeen → PolicySeen) (live : Option Live) (ps : List PolicySeen) → n ≤ m → ((p : PolicySeen) → p.turns ≤ n → (f p).turns ≤ m) → TurnsWithin n ps → TurnsWithin m (changed_of f live ps)
within-changed_of n m f None ps h step w = within-more n m ps h w
within-changed_of n m f (Some live) ps h step w = within-changed n m f ps live.place h step w

zero-within : (n : ℕ) → zero ≤ n
zero-within n = omega arith

same-within : (n : ℕ) → n ≤ n
same-within n = omega arith

of-emptied : (n : ℕ) (live : Option Live) (ps : List PolicySeen) → TurnsWithin n ps → TurnsWithin n (changed_of emptied live ps)
of-emptied n live ps w = within-changed_of n n emptied live ps (same-within n) (λ p h. zero-within n) w

of-given : (n : ℕ) (subs : List SubSeen) (place : ℕ) (ps : List PolicySeen) → TurnsWithin n ps → TurnsWithin n (changed (given subs) ps place)
of-given n subs place ps w = within-changed n n (given subs) ps place (same-within n) (λ p h. h) w

of-noted : (n sub : ℕ) (state : Conn) (live : Option Live) (ps : List PolicySeen) → TurnsWithin n ps → TurnsWithin n (changed_of (noted sub state) live ps)
of-noted n sub state live ps w = within-changed_of n n (noted sub state) live ps (same-within n) (λ p h. h) w

either : (n : ℕ) (b : Bool) (r s : RackSeen) → TurnsWithin n r.policies → TurnsWithin n s.policies → TurnsWithin n (if b then r else s).policies
either n true r s x y = x
either n false r s x y = y

pub within-new : (ps : List PolicySeen) → TurnsWithin 0 (map emptied ps)
within-new [] = tt
within-new (p ∷ ps) = (same-within 0, within-new ps)

pub within-adopted : (n : ℕ) (subs : List SubSeen) (o : Option ℕ) (r : RackSeen) → TurnsWithin n r.policies → TurnsWithin n (adopted subs o r).policies
within-adopted n subs None r w = w
within-adopted n subs (Some place) r w =
    let dropped : TurnsWithin n (changed_of emptied r.pending r.policies) = of-emptied n r.pending r.policies w in
    let fresh : TurnsWithin n (changed (given subs) (changed_of emptied r.pending r.policies) place) = of-given n subs place (changed_of emptied r.pending r.policies) dropped in
    let updated : RackSeen = record r { policies = changed (given subs) r.policies place } in
    let other : RackSeen = if is_at place r.pending then updated else begun subs place r in
    either n (is_at place r.current) (renewed subs place r) other fresh (either n (is_at place r.pending) updated (begun subs place r) (of-given n subs place r.policies w) fresh)

pub within-noted : (n sub : ℕ) (state : Conn) (r : RackSeen) → TurnsWithin n r.policies → TurnsWithin n (noted_by_live sub state r).policies
within-noted n sub state r w =
    of-noted n sub state r.pending (changed_of (noted sub state) r.current r.policies) (of-noted n sub state r.current r.policies w)

pub within-taken_over : (n : ℕ) (r : RackSeen) → TurnsWithin n r.policies → TurnsWithin n (if may_take_over r then taken_over r else r).policies
within-taken_over n r w = either n (may_take_over r) (taken_over r) r (of-emptied n r.current r.policies w) w

pub within-asked : (n : ℕ) (r : RackSeen) → TurnsWithin n r.policies → TurnsWithin (n + 1) (asked r).policies
within-asked n r w =
    let more : n ≤ n + 1 = omega arith in
    within-changed_of n (n + 1) turned r.current r.policies more (λ p h. let g : p.turns + 1 ≤ n + 1 = omega arith in g) w

pub within-retired : (n : ℕ) (r : RackSeen) → TurnsWithin n r.policies → TurnsWithin n (all_retired r).policies
within-retired n r w = of-emptied n r.pending (changed_of emptied r.current r.policies) (of-emptied n r.current r.policies w)

-- the current policy may be asked
at-place : (n : ℕ) (ps : List PolicySeen) (i : ℕ) (live : Live) → is_some {T = ℕ × Kind} (option_map (λ (p : PolicySeen). (live.generation, p.kind)) (slice_get ps i)) ≡ true → n < 18446744073709551615 → TurnsWithin n ps → IsSomeAnd (slice_get ps i) (λ p. p.turns < 18446744073709551615)
at-place n [] i live e h w = let g : ⊥ = (cc) in absurd g
at-place n (p ∷ ps) zero live e h w = let here : p.turns ≤ n = w.0 in omega arith
at-place n (p ∷ ps) (suc i) live e h w = at-place n ps i live e h w.1

by-live : (n : ℕ) (ps : List PolicySeen) (o : Option Live) → is_some (live_of ps o) ≡ true → n < 18446744073709551615 → TurnsWithin n ps → IsSomeAnd (policy_of ps o) (λ p. p.turns < 18446744073709551615)
by-live n ps None e h w = let g : ⊥ = (cc) in absurd g
by-live n ps (Some live) e h w = at-place n ps live.place live e h w

both_true : (p q : Bool) → (p && q) ≡ true → (p ≡ true) × (q ≡ true)
both_true true q e = (refl, e)
both_true false q e = let no : ⊥ = (cc) in absurd no

below : (n m : ℕ) → nat_lt n m ≡ true → n < m
below n m e = grind (arith, nat_tests)

pub may-turn : (n : ℕ) (r : RackSeen) → may_ask (record { rack = r; asks = n }) ≡ true → TurnsWithin n r.policies → IsSomeAnd (policy_of r.policies r.current) (λ p. p.turns < 18446744073709551615)
may-turn n r e w =
    let both : (is_some (live_of r.policies r.current) ≡ true) × (nat_lt n 18446744073709551615 ≡ true) = both_true (is_some (live_of r.policies r.current)) (nat_lt n 18446744073709551615) e in
    by-live n r.policies r.current both.0 (below n 18446744073709551615 both.1) w
