-- From one action of a load to the next the moment never falls.
use Rattle.std.proofs.Common.{◌≡◌, ℕ, zero, suc, ◌+◌, ◌-◌, ◌*◌, ◌≤◌, ◌<◌, List, [], ◌∷◌, ◌++◌, length, map, get_or, refl, subst, arith}
use Rattle.std.proofs.Math.Nat.{le_refl, le_trans}
use Rattle.std.specs.List.{flat_map, range_with_len}
use Rattle.std.specs.List.Sorted.{IsNonDecreasingBy}
use Rattle.load_plan.specs.declared.action.LoadAction.{LoadAction}
use Rattle.load_plan.specs.Batches.{batch_moment, batches_of, calls_in, round_nanos}
use Rattle.load_plan.specs.Plan.{actions_of, batch_actions, call_actions, moment_of, opening, round_actions, takes_at}

-- the moments rise from the first bound to the second
abbrev Climbs : ℕ → List LoadAction → ℕ → Type 0
Climbs low [] high = low ≤ high
Climbs low (x ∷ xs) high = (low ≤ moment_of x) × Climbs (moment_of x) xs high

from_lower : (low mid high : ℕ) (xs : List LoadAction) → low ≤ mid → Climbs mid xs high → Climbs low xs high
from_lower low mid high [] below rest = le_trans below rest
from_lower low mid high (x ∷ xs) below rest = (le_trans below rest.0, rest.1)

joined : (low mid high : ℕ) (xs ys : List LoadAction) → Climbs low xs mid → Climbs mid ys high → Climbs low (xs ++ ys) high
joined low mid high [] ys first second = from_lower low mid high ys first second
joined low mid high (x ∷ xs) ys first second = (first.0, joined (moment_of x) mid high xs ys first.1 second)

-- lists that each rise from the bound of their number to the next one's
run_climbs : (bound : ℕ → ℕ) (f : ℕ → List LoadAction) (k n j : ℕ) → k + n ≡ j → ((i : ℕ) → Climbs (bound i) (f i) (bound (i + 1))) → Climbs (bound k) (flat_map f (range_with_len k n)) (bound j)
run_climbs bound f k zero j e each =
    let same : k ≡ j = omega (arith, e) in
    subst (λ i. bound k ≤ bound i) same (le_refl (bound k))
run_climbs bound f k (suc n) j e each =
    let afterwards : k + 1 + n ≡ j = omega (arith, e) in
    joined (bound k) (bound (k + 1)) (bound j) (f k) (flat_map f (range_with_len (k + 1) n)) (each k) (run_climbs bound f (k + 1) n j afterwards each)

call_climbs : (seed moment call : ℕ) → Climbs moment (call_actions seed moment call) moment
call_climbs seed moment call = let same : moment ≤ moment = le_refl moment in (same, (same, (same, (same, same))))

calls_climb : (seed moment a n : ℕ) → Climbs moment (flat_map (call_actions seed moment) (range_with_len a n)) moment
calls_climb seed moment a n = run_climbs (λ _. moment) (call_actions seed moment) a n (a + n) refl (λ call. call_climbs seed moment call)

takes_climb : (moment a n : ℕ) → Climbs moment (map (takes_at moment) (range_with_len a n)) moment
takes_climb moment a zero = le_refl moment
takes_climb moment a (suc n) = (le_refl moment, takes_climb moment (a + 1) n)

-- the end of a round, from 1, is that of the one before and a round more
round_climbs : (begun round : ℕ) → Climbs (begun + (round - 1) * round_nanos) (round_actions begun round) (begun + (round + 1 - 1) * round_nanos)
round_climbs begun round =
    let rises : begun + (round - 1) * round_nanos ≤ begun + round * round_nanos = omega arith in
    let ends : begun + round * round_nanos ≤ begun + (round + 1 - 1) * round_nanos = omega arith in
    (rises, (le_refl (begun + round * round_nanos), ends))

rounds_climb : (begun : ℕ) → Climbs begun (flat_map (round_actions begun) (range_with_len 1 16)) (begun + 16 * round_nanos)
rounds_climb begun =
    let low : begun ≤ begun + (1 - 1) * round_nanos = omega arith in
    from_lower begun (begun + (1 - 1) * round_nanos) (begun + 16 * round_nanos) (flat_map (round_actions begun) (range_with_len 1 16)) low
    (run_climbs (λ round. begun + (round - 1) * round_nanos) (round_actions begun) 1 16 17 refl (round_climbs begun))

batch_climbs : (seed calls number : ℕ) → Climbs (batch_moment number) (batch_actions seed calls number) (batch_moment (number + 1))
batch_climbs seed calls number =
    let begun : ℕ = batch_moment number in
    let ended : ℕ = batch_moment (number + 1) in
    let next : begun + 16 * round_nanos ≡ ended = omega arith in
    let rounds : Climbs begun (flat_map (round_actions begun) (range_with_len 1 16)) ended =
    subst (λ m. Climbs begun (flat_map (round_actions begun) (range_with_len 1 16)) m) next (rounds_climb begun) in
    joined begun ended ended
    (flat_map (call_actions seed begun) (calls_in calls number) ++ flat_map (round_actions begun) (range_with_len 1 16))
    (map (takes_at ended) (calls_in calls number))
    (joined begun begun ended (flat_map (call_actions seed begun) (calls_in calls number)) (flat_map (round_actions begun) (range_with_len 1 16)) (calls_climb seed begun _ _) rounds)
    (takes_climb ended _ _)

opening_climbs : Climbs 0 opening 0
opening_climbs = let same : 0 ≤ 0 = le_refl 0 in (same, (same, (same, (same, (same, (same, same))))))

load_climbs : (seed calls : ℕ) → Climbs 0 (actions_of seed calls) (batch_moment (batches_of calls))
load_climbs seed calls =
    let all : 0 + batches_of calls ≡ batches_of calls = omega arith in
    joined 0 0 (batch_moment (batches_of calls)) opening (flat_map (batch_actions seed calls) (range_with_len 0 (batches_of calls))) opening_climbs
    (run_climbs batch_moment (batch_actions seed calls) 0 (batches_of calls) (batches_of calls) all (batch_climbs seed calls))

above : (low high : ℕ) (xs : List LoadAction) (j : ℕ) (d : LoadAction) → Climbs low xs high → j < length xs → low ≤ moment_of (get_or xs j d)
above low high [] j d rest within = absurd (omega (arith, within))
above low high (x ∷ xs) zero d rest within = rest.0
above low high (x ∷ xs) (suc j) d rest within =
    let shorter : j < length xs = omega (arith, within) in
    le_trans rest.0 (above (moment_of x) high xs j d rest.1 shorter)

in_order : (low high : ℕ) (xs : List LoadAction) → Climbs low xs high → (i j : ℕ) (d : LoadAction) → i ≤ j → j < length xs → moment_of (get_or xs i d) ≤ moment_of (get_or xs j d)
in_order low high [] rest i j d before within = absurd (omega (arith, within))
in_order low high (x ∷ xs) rest zero zero d before within = le_refl (moment_of x)
in_order low high (x ∷ xs) rest zero (suc j) d before within =
    let shorter : j < length xs = omega (arith, within) in
    above (moment_of x) high xs j d rest.1 shorter
in_order low high (x ∷ xs) rest (suc i) zero d before within = absurd (omega (arith, before))
in_order low high (x ∷ xs) rest (suc i) (suc j) d before within =
    let below : i ≤ j = omega (arith, before) in
    let shorter : j < length xs = omega (arith, within) in
    in_order (moment_of x) high xs rest.1 i j d below shorter

pub never_fall : (seed calls : ℕ) → IsNonDecreasingBy moment_of (actions_of seed calls)
never_fall seed calls = in_order 0 (batch_moment (batches_of calls)) (actions_of seed calls) (load_climbs seed calls)
