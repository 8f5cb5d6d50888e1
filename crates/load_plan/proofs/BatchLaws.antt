-- The batches of a load have each of its calls once.
use Rattle.std.proofs.Common.{◌≡◌, ℕ, zero, suc, ◌+◌, ◌-◌, ◌*◌, ◌≤◌, ◌<◌, Bool, true, false, nat_le, ◌++◌, min, refl, ap, ◌∙◌, arith}
use Rattle.std.proofs.lemmas.Bool.Decides.{nat_tests}
use Rattle.std.proofs.lemmas.List.{append-nil}
use Rattle.std.specs.List.{flat_map, range_with_len}
use Rattle.load_plan.specs.Batches.{batches_of, calls_in}
use Rattle.load_plan.proofs.Runs.{range_join}

-- the calls of a batch and all after it are the calls from its first one on: it is full, or none is after it
joined : (calls k : ℕ) (full : Bool) → nat_le 16 (calls - 16 * k) ≡ full → calls_in calls k ++ range_with_len (16 * (k + 1) + 1) (calls - 16 * (k + 1)) ≡ range_with_len (16 * k + 1) (calls - 16 * k)
joined calls k true t =
    let enough : 16 ≤ calls - 16 * k = grind (arith, nat_tests) in
    let start : 16 * k + 1 + min 16 (calls - 16 * k) ≡ 16 * (k + 1) + 1 = omega (arith, enough) in
    let count : min 16 (calls - 16 * k) + (calls - 16 * (k + 1)) ≡ calls - 16 * k = omega (arith, enough) in
    range_join (16 * k + 1) (min 16 (calls - 16 * k)) (calls - 16 * (k + 1)) (16 * (k + 1) + 1) (calls - 16 * k) start count
joined calls k false t =
    let few : calls - 16 * k < 16 = grind (arith, nat_tests) in
    let none : calls - 16 * (k + 1) ≡ 0 = omega (arith, few) in
    let whole : min 16 (calls - 16 * k) ≡ calls - 16 * k = omega (arith, few) in
    ap (λ n. calls_in calls k ++ range_with_len (16 * (k + 1) + 1) n) none
    ∙ append-nil (calls_in calls k)
    ∙ ap (range_with_len (16 * k + 1)) whole

from_batch : (calls k n : ℕ) → batches_of calls ≡ k + n → flat_map (calls_in calls) (range_with_len k n) ≡ range_with_len (16 * k + 1) (calls - 16 * k)
from_batch calls k zero e =
    let none : 0 ≡ calls - 16 * k = omega (arith, e) in
    ap (range_with_len (16 * k + 1)) none
from_batch calls k (suc n) e =
    let afterwards : batches_of calls ≡ k + 1 + n = omega (arith, e) in
    ap (λ xs. calls_in calls k ++ xs) (from_batch calls (k + 1) n afterwards)
    ∙ joined calls k (nat_le 16 (calls - 16 * k)) refl

pub each_call_once : (calls : ℕ) → flat_map (calls_in calls) (range_with_len 0 (batches_of calls)) ≡ range_with_len 1 calls
each_call_once calls =
    let all : batches_of calls ≡ 0 + batches_of calls = omega arith in
    let whole : calls - 16 * 0 ≡ calls = omega arith in
    from_batch calls 0 (batches_of calls) all ∙ ap (range_with_len 1) whole
