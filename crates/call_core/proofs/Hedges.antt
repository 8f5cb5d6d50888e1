-- What the end of a hedged attempt means.
use Rattle.std.proofs.Common.{◌≡◌, ◌≤◌, ℕ, Bool, true, false, not, ◌&&◌, ◌||◌, ◌==◌, nat_le, if◌then◌else◌, Option, Some, None, refl, ap, ◌∙◌, arith}
use Rattle.std.proofs.Math.Nat.{max-eq_left}
use Rattle.std.proofs.lemmas.Bool.{ne_eqb}
use Rattle.std.specs.Option.{option_map_or}
use Rattle.grpc_base.specs.Codes.{has_code}
use Rattle.grpc_base.specs.declared.plan.CallPlan.TheVariants as plans
use Rattle.grpc_base.specs.declared.plan.HedgePolicy.{HedgePolicy}
use Rattle.attempt_ledger.specs.declared.row.RowEnd.{RowEnd}
use Rattle.hedge_core.specs.DueMoments.{delayed_due, forced_by, is_over, next_of, stops}
use Rattle.hedge_core.specs.declared.hedges.HedgeState.{HedgeState}
use Rattle.call_core.specs.declared.attempts.Attempts.{Attempts}
use Rattle.call_core.specs.declared.judge.Judged.{Judged}
use Rattle.call_core.specs.Laws.{hedged_end}
use Rattle.call_core.specs.Parts.{from_one, hedge_after, is_final, judged}

final_over : (alone over : Bool) (forced : ℕ) (delayed : Option ℕ) → (alone && is_final (next_of (if over then None else option_map_or (λ f. Some f) (Some forced) delayed))) ≡ (alone && over)
final_over alone true forced delayed = refl
final_over alone false forced delayed = refl

closes_if : (in_set alone over : Bool) (forced : ℕ) (before delayed : Option ℕ) → (not in_set || (alone && is_final (next_of (if over then None else option_map_or (λ f. Some f) (if in_set then Some forced else before) delayed)))) ≡ (not in_set || (alone && over))
closes_if true alone over forced before delayed = final_over alone over forced delayed
closes_if false alone over forced before delayed = refl

or_none : (b c : Bool) → (b || false || c) ≡ (b || c)
or_none true c = refl
or_none false c = refl

over_sent : (stopped : Bool) (most sent : ℕ) → 1 ≤ sent → (stopped || (from_one sent == 0) || nat_le most (from_one sent)) ≡ (stopped || nat_le most sent)
over_sent stopped most sent some =
    let n : from_one sent ≡ sent = max-eq_left some in
    let none : (sent == 0) ≡ false = ne_eqb sent 0 (λ e. let no : ⊥ = omega (arith, some, e) in no) in
    ap (λ (k : ℕ). stopped || (k == 0) || nat_le most k) n ∙ ap (λ (b : Bool). stopped || b || nat_le most sent) none ∙ or_none stopped (nat_le most sent)

pub hedge_end : (policy : HedgePolicy) (a : Attempts) (number : ℕ) (is_alone : Bool) (end : RowEnd) (above : Bool) (word : ℕ) → 1 ≤ a.sent → judged (plans.Hedge policy) a number is_alone end above word ≡ hedged_end policy a is_alone end above
hedge_end policy a number is_alone end above word some =
    let after : HedgeState = hedge_after policy a end above in
    let in_set : Bool = has_code policy.codes end.code in
    let closes : Bool → Judged =
    λ (c : Bool). record { attempts = record a { forced = (if in_set then Some (forced_by end) else a.forced); stopped = a.stopped || stops policy end above }; word = None; closes = c } in
    ap closes (closes_if in_set is_alone (is_over policy after) (forced_by end) a.forced (delayed_due policy after))
    ∙ ap (λ (b : Bool). closes (not in_set || (is_alone && b))) (over_sent (a.stopped || stops policy end above) policy.max a.sent some)
