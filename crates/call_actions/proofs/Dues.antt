-- The next attempt of a call is due in session and channel at one moment; and the tokens forbid a hedge in both or in none.
use Rattle.std.proofs.Common.{◌≡◌, ◌+◌, ◌||◌, ◌&&◌, ◌==◌, not, nat_le, ap, arith, refl, ◌∙◌, Bool, true, false, List, Option, None, Some, ℕ, if◌then◌else◌}
use Rattle.std.proofs.lemmas.Bool.{eq-eqb, eqb-true}
use Rattle.std.specs.Option.{option_map, option_map_or, option_or}
use Rattle.std.specs.Prelude.{unwrap_or}
use Rattle.attempt_ledger.specs.Ends as above
use Rattle.attempt_ledger.specs.Hedging.{is_hedge}
use Rattle.attempt_ledger.specs.Numbering.{kind_by_number, later_kind}
use Rattle.attempt_ledger.specs.declared.row.RowKind.TheVariants as kind
use Rattle.call_actions.specs.Laws.{AttemptsAreDue, HedgesAreTested}
use Rattle.call_actions.specs.Sees.{DuesAgree, Sees, bucket_of}
use Rattle.call_core.specs.Parts as parts
use Rattle.call_core.specs.Parts.{is_tested, next_of_plan}
use Rattle.call_core.specs.Steps.{Stepped, call_plan}
use Rattle.call_core.specs.declared.attempts.Attempts.{Attempts}
use Rattle.grpc_base.specs.declared.plan.CallPlan.{CallPlan}
use Rattle.grpc_base.specs.declared.plan.CallPlan.TheVariants as plan
use Rattle.grpc_base.specs.declared.plan.HedgePolicy.{HedgePolicy}
use Rattle.hedge_core.specs.DueMoments as hedging
use Rattle.service_config.specs.Choice.{chosen_for}
use Rattle.session_actions.specs.Configs.{config_of_call, no_choice, plan_of}
use Rattle.session_actions.specs.DueAttempts.{attempts_made, due_by, due_state, hedge_due}
use Rattle.session_actions.specs.Tokens.{has_tokens, run_of, tokens_in}
use Rattle.session_actions.specs.declared.call.Call.{Call}
use Rattle.session_actions.specs.declared.config.HeldConfig.{HeldConfig}
use Rattle.session_actions.specs.declared.config.ThrottleRun.{ThrottleRun}
use Rattle.session_actions.specs.declared.due.DueState.{DueState}
use Rattle.session_actions.specs.declared.seen.Seen.{Seen}

-- the plan of a call
plan_by : (o : Option HeldConfig) (path : List ℕ)
    → (option_map_or (λ (h : HeldConfig). chosen_for h.config path) o no_choice).plan ≡ parts.plan_of (option_map (λ (h : HeldConfig). chosen_for h.config path) o)
plan_by None path = refl
plan_by (Some h) path = refl

pub plan_is : (s : Seen) (c : Call) (x : Stepped) → Sees s c x → plan_of c s ≡ call_plan x.call
plan_is s c x h = plan_by (config_of_call c s) c.request.path ∙ ap parts.plan_of h.chosen

-- a moment that is set
if_free : (stopped most : Bool) (x y : Option ℕ) → (stopped ≡ false → x ≡ y) → (if stopped || most then None else x) ≡ (if stopped || most then None else y)
if_free true most x y e = refl
if_free false true x y e = refl
if_free false false x y e = e refl

or_none : (x : Option ℕ) → option_or x None ≡ x
or_none None = refl
or_none (Some t) = refl

or_as : (x y : Option ℕ) → option_or x y ≡ option_map_or (λ (t : ℕ). Some t) x y
or_as None y = refl
or_as (Some t) y = refl

not_first : (stopped first most : Bool) → first ≡ false → (stopped || most) ≡ ((stopped || first) || most)
not_first true first most e = refl
not_first false true most e = absurd (cc)
not_first false false most e = refl

module _ (d : DueState) (a : Attempts) (due : DuesAgree d a) (unplaced : a.sent ≡ 0 → a.placed ≡ None) where
  forced_by : (most : ℕ) → (if d.stopped || nat_le most a.sent then None else option_or d.forced None) ≡ parts.next_forced most a
  forced_by most =
      ap (λ (b : Bool). if b || nat_le most a.sent then None else option_or d.forced None) due.stopped
      ∙ if_free a.stopped (nat_le most a.sent) (option_or d.forced None) a.forced (λ free. or_none d.forced ∙ due.forced free)

  hedge_by : (p : HedgePolicy) (x : Bool) → (a.sent == 0) ≡ x → due_by (plan.Hedge p) a.sent d ≡ (if x then parts.next_forced p.max a else hedging.next_due p (parts.hedge_of a))
  hedge_by p true first =
      let none : d.placed ≡ None = due.placed ∙ unplaced (eqb-true a.sent 0 first) in
      ap (λ (o : Option ℕ). if d.stopped || nat_le p.max a.sent then None else option_or d.forced (option_map (λ (t : ℕ). t + p.delay) o)) none ∙ forced_by p.max
  hedge_by p false later =
      ap (λ (b : Bool). if b || nat_le p.max a.sent then None else option_or d.forced (hedge_due (plan.Hedge p) d)) due.stopped
      ∙ if_free a.stopped (nat_le p.max a.sent) (option_or d.forced (hedge_due (plan.Hedge p) d)) (option_map_or (λ (t : ℕ). Some t) a.forced (option_map (λ (t : ℕ). t + p.delay) a.placed))
      (λ free. ap (λ (o : Option ℕ). option_or o (hedge_due (plan.Hedge p) d)) (due.forced free) ∙ ap (λ (o : Option ℕ). option_or a.forced (option_map (λ (t : ℕ). t + p.delay) o)) due.placed
      ∙ or_as a.forced (option_map (λ (t : ℕ). t + p.delay) a.placed))
      ∙ ap (λ (b : Bool). if b then None else option_map_or (λ (t : ℕ). Some t) a.forced (option_map (λ (t : ℕ). t + p.delay) a.placed)) (not_first a.stopped (a.sent == 0) (nat_le p.max a.sent) later)

  due_is : (p : CallPlan) → due_by p a.sent d ≡ next_of_plan p a
  due_is plan.None = forced_by 1
  due_is (plan.Retry p) = forced_by p.max
  due_is (plan.Hedge p) = hedge_by p (a.sent == 0) refl

pub attempts_are_due : AttemptsAreDue
attempts_are_due s c x h =
    ap (λ (p : CallPlan). due_by p (attempts_made c s) (due_state c s)) (plan_is s c x h)
    ∙ ap (λ (k : ℕ). due_by (call_plan x.call) k (due_state c s)) h.attempts.sent
    ∙ due_is (due_state c s) x.call.attempts h.attempts.due h.attempts.unplaced (call_plan x.call)

-- whether the next one is a hedge
pub one_by : (n : ℕ) (x y : Bool) → (n + 1 == 1) ≡ x → (n == 0) ≡ y → x ≡ y
one_by n true true e f = refl
one_by n false false e f = refl
one_by n true false e f =
    let zero_is : n ≡ 0 = (let one : n + 1 ≡ 1 = eqb-true (n + 1) 1 e in omega arith) in
    let same : (n == 0) ≡ true = eq-eqb n 0 zero_is in absurd (cc)
one_by n false true e f =
    let zero_is : n + 1 ≡ 1 = (let none : n ≡ 0 = eqb-true n 0 f in omega arith) in
    let same : (n + 1 == 1) ≡ true = eq-eqb (n + 1) 1 zero_is in absurd (cc)

tested_by : (p : CallPlan) (a : Attempts) (x : Bool) → x ≡ (a.sent == 0)
    → is_hedge (unwrap_or (if x then Some kind.First else later_kind p) kind.First) ≡ is_tested p a
tested_by plan.None a true e = refl
tested_by plan.None a false e = refl
tested_by (plan.Retry p) a true e = refl
tested_by (plan.Retry p) a false e = refl
tested_by (plan.Hedge p) a true e = ap (λ (b : Bool). not b) e
tested_by (plan.Hedge p) a false e = ap (λ (b : Bool). not b) e

tokens_by : (s : Seen) (o : Option ThrottleRun)
    → above.is_above (option_map (λ (run : ThrottleRun). run.throttle) o) (option_map (λ (run : ThrottleRun). tokens_in run s) o) ≡ parts.is_above (option_map (bucket_of s) o)
tokens_by s None = refl
tokens_by s (Some run) = refl

pub hedges_are_tested : HedgesAreTested
hedges_are_tested s c x h =
    let made : attempts_made c s ≡ x.call.attempts.sent = h.attempts.sent in
    let first : (attempts_made c s + 1 == 1) ≡ (x.call.attempts.sent == 0)
    = one_by (attempts_made c s) (attempts_made c s + 1 == 1) (attempts_made c s == 0) refl refl ∙ ap (λ (k : ℕ). k == 0) made in
    ap (λ (p : CallPlan). is_hedge (unwrap_or (kind_by_number p (attempts_made c s + 1)) kind.First) && not (has_tokens c s)) (plan_is s c x h)
    ∙ ap (λ (b : Bool). b && not (has_tokens c s)) (tested_by (call_plan x.call) x.call.attempts (attempts_made c s + 1 == 1) first)
    ∙ ap (λ (b : Bool). is_tested (call_plan x.call) x.call.attempts && not b) (tokens_by s (run_of c s) ∙ ap parts.is_above h.tokens)
