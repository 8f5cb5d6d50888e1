-- What an end says, session and channel read alike: whether it is followed, what it does to the tokens.
use Rattle.std.proofs.Common.{◌≡◌, ◌-◌, ◌+◌, ◌||◌, ◌&&◌, not, ap, arith, refl, sym, ◌∙◌, Bool, true, false, Option, None, Some, ℕ, if◌then◌else◌, min, option_map}
use Rattle.a6_numbers.specs.Throttling.{after_failure, after_success}
use Rattle.attempt_ledger.specs.Ends as above
use Rattle.attempt_ledger.specs.Ends.{is_stop}
use Rattle.attempt_ledger.specs.Throttling.{codes_of, is_success}
use Rattle.attempt_ledger.specs.TransparentRows as followers
use Rattle.attempt_ledger.specs.TransparentRows.{is_by_peer}
use Rattle.attempt_ledger.specs.declared.row.RowCause.{RowCause}
use Rattle.attempt_ledger.specs.declared.row.RowCause.TheVariants as cause
use Rattle.call_actions.proofs.Frames.{bucket_by}
use Rattle.call_core.specs.Parts as parts
use Rattle.call_core.specs.Parts.{is_in_set, is_ok, is_refusal, settled_bucket}
use Rattle.grpc_base.specs.Codes.{has_code, no_codes}
use Rattle.grpc_base.specs.declared.code.Code.{Code}
use Rattle.grpc_base.specs.declared.code.Code.TheVariants as code
use Rattle.grpc_base.specs.declared.plan.CallPlan.{CallPlan}
use Rattle.grpc_base.specs.declared.plan.CallPlan.TheVariants as plan
use Rattle.grpc_base.specs.declared.plan.Pushback.{Pushback}
use Rattle.session_actions.specs.Tokens.{tokens_after}
use Rattle.session_actions.specs.declared.config.ThrottleRun.{ThrottleRun}

-- whether a transparent retry follows
unsent_is : (why : RowCause) → followers.is_unsent why ≡ parts.is_unsent why
unsent_is cause.Unsent = refl
unsent_is _ = refl

peer_is : (why : RowCause) → is_by_peer why ≡ is_refusal why
peer_is cause.Reset = refl
peer_is cause.Goaway = refl
peer_is _ = refl

and_swap : (x y : Bool) → (x && y) ≡ (y && x)
and_swap true true = refl
and_swap true false = refl
and_swap false true = refl
and_swap false false = refl

pub follow_is : (why : RowCause) (unseen free retried : Bool)
    → (followers.is_unsent why || (unseen && is_by_peer why && free && not retried)) ≡ (parts.is_unsent why || (is_refusal why && unseen && free && not retried))
follow_is why unseen free retried =
    ap (λ (b : Bool). b || (unseen && is_by_peer why && free && not retried)) (unsent_is why)
    ∙ ap (λ (b : Bool). parts.is_unsent why || (unseen && b && free && not retried)) (peer_is why)
    ∙ ap (λ (b : Bool). parts.is_unsent why || (b && free && not retried)) (and_swap unseen (is_refusal why))

-- the tokens after it
ok_is : (c : Code) → is_success c ≡ is_ok c
ok_is code.Ok = refl
ok_is _ = refl

no_code : (c : Code) → has_code no_codes c ≡ false
no_code code.Ok = refl
no_code _ = refl

pub in_set : (p : CallPlan) (c : Code) → has_code (codes_of p) c ≡ is_in_set p c
in_set plan.None c = no_code c
in_set (plan.Retry p) c = refl
in_set (plan.Hedge p) c = refl

min_swap : (n k : ℕ) → min n k ≡ min k n
min_swap n k = omega arith

bucket_if : (u : ThrottleRun) (n : ℕ) (ok fails : Bool)
    → (if ok then after_success (bucket_by u n) else if fails then after_failure (bucket_by u n) else bucket_by u n)
    ≡ bucket_by u (if ok then min u.throttle.start (n + u.throttle.ratio) else if fails then n - 1000 else n)
bucket_if u n true fails = ap (λ (k : ℕ). bucket_by u k) (min_swap (n + u.throttle.ratio) u.throttle.start)
bucket_if u n false true = refl
bucket_if u n false false = refl

pub settled_is : (u : ThrottleRun) (n : ℕ) (p : CallPlan) (c : Code) (asks : Pushback)
    → settled_bucket c asks (is_in_set p c) (bucket_by u n) ≡ bucket_by u (tokens_after u.throttle p c asks n)
settled_is u n p c asks =
    bucket_if u n (is_ok c) (is_in_set p c || is_stop asks)
    ∙ ap (λ (b : Bool). bucket_by u (if b then min u.throttle.start (n + u.throttle.ratio) else if is_in_set p c || is_stop asks then n - 1000 else n)) (sym (ok_is c))
    ∙ ap (λ (b : Bool). bucket_by u (if is_success c then min u.throttle.start (n + u.throttle.ratio) else if b || is_stop asks then n - 1000 else n)) (sym (in_set p c))

-- whether enough of them are left
pub above_is : (count : ThrottleRun → ℕ) (o : Option ThrottleRun)
    → above.is_above (option_map (λ (u : ThrottleRun). u.throttle) o) (option_map count o) ≡ parts.is_above (option_map (λ (u : ThrottleRun). bucket_by u (count u)) o)
above_is count None = refl
above_is count (Some u) = refl

pub count_is : (count : ThrottleRun → ℕ) (o : Option ThrottleRun) → parts.count_of (option_map (λ (u : ThrottleRun). bucket_by u (count u)) o) ≡ option_map count o
count_is count None = refl
count_is count (Some u) = refl
