-- A retry follows the end of an attempt exactly where the policy licenses it.
use Rattle.std.proofs.Common.{◌≡◌, ◌≤◌, ◌<◌, ℕ, ◌-◌, Bool, true, false, not, ◌&&◌, if◌then◌else◌, Option, Some, None, refl, ap, ◌∙◌, arith}
use Rattle.std.proofs.Math.Nat.{max-eq_left}
use Rattle.std.specs.Option.{is_none}
use Rattle.grpc_base.specs.declared.plan.CallPlan.TheVariants as plans
use Rattle.grpc_base.specs.declared.plan.Pushback.{Pushback}
use Rattle.grpc_base.specs.declared.plan.Pushback.TheVariants as pushback
use Rattle.grpc_base.specs.declared.plan.RetryPolicy.{RetryPolicy}
use Rattle.attempt_ledger.specs.Ends.{delay_of}
use Rattle.attempt_ledger.specs.declared.next.Next.TheVariants as next
use Rattle.attempt_ledger.specs.declared.row.RowEnd.{RowEnd}
use Rattle.retry_core.specs.Retries.{after_retryable_end, is_licensed, retry_due}
use Rattle.call_core.specs.declared.attempts.Attempts.{Attempts}
use Rattle.call_core.specs.declared.judge.Judged.{Judged}
use Rattle.call_core.specs.Laws.{licensed_retry}
use Rattle.call_core.specs.Parts.{delayed_after, due_of, from_one, is_final, judged, word_of}

due_if : (b : Bool) (due : ℕ) → due_of (if b then next.Again due else next.Final) ≡ (if b then Some due else None)
due_if true due = refl
due_if false due = refl

final_if : (b : Bool) (due : ℕ) → is_final (if b then next.Again due else next.Final) ≡ not b
final_if true due = refl
final_if false due = refl

word_if : (b : Bool) (due : ℕ) (p : Pushback) (word : ℕ) → word_of (if b then next.Again due else next.Final) p word ≡ (if b && is_none (delay_of p) then Some word else None)
word_if true due pushback.None word = refl
word_if true due (pushback.After millis) word = refl
word_if true due pushback.Stop word = refl
word_if false due p word = refl

-- the judgement for a number and a count of attempts since the last delay
abbrev judged_at : RetryPolicy → Attempts → ℕ → ℕ → RowEnd → Bool → ℕ → Judged
judged_at policy a n since end above word = record {
  attempts = record a { forced = due_of (after_retryable_end policy n since end above word); delayed = delayed_after end.pushback n a.delayed };
  word = word_of (after_retryable_end policy n since end above word) end.pushback word;
  closes = is_final (after_retryable_end policy n since end above word);
}

judged_licensed : (policy : RetryPolicy) (a : Attempts) (n since : ℕ) (end : RowEnd) (above : Bool) (word : ℕ) → judged_at policy a n since end above word ≡ licensed_retry policy a n since end above word
judged_licensed policy a n since end above word =
    let b : Bool = is_licensed policy n end above in
    let due : ℕ = retry_due policy since end word in
    let d : ℕ = delayed_after end.pushback n a.delayed in
    ap (λ (o : Option ℕ). let j : Judged = record { attempts = record a { forced = o; delayed = d }; word = word_of (after_retryable_end policy n since end above word) end.pushback word; closes = is_final (after_retryable_end policy n since end above word) } in j) (due_if b due)
    ∙ ap (λ (o : Option ℕ). let j : Judged = record { attempts = record a { forced = (if b then Some due else None); delayed = d }; word = o; closes = is_final (after_retryable_end policy n since end above word) } in j) (word_if b due end.pushback word)
    ∙ ap (λ (c : Bool). let j : Judged = record { attempts = record a { forced = (if b then Some due else None); delayed = d }; word = (if b && is_none (delay_of end.pushback) then Some word else None); closes = c } in j) (final_if b due)

pub retry_license : (policy : RetryPolicy) (a : Attempts) (number : ℕ) (is_alone : Bool) (end : RowEnd) (above : Bool) (word : ℕ) → a.delayed < number → judged (plans.Retry policy) a number is_alone end above word ≡ licensed_retry policy a number (number - a.delayed) end above word
retry_license policy a number is_alone end above word later =
    let one : 1 ≤ number = omega (arith, later) in
    let some : 1 ≤ number - a.delayed = omega (arith, later) in
    let n : from_one number ≡ number = max-eq_left one in
    let since : from_one (from_one number - a.delayed) ≡ number - a.delayed =
    ap (λ (k : ℕ). from_one (k - a.delayed)) n ∙ max-eq_left some in
    ap (λ (k : ℕ). judged_at policy a k (from_one (from_one number - a.delayed)) end above word) n
    ∙ ap (λ (k : ℕ). judged_at policy a number k end above word) since
    ∙ judged_licensed policy a number (number - a.delayed) end above word
