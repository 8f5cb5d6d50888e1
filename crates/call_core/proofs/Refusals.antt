-- One refusal by the server is followed in a call.
use Rattle.std.proofs.Common.{◌≡◌, ℕ, Bool, true, false, not, ◌&&◌, ◌||◌, if◌then◌else◌, is_some, List, [], ◌∷◌, ◌++◌, refl, ap, ◌∙◌}
use Rattle.grpc_base.specs.declared.plan.CallPlan.{CallPlan}
use Rattle.grpc_base.specs.declared.plan.CallPlan.TheVariants as plans
use Rattle.attempt_ledger.specs.declared.row.RowCause.{RowCause}
use Rattle.attempt_ledger.specs.declared.row.RowCause.TheVariants as cause
use Rattle.attempt_ledger.specs.declared.row.RowEnd.{RowEnd}
use Rattle.call_core.specs.declared.attempts.Attempts.{Attempts}
use Rattle.call_core.specs.declared.state.CallState.{CallState}
use Rattle.call_core.specs.Laws.{KeepsRefusal}
use Rattle.call_core.specs.Parts.{followed_attempts, has_none, is_above, is_followed, is_refusal, judged}
use Rattle.call_core.specs.Steps.{call_plan, is_committed_live}
use Rattle.call_core.proofs.Chains.{Chain}

or_true : (b : Bool) → (b || true) ≡ true
or_true true = refl
or_true false = refl

and_false : (b : Bool) → (b && false) ≡ false
and_false true = refl
and_false false = refl

pub refusal_spent : (a : Attempts) (row follower : ℕ) → (followed_attempts row follower true a).is_refusal_followed ≡ true
refusal_spent a row follower = or_true a.is_refusal_followed

refused_by : (a : Attempts) (unseen : Bool) → a.is_refusal_followed ≡ true → (unseen && not (is_some a.committed) && not a.is_refusal_followed) ≡ false
refused_by a true e = ap (λ (b : Bool). not (is_some a.committed) && not b) e ∙ and_false (not (is_some a.committed))
refused_by a false e = refl

pub refusal_never : (a : Attempts) (why : RowCause) (unseen : Bool) → a.is_refusal_followed ≡ true → is_refusal why ≡ true → is_followed a why unseen ≡ false
refusal_never a cause.Goaway unseen e r = refused_by a unseen e
refusal_never a cause.Reset unseen e r = refused_by a unseen e
refusal_never a cause.Unsent unseen e r = absurd (cc)
refusal_never a cause.Status unseen e r = absurd (cc)
refusal_never a cause.Http unseen e r = absurd (cc)
refusal_never a cause.Framing unseen e r = absurd (cc)
refusal_never a cause.Lost unseen e r = absurd (cc)
refusal_never a cause.Pick unseen e r = absurd (cc)
refusal_never a cause.Cut unseen e r = absurd (cc)

judged_refusal : (plan : CallPlan) (a : Attempts) (number : ℕ) (is_alone : Bool) (end : RowEnd) (above : Bool) (word : ℕ) → (judged plan a number is_alone end above word).attempts.is_refusal_followed ≡ a.is_refusal_followed
judged_refusal plans.None a number is_alone end above word = refl
judged_refusal (plans.Retry policy) a number is_alone end above word = refl
judged_refusal (plans.Hedge policy) a number is_alone end above word = refl

message_refusal : (octets : List ℕ) (call : CallState) (b : Bool) → call.attempts.is_refusal_followed ≡ true → (if b then record call { inbox = record call.inbox { messages = call.inbox.messages ++ octets ∷ [] } } else call).attempts.is_refusal_followed ≡ true
message_refusal octets call true e = e
message_refusal octets call false e = e

pub refusal_chain : Chain KeepsRefusal
refusal_chain = record {
  same = λ s e. e;
  joined = λ a b c first second e. second (first e);
  committed = λ place moment s e. e;
  ended = λ why moment s e. e;
  followed = λ row reported moment s gone e. ap (λ (b : Bool). b || is_refusal reported.cause) e;
  row_ended = λ place end s at gone e. e;
  judged = λ row end word s at gone free e. judged_refusal (call_plan s.call) s.call.attempts row.number (has_none s.call.live) end (is_above s.tokens) word ∙ e;
  left = λ place s e. e;
  settled = λ reported s e. e;
  buffered = λ b s e. e;
  head = λ meta s e. e;
  message = λ row octets s e. message_refusal octets s.call (is_committed_live row s.call) e;
  chosen = λ chosen moment s limit live fresh e. e;
  placed = λ place row at s h found link e. e;
  stopped = λ s e. e;
  made = λ due s h e. e;
  sent = λ message row s e. e;
}
