-- A call that stopped makes no further attempt.
use Rattle.std.proofs.Common.{◌≡◌, ℕ, Bool, true, false, if◌then◌else◌, Option, Some, None, is_some, List, [], ◌∷◌, ◌++◌, refl, sym, ap, ◌∙◌}
use Rattle.call_core.specs.Parts.{has_none, is_above}
use Rattle.call_core.specs.Steps as step
use Rattle.call_core.specs.Steps.{Stepped, call_plan, is_committed_live, next_due}
use Rattle.call_core.specs.Stopping.{IsStopped}
use Rattle.call_core.proofs.Chains.{Chain}
use Rattle.call_core.proofs.Keeping.{not_stopped}
use Rattle.call_core.proofs.Numbers.{judged_stopped}

stopped_message : (octets : List ℕ) (s : Stepped) (b : Bool) → IsStopped s → IsStopped (record s { call = (if b then record s.call { inbox = record s.call.inbox { messages = s.call.inbox.messages ++ octets ∷ [] } } else s.call) })
stopped_message octets s true old = record { configured = old.configured; stopped = old.stopped }
stopped_message octets s false old = record { configured = old.configured; stopped = old.stopped }

pub stopped_chain : Chain (λ s t. IsStopped s → IsStopped t)
stopped_chain = record {
  same = λ s old. old;
  joined = λ a b c first second old. second (first old);
  committed = λ place moment s old. record { configured = old.configured; stopped = refl };
  ended = λ why moment s old. record { configured = old.configured; stopped = refl };
  followed = λ row reported moment s gone old. record { configured = old.configured; stopped = old.stopped };
  row_ended = λ place end s at gone old. record { configured = old.configured; stopped = old.stopped };
  judged = λ row end word s at gone free old. record {
    configured = old.configured;
    stopped = judged_stopped (call_plan s.call) s.call.attempts row.number (has_none s.call.live) end (is_above s.tokens) word old.stopped;
  };
  left = λ place s old. record { configured = old.configured; stopped = old.stopped };
  settled = λ reported s old. record { configured = old.configured; stopped = old.stopped };
  buffered = λ b s old. record { configured = old.configured; stopped = old.stopped };
  head = λ meta s old. record { configured = old.configured; stopped = old.stopped };
  message = λ row octets s old. stopped_message octets s (is_committed_live row s.call) old;
  chosen = λ chosen moment s limit live fresh old. absurd (let bad : false ≡ true = ap is_some (sym fresh) ∙ old.configured in cc);
  placed = λ place row at s e found link old. record { configured = old.configured; stopped = old.stopped };
  stopped = λ s old. record { configured = old.configured; stopped = refl };
  made = λ due s h old. record { configured = old.configured; stopped = old.stopped };
  sent = λ message row s old. record { configured = old.configured; stopped = old.stopped };
}

stopped_by : (next : Option ℕ) (moment : ℕ) (s : Stepped) → next_due s.call ≡ next → s.call.attempts.stopped ≡ true → step.made_if next moment s ≡ s
stopped_by None moment s e stopped = refl
stopped_by (Some due) moment s e stopped =
    absurd (let bad : true ≡ false = sym stopped ∙ not_stopped (call_plan s.call) s.call.attempts due e in cc)

pub stopped_due : (moment : ℕ) (s : Stepped) → IsStopped s → step.made_due moment s ≡ s
stopped_due moment s old = stopped_by (next_due s.call) moment s refl old.stopped
