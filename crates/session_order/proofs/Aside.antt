-- What bears neither on calls, attempts nor configs leaves it as it was which ends are final and which messages are too long.
use Rattle.std.proofs.Common.{◌≡◌, ◌||◌, ◌&&◌, ◌==◌, ap, refl, ◌∙◌, Bool, List, ℕ}
use Rattle.std.specs.List.{list_any}
use Rattle.grpc_base.specs.declared.event.Event.{Event}
use Rattle.session_actions.specs.CallEnds.{has_long_request, is_after_event, sends_too_long}
use Rattle.session_actions.specs.Calls.{is_open_call}
use Rattle.session_actions.specs.Commitments.{is_final_end, is_final_in}
use Rattle.session_actions.specs.Configs.{is_too_long}
use Rattle.session_actions.specs.Words.{numbered}
use Rattle.session_actions.specs.declared.call.Call.{Call}
use Rattle.session_actions.specs.declared.entry.OpenEntry.{OpenEntry}
use Rattle.session_actions.specs.declared.seen.Seen.{Seen}
use Rattle.session_order.proofs.Finals.{final_same}
use Rattle.session_order.proofs.Lists.{any_in, any_same, holds_same}
use Rattle.grpc_base.specs.declared.event.Event.TheVariants as event

pub aside_final : (s u : Seen)
    → list_any (is_final_end (record u { calls = s.calls; attempts = s.attempts; configs = s.configs; runs = s.runs })) s.attempts
    ≡ list_any (is_final_end s) s.attempts
aside_final s u =
    let t : Seen = record u { calls = s.calls; attempts = s.attempts; configs = s.configs; runs = s.runs } in
    any_in (is_final_end t) (is_final_end s) s.attempts
    (λ k a here. holds_same (is_final_in a t) (is_final_in a s)
    (λ c. final_same s u s.calls (λ (x : Call). x.messages) (λ (x : Call). x.finished) (λ (x : Call). x.taken) (λ (x : Call). x.end_taken) (λ j x at e. refl) c refl
    k a here)
    (numbered s.calls a.row.call))

-- the message of an event
pub sends_as : (e : Event) (c d : Call) (s t : Seen) → c.number ≡ d.number → ((m : List ℕ) → is_too_long m c s ≡ is_too_long m d t)
    → sends_too_long e c s ≡ sends_too_long e d t
sends_as (event.Send call m) c d s t n same =
    ap (λ (k : ℕ). (call == k) && is_too_long m c s) n ∙ ap (λ (b : Bool). (call == d.number) && b) (same m)
sends_as e c d s t n same = refl

pub long_as : (o : OpenEntry) (c d : Call) (s t : Seen) → c.number ≡ d.number → is_open_call c ≡ is_open_call d → c.messages ≡ d.messages
    → ((m : List ℕ) → is_too_long m c s ≡ is_too_long m d t) → has_long_request o s c ≡ has_long_request o t d
long_as o c d s t n free messages same =
    ap (λ (b : Bool). b && (list_any (λ (m : List ℕ). is_too_long m c s) c.messages || (is_after_event o && sends_too_long o.event c s))) free
    ∙ ap (λ (l : List (List ℕ)). is_open_call d && (list_any (λ (m : List ℕ). is_too_long m c s) l || (is_after_event o && sends_too_long o.event c s))) messages
    ∙ ap (λ (b : Bool). is_open_call d && (b || (is_after_event o && sends_too_long o.event c s)))
    (any_same (λ (m : List ℕ). is_too_long m c s) (λ (m : List ℕ). is_too_long m d t) same d.messages)
    ∙ ap (λ (b : Bool). is_open_call d && (list_any (λ (m : List ℕ). is_too_long m d t) d.messages || (is_after_event o && b))) (sends_as o.event c d s t n same)

pub aside_request : (o : OpenEntry) (s u : Seen)
    → list_any (has_long_request o (record u { calls = s.calls; configs = s.configs })) s.calls ≡ list_any (has_long_request o s) s.calls
aside_request o s u =
    let t : Seen = record u { calls = s.calls; configs = s.configs } in
    any_same (has_long_request o t) (has_long_request o s) (λ c. long_as o c c t s refl refl refl (λ m. refl)) s.calls
