-- A net that came of calls, after one call more.
use Rattle.std.proofs.Common.{◌≡◌, ◌++◌, ◌∷◌, ap, refl, sym, ◌∙◌, List, [], None, Option, ℕ, if◌then◌else◌, is_some}
use Rattle.channel_net.specs.Runs.{NetCall, after_call, after_calls}
use Rattle.channel_net.specs.Steps as net
use Rattle.channel_net.specs.Steps.{NetSeen, new_net}
use Rattle.grpc_base.specs.declared.event.Refusal.{Refusal}
use Rattle.net_actions.specs.Runs.{IsOfCalls}
use Rattle.subchannel.specs.Boards as boards

one_more : (calls : List NetCall) (c : NetCall) (n : NetSeen) → after_calls (calls ++ c ∷ []) n ≡ after_call c (after_calls calls n)
one_more [] c n = refl
one_more (d ∷ calls) c n = one_more calls c (after_call d n)

pub one_call_more : (c : NetCall) (n : NetSeen) → IsOfCalls n → IsOfCalls (after_call c n)
one_call_more c n h = record {
  calls = h.calls ++ c ∷ [];
  policies = h.policies;
  ready = h.ready;
  is = ap (after_call c) h.is ∙ sym (one_more h.calls c (new_net h.policies));
}

pub of_calls_is : (n m : NetSeen) → n ≡ m → IsOfCalls m → IsOfCalls n
of_calls_is n m e h = record { calls = h.calls; policies = h.policies; ready = h.ready; is = e ∙ h.is }

-- a dial that is under way
pub unrefused : (n m : NetSeen) (sub : ℕ) → net.dial_refusal (boards.numbered n.board sub) ≡ None → m ≡ (if is_some (net.dial_refusal (boards.numbered n.board sub)) then n else m)
unrefused n m sub e = sym (ap (λ (z : Option Refusal). if is_some z then n else m) e)
