-- When a pending policy takes over is the same in the session and in the net; and a new net is what a new session has done.
use Rattle.std.proofs.Common.{◌≡◌, ◌≤◌, ◌||◌, not, ap, arith, refl, sym, ◌∙◌, Bool, List, Option, None, Some, ℕ, if◌then◌else◌}
use Rattle.std.specs.Option.{option_and_then, option_map}
use Rattle.grpc_base.specs.declared.address.Address.{Address}
use Rattle.grpc_base.specs.declared.event.Conn.{Conn}
use Rattle.grpc_base.specs.declared.event.Conn.TheVariants as conn
use Rattle.lb_policy.specs.Table.{PolicySeen, is_ready, state_of}
use Rattle.policy_rack.specs.Steps.{is_decided, is_ready_one, may_follow, state_in}
use Rattle.policy_rack.specs.Steps as rack
use Rattle.policy_rack.specs.declared.live.Live.{Live}
use Rattle.net_actions.proofs.Asking.{state_by}
use Rattle.net_actions.proofs.KindsKept.{kinds_emptied}
use Rattle.net_actions.specs.Laws.{NewOnesAgree, TakeOversAreSame}
use Rattle.net_actions.specs.Sees.{IsUse}
use Rattle.session_actions.specs.Policies.{current_policy, is_failure, may_take_over, pending_policy, policy_of, policy_state}
use Rattle.session_actions.specs.Words.{holds}
use Rattle.session_actions.specs.declared.policy.PolicyUse.{PolicyUse}
use Rattle.session_actions.specs.declared.seen.Seen.{Seen}
use Rattle.session_actions.specs.declared.action.Action.TheVariants as action

pub new_ones_agree : NewOnesAgree
new_ones_agree setup policies same = record {
  subs_are = tt;
  beyond = λ number less. refl;
  uses_are = record { numbers = tt; one_current = tt; one_pending = tt };
  made = refl;
  kinds_are = kinds_emptied setup.policies policies same;
  unasked = λ number less. refl;
  counted = (let none : 0 ≤ 0 = omega arith in none);
  current_is = refl;
  pending_is = refl;
  apart = tt;
}

-- a state that decides
decided : (c : Conn) (x : Bool) → ((is_ready c || is_failure c) || not x) ≡ (is_decided c || not x)
decided conn.Idle x = refl
decided conn.Connecting x = refl
decided conn.Ready x = refl
decided conn.Failure x = refl
decided conn.Shutdown x = refl

ready_one : (s : Seen) (o : Option PolicyUse) → holds (λ (h : PolicyUse). is_ready (policy_state h s)) o ≡ is_ready_one (option_map (λ (g : PolicyUse). policy_state g s) o)
ready_one s None = refl
ready_one s (Some g) = refl

may_by : (s : Seen) (g : PolicyUse) (current : Option Conn) → option_map (λ (h : PolicyUse). policy_state h s) (current_policy s) ≡ current
    → may_take_over s g ≡ may_follow current (Some (policy_state g s))
may_by s g current e =
    ap (λ (x : Bool). (is_ready (policy_state g s) || is_failure (policy_state g s)) || not x) (ready_one s (current_policy s) ∙ ap is_ready_one e)
    ∙ decided (policy_state g s) (is_ready_one current)

over_by : (s : Seen) (current : Option Conn) (o : Option PolicyUse) (live : Option Live) (addresses : List Address) (policies : List PolicySeen)
    → option_map (λ (h : PolicyUse). policy_state h s) (current_policy s) ≡ current
    → IsUse o (option_map (λ (g : PolicyUse). policy_of g s) o) live addresses policies
    → option_and_then (λ (g : PolicyUse). if may_take_over s g then Some (action.PolicyTakesOver g.number) else None) o
    ≡ (if may_follow current (option_map state_of (rack.policy_of policies live)) then option_map (λ (l : Live). action.PolicyTakesOver l.generation) live else None)
over_by s current None None addresses policies e u = refl
over_by s current (Some g) (Some live) addresses policies e u =
    ap (λ (x : Bool). if x then Some (action.PolicyTakesOver g.number) else None) (may_by s g current e)
    ∙ ap (λ (k : ℕ). if may_follow current (Some (policy_state g s)) then Some (action.PolicyTakesOver k) else None) u.0
    ∙ ap (λ (p : Option PolicySeen). if may_follow current (option_map state_of p) then Some (action.PolicyTakesOver live.generation) else None) (sym u.2)
over_by s current None (Some live) addresses policies e u = absurd u
over_by s current (Some g) None addresses policies e u = absurd u

pub take_overs_are_same : TakeOversAreSame
take_overs_are_same s n h =
    over_by s (state_in n.asker.rack n.asker.rack.current) (pending_policy s) n.asker.rack.pending n.pending n.asker.rack.policies
    (state_by s (current_policy s) n.asker.rack.current n.current n.asker.rack.policies h.current_is) h.pending_is
