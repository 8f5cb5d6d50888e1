-- Which load balancing policy is asked for a pick ("Load Balancing in gRPC": graceful switch).
-- Example: a pending policy becomes READY and takes over in an entry with queued attempts. It takes over first, and then it is asked, and the policy before
-- it no more.
use Rattle.std.specs.Prelude.{None, Some, ℕ, ◌≡◌}
use Rattle.grpc_base.specs.declared.kind.Pick.{Pick}
use Rattle.lb_policy.specs.Table.{pick_of}
use Rattle.session_actions.specs.Policies.{current_policy, policy_of}
use Rattle.session_actions.specs.Sessions.{IsNext}
use Rattle.session_actions.specs.declared.policy.PolicyUse.{PolicyUse}
use Rattle.session_actions.specs.declared.seen.Seen.{Seen}
use Rattle.session_actions.specs.declared.action.Action.TheVariants as action

-- the one that is current then, which is not retired; its answer is what its addresses and their subchannels give
abbrev pub CurrentOnesAreAsked : Type 0
CurrentOnesAreAsked =
    (s : Seen) (row generation : ℕ) (answer : Pick) → IsNext (action.PickRequested row generation answer) s
    → (g : PolicyUse) × (current_policy s ≡ Some g) × (g.number ≡ generation) × (g.generation.retired ≡ None) × (answer ≡ pick_of (policy_of g s))
