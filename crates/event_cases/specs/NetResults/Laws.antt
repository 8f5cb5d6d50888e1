-- What a result of the resolver, a take-over and a shutdown make of policies and subchannels is what the session does next.
-- Example: generation 2 is pending and READY. In the settling PolicyTakesOver 2 is next, and then SubchannelShut of each subchannel that only generation 1
-- listed; the net does the same at once.
use Rattle.std.specs.Prelude.{List, None, Some, false, true, ℕ, ◌≡◌}
use Rattle.channel_net.specs.Steps.{NetSeen, left, net_resolved, net_shut, net_taken_over}
use Rattle.grpc_base.specs.Addresses.{IsAddressList}
use Rattle.grpc_base.specs.Kinds.{has_kind}
use Rattle.grpc_base.specs.declared.address.Address.{Address}
use Rattle.grpc_base.specs.declared.kind.Kind.{Kind}
use Rattle.net_actions.specs.Runs.{IsOfCalls, IsOrderly, NoneIsToEnd}
use Rattle.net_actions.specs.Sees.{Sees}
use Rattle.attempt_cases.specs.NetChains.Chains.{IsApartQuiescent, IsPickThere}
use Rattle.event_cases.specs.NetResults.Next.{LeadsTo}
use Rattle.policy_rack.specs.Kinds.{kinds_of}
use Rattle.session_actions.specs.Policies.{next_take_over, result_of, wanted_kind}
use Rattle.session_actions.specs.Subchannels.{next_of_clock}
use Rattle.session_actions.specs.declared.action.Action.TheVariants as action
use Rattle.session_actions.specs.declared.entry.OpenEntry.{OpenEntry}
use Rattle.session_actions.specs.declared.entry.Stage.TheVariants as stage
use Rattle.session_actions.specs.declared.seen.Seen.{Seen}
use Rattle.session_order.specs.Quiescent.{IsQuiescent}

-- a valid result was read: its kind is wanted, and its addresses
abbrev pub ResultsAreNext : Type 0
ResultsAreNext =
    (o : OpenEntry) (s : Seen) (n : NetSeen) (k : Kind) (addresses : List Address) → Sees s n → IsOfCalls n → s.shut ≡ false
    → wanted_kind o s ≡ Some k → result_of o ≡ Some addresses → IsAddressList addresses → has_kind (kinds_of n.asker.rack.policies) k ≡ true
    → s.current ≡ Some o → IsApartQuiescent o s → IsPickThere s → LeadsTo o s (net_resolved k addresses n)

-- in a settling whose clock is done a pending policy may take over
abbrev pub TakeOversAreNext : Type 0
TakeOversAreNext =
    (o : OpenEntry) (s : Seen) (n : NetSeen) (number : ℕ) (gone : List ℕ) → Sees s n → IsOrderly n → s.shut ≡ false → result_of o ≡ None
    → s.current ≡ Some o → o.stage ≡ stage.Settling → IsQuiescent o s → next_of_clock s ≡ None → next_take_over s ≡ Some (action.PolicyTakesOver number)
    → IsPickThere s → LeadsTo o s (net_taken_over (left n gone)).net

-- the channel was shut down, and its calls have ended
abbrev pub ShutdownsAreNext : Type 0
ShutdownsAreNext =
    (o : OpenEntry) (s : Seen) (n : NetSeen) → Sees s n → s.shut ≡ true → NoneIsToEnd s → result_of o ≡ None → s.current ≡ Some o → IsApartQuiescent o s
    → IsPickThere s → LeadsTo o s (net_shut n).net
