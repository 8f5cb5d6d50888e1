-- What a result of the resolver, a take-over and a shutdown make of policies and subchannels. Each is several actions of the session, one after another
-- until none is left, and one step of the net.
-- Example: generation 1 lists the subchannels 1 and 2, and generation 2, which is pending, lists 2. It takes over: generation 1 is retired and 2 is
-- current; then the session's next action shuts subchannel 1, and none is left. In the net this is one step.
use Rattle.std.specs.Prelude.{List, None, Some, [], false, if◌then◌else◌, true, ℕ, ◌||◌, ◌∷◌, ◌≡◌}
use Rattle.channel_net.specs.Runs.{NetCall, net_of}
use Rattle.channel_net.specs.Steps.{NetLeft, NetSeen, clock_round, connect_round, left, net_resolved, net_shut, net_taken_over}
use Rattle.grpc_base.specs.Addresses.{IsAddressList, IsWithoutRepeats, has_address}
use Rattle.grpc_base.specs.Kinds.{has_kind}
use Rattle.grpc_base.specs.declared.address.Address.{Address}
use Rattle.grpc_base.specs.declared.kind.Kind.{Kind}
use Rattle.lb_policy.specs.Table.{PolicySeen}
use Rattle.policy_rack.specs.Kinds.{are_ready, kinds_of}
use Rattle.net_actions.specs.Sees.{Sees}
use Rattle.session_actions.specs.Actions.{after_in, of_policies}
use Rattle.session_actions.specs.CallEnds.{is_shut_down, next_ended}
use Rattle.session_actions.specs.Policies.{next_take_over, policy_took_over, result_of, wanted_kind}
use Rattle.session_actions.specs.declared.action.Action.{Action}
use Rattle.session_actions.specs.declared.entry.OpenEntry.{OpenEntry}
use Rattle.session_actions.specs.declared.seen.Seen.{Seen}
use Rattle.subchannel.specs.Runs.{live_count}
use Rattle.grpc_base.specs.declared.event.EndCause.TheVariants as ending
use Rattle.session_actions.specs.declared.action.Action.TheVariants as action

-- these actions, each the next one of policies and subchannels, lead from what was seen to what is; and then none is left
abbrev pub DoesAll : List Action → OpenEntry → Seen → Seen → Type 0
DoesAll [] o s t = (of_policies o s ≡ None) × (t ≡ s)
DoesAll (a ∷ actions) o s t = (of_policies o s ≡ Some a) × DoesAll actions o (after_in o a s) t

pub record RunsTo (o : OpenEntry) (s t : Seen) : Type 0 where
  pub actions : List Action
  pub does : DoesAll actions o s t

-- after them the session and a net agree
pub record Becomes (o : OpenEntry) (s : Seen) (n : NetSeen) : Type 0 where
  pub end : Seen
  pub runs : RunsTo o s end
  pub sees : Sees end n

-- a net that came of calls of a channel's policies
pub record IsOfCalls (n : NetSeen) : Type 0 where
  pub calls : List NetCall
  pub policies : List PolicySeen
  pub ready : are_ready policies ≡ true
  pub is : n ≡ net_of calls policies

-- its lists have no address twice; and an address of them has one live subchannel, and any other none. So it is of such a net, and stays so
pub record IsOrderly (n : NetSeen) : Type 0 where
  pub current : IsWithoutRepeats n.current
  pub pending : IsWithoutRepeats n.pending
  pub listed : (a : Address) → live_count a n.board ≡ (if has_address n.current a || has_address n.pending a then 1 else 0)

abbrev pub NetsAreOrderly : Type 0
NetsAreOrderly = (n : NetSeen) → IsOfCalls n → IsOrderly n

abbrev pub ClocksKeepOrder : Type 0
ClocksKeepOrder = (moment : ℕ) (l : NetLeft) → IsOrderly l.net → IsOrderly (clock_round moment l).net

abbrev pub TakeOversKeepOrder : Type 0
TakeOversKeepOrder = (l : NetLeft) → IsOrderly l.net → IsOrderly (net_taken_over l).net

abbrev pub WishesKeepOrder : Type 0
WishesKeepOrder = (n : NetSeen) → IsOrderly n → IsOrderly (connect_round n)

-- the calls of a channel that was shut down have ended
abbrev pub NoneIsToEnd : Seen → Type 0
NoneIsToEnd s = next_ended ending.Shut (is_shut_down s) s ≡ None

-- a shutdown: all policies are retired, and all subchannels shut
abbrev pub ShutsAll : Type 0
ShutsAll =
    (o : OpenEntry) (s : Seen) (n : NetSeen) → Sees s n → s.shut ≡ true → NoneIsToEnd s → result_of o ≡ None → Becomes o s (net_shut n).net

-- a pending policy takes over: the one before is retired, and the subchannels that only it had are shut
abbrev pub TakesOver : Type 0
TakesOver =
    (o : OpenEntry) (s : Seen) (n : NetSeen) (number : ℕ) (gone : List ℕ) → Sees s n → IsOrderly n → s.shut ≡ false → result_of o ≡ None
    → next_take_over s ≡ Some (action.PolicyTakesOver number) → Becomes o (policy_took_over number s) (net_taken_over (left n gone)).net

-- a valid result: a pending policy of another kind is retired; the policy of the result's kind, a new one where there is none, gets the addresses; and
-- subchannels go and come
abbrev pub TakesResult : Type 0
TakesResult =
    (o : OpenEntry) (s : Seen) (n : NetSeen) (k : Kind) (addresses : List Address) → Sees s n → IsOfCalls n → s.shut ≡ false
    → wanted_kind o s ≡ Some k → result_of o ≡ Some addresses → IsAddressList addresses → has_kind (kinds_of n.asker.rack.policies) k ≡ true
    → Becomes o s (net_resolved k addresses n)
