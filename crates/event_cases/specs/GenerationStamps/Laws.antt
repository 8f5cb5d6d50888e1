-- What becomes of the stamps of policies is the same in a session and in the ledger of a channel.
-- Example: a result names round_robin, and generation 1 is current, of pick_first. In the session PolicyBegins and AddressesGiven follow; generation 2 begins, pending.
-- The channel stamps it so at once.
use Rattle.std.specs.Prelude.{List, None, Some, false, map, true, ℕ, ◌≡◌}
use Rattle.event_cases.specs.GenerationStamps.Stamps.{generations_after}
use Rattle.channel_net.specs.Steps.{NetSeen, net_resolved, resolved_stamps, taken_over_stamps}
use Rattle.grpc_base.specs.Kinds.{has_kind}
use Rattle.grpc_base.specs.declared.kind.Kind.{Kind}
use Rattle.grpc_base.specs.declared.address.Address.{Address}
use Rattle.net_actions.specs.Runs.{DoesAll, IsOfCalls}
use Rattle.net_actions.specs.Sees.{PoliciesAreNumbered, Sees}
use Rattle.policy_rack.specs.Kinds.{kinds_of}
use Rattle.session_actions.specs.Entries.{entry}
use Rattle.session_actions.specs.Policies.{next_take_over, policy_took_over, result_of, wanted_kind}
use Rattle.session_actions.specs.declared.action.Action.TheVariants as action
use Rattle.session_actions.specs.declared.action.Action.{Action}
use Rattle.session_actions.specs.declared.entry.OpenEntry.{OpenEntry}
use Rattle.session_actions.specs.declared.seen.Seen.{Seen}

-- of the session alone: what the lines of policies leave, one after another
abbrev pub GenerationsAlong : Type 0
GenerationsAlong =
    (actions : List Action) (o : OpenEntry) (s t : Seen) → PoliciesAreNumbered 1 s.policies → (s.shut ≡ true → result_of o ≡ None) → DoesAll actions o s t
    → map (λ g. g.generation) t.policies ≡ generations_after s.shut (wanted_kind o s) (entry s) (map (λ g. g.generation) s.policies)

-- a result, for a kind that the channel has a policy of
abbrev pub ResultsStampAlike : Type 0
ResultsStampAlike =
    (s : Seen) (n : NetSeen) (k : Kind) (addresses : List Address) (e : ℕ) → Sees s n → IsOfCalls n → has_kind (kinds_of n.asker.rack.policies) k ≡ true
    → generations_after false (Some k) e (map (λ g. g.generation) s.policies)
    ≡ resolved_stamps e k n (net_resolved k addresses n) (map (λ g. g.generation) s.policies)

-- a take-over
abbrev pub TakeOversStampAlike : Type 0
TakeOversStampAlike =
    (s : Seen) (n : NetSeen) (number : ℕ) → Sees s n → next_take_over s ≡ Some (action.PolicyTakesOver number)
    → map (λ g. g.generation) (policy_took_over number s).policies ≡ taken_over_stamps (entry s) n (map (λ g. g.generation) s.policies)
