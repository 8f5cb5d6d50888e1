-- Parts of the definitions, as the programs of this crate read them. Nobody has to believe them.
use Rattle.std.specs.Prelude.{Bool, List, None, Option, Some, [], filter_map, find, map, not, true, ℕ, ◌&&◌}
use Rattle.std.specs.List.{list_any, position_from, range_with_len}
use Rattle.lb_policy.specs.Table.{tier, tier_has_failed, tier_is_ready}
use Rattle.grpc_base.specs.declared.address.Address.{Address}
use Rattle.lb_policy.specs.declared.seen.SubSeen.{SubSeen}
use Rattle.session_actions.specs.Policies.{is_after, is_live_sub, is_same_address, is_shutdown}
use Rattle.session_actions.specs.declared.attempt.Attempt.{Attempt}
use Rattle.session_actions.specs.declared.entry.Turn.{Turn}
use Rattle.session_actions.specs.declared.policy.PolicyUse.{PolicyUse}
use Rattle.session_actions.specs.declared.subchannel.Subchannel.{Subchannel}

-- a tier is ready, or with a list of failed subchannels has not failed
abbrev pub passes_tier : Option (List ℕ) → List SubSeen → Bool
passes_tier None members = tier_is_ready members
passes_tier (Some failed) members = not (tier_has_failed failed members)

-- the first of so many tiers from one on that passes a test
abbrev pub first_of_tiers : (List SubSeen → Bool) → ℕ → List SubSeen → ℕ → ℕ → Option ℕ
first_of_tiers test width view place left = position_from test place (map (tier width view) (range_with_len place left))

-- a subchannel as a policy sees it, and the view of some addresses
abbrev pub seen_of : Subchannel → SubSeen
seen_of b = record { sub = b.number; state = b.state }

abbrev pub view_in : List Address → List Subchannel → List SubSeen
view_in addresses subs = map seen_of (filter_map (λ address. find (is_live_sub address) subs) addresses)

-- whether an attempt comes after the last pick request of a pass, if there is one
abbrev pub is_after_turn : Option Turn → Attempt → Bool
is_after_turn None a = true
is_after_turn (Some t) a = is_after t a

-- the addresses of a policy, if there is one
abbrev pub addresses_of : Option PolicyUse → List Address
addresses_of None = []
addresses_of (Some g) = g.addresses

-- a subchannel that is not in a list of addresses
abbrev pub is_unlisted_in : List Address → Subchannel → Bool
is_unlisted_in addresses b = not (is_shutdown b.state) && not (list_any (is_same_address b.address) addresses)
