-- A result of the resolver after which a config is held: its own, if that is valid, else the one that was held before.
-- Example: a channel holds a config of round_robin. A result with the addresses 10.0.0.1:80 and 10.0.0.2:80 and an invalid config is answered with BadConfig, and
-- round_robin gets these two addresses. SubchannelShut and SubchannelAdded follow for those that went and came.
use Rattle.std.specs.Prelude.{Err, List, None, Ok, Option, Result, Some, true, ℕ, ◌≡◌}
use Rattle.channel_actions.specs.TheirLinks.Theirs.{LinksAreTheirs}
use Rattle.event_cases.specs.ConfigReads.Throttled.{BucketsFollowConfigs}
use Rattle.attempt_cases.specs.NetChains.Chains.{IsPickThere}
use Rattle.channel_core.specs.Applying as channel
use Rattle.channel_core.specs.Applying.{config_read}
use Rattle.channel_core.specs.States.{StateSeen}
use Rattle.grpc_base.specs.Addresses.{IsAddressList}
use Rattle.grpc_base.specs.Kinds.{has_kind}
use Rattle.grpc_base.specs.declared.address.Address.{Address}
use Rattle.grpc_base.specs.declared.event.ConfigFault.{ConfigFault}
use Rattle.grpc_base.specs.declared.event.Event.TheVariants as event
use Rattle.grpc_base.specs.declared.event.Event.{Event}
use Rattle.policy_rack.specs.Kinds.{kinds_of}
use Rattle.service_config.specs.declared.config.Config.{Config}
use Rattle.session_actions.specs.declared.seen.Seen.{Seen}

-- the config that is held after a result
abbrev pub held_after : Result Config ConfigFault → Option Config → Option Config
held_after (Ok config) held = Some config
held_after (Err fault) held = held

pub record IsHeldResult (e : Event) (x : StateSeen) (s : Seen) : Type 0 where
  pub addresses : List Address
  pub config : Option (List ℕ)
  pub event_is : e ≡ event.Resolved addresses config
  pub kept : channel.refusal_of e x ≡ None
  pub held : Config
  pub held_is : held_after (config_read (kinds_of x.net.asker.rack.policies) config) x.held ≡ Some held
  -- it is of a kind that the channel was made with, and the event is one that its type allows
  pub kind : has_kind (kinds_of x.net.asker.rack.policies) held.kind ≡ true
  pub list : IsAddressList addresses
  -- of the session alone: configs have runs where they have throttle settings, the last pick request was answered with a subchannel that was made, and an open
  -- link is its subchannel's own
  pub throttled : BucketsFollowConfigs s
  pub picks : IsPickThere s
  pub theirs : LinksAreTheirs s
