-- Results of the resolver, take-overs and wishes, in any session that is known to keep what runs keep (`IsKnown`), or to have begun new (`IsSound`). They are without a premise
-- of their own, but for what the types of an event and of a channel say.
-- Example: a channel holds a config. A result with two addresses and no config is one of these, and so is one with a config that is invalid.
use Rattle.channel_actions.specs.Known.{IsKnown}
use Rattle.channel_actions.specs.Stages.{EventsAnswered}
use Rattle.channel_core.specs.Applying as channel
use Rattle.channel_core.specs.Applying.{config_read}
use Rattle.channel_core.specs.States.{StateSeen}
use Rattle.grpc_base.specs.Addresses.{IsAddressList}
use Rattle.grpc_base.specs.Kinds.{has_kind}
use Rattle.grpc_base.specs.declared.address.Address.{Address}
use Rattle.grpc_base.specs.declared.event.Event.TheVariants as event
use Rattle.grpc_base.specs.declared.event.Event.{Event}
use Rattle.grpc_base.specs.declared.kind.Kind.TheVariants as kind
use Rattle.policy_rack.specs.Kinds.{kinds_of}
use Rattle.session_actions.specs.declared.seen.Seen.{Seen}
use Rattle.std.specs.Prelude.{List, None, Option, is_ok, is_some, true, ℕ, ◌||◌, ◌≡◌}

pub record IsKnownResult (e : Event) (x : StateSeen) (s : Seen) : Type 0 where
  pub addresses : List Address
  pub config : Option (List ℕ)
  pub event_is : e ≡ event.Resolved addresses config
  pub kept : channel.refusal_of e x ≡ None
  -- a config was held, or is now
  pub counts : (is_some x.held || is_ok (config_read (kinds_of x.net.asker.rack.policies) config)) ≡ true
  -- no list of addresses has one twice, and every channel has pick_first
  pub list : IsAddressList addresses
  pub first : has_kind (kinds_of x.net.asker.rack.policies) kind.PickFirst ≡ true
  pub known : IsKnown x s

abbrev pub KnownResultsAreAnswered : Type 0
KnownResultsAreAnswered = EventsAnswered IsKnownResult
