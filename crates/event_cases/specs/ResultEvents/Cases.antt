-- Events that leave policies and subchannels as they are, though others of their kind change them: a Shutdown of a channel that was shut down, and a result of
-- the resolver with an invalid config, where none was ever held.
-- Example: a new channel is given a result with the config `[]`. It is answered with BadConfig; no policy begins, and calls that do not wait for ready end.
use Rattle.std.specs.Prelude.{Err, List, None, Option, true, ℕ, ◌≡◌}
use Rattle.channel_core.specs.Applying as channel
use Rattle.channel_core.specs.Applying.{config_read}
use Rattle.channel_core.specs.States.{StateSeen}
use Rattle.grpc_base.specs.declared.address.Address.{Address}
use Rattle.grpc_base.specs.declared.event.ConfigFault.{ConfigFault}
use Rattle.grpc_base.specs.declared.event.Event.{Event}
use Rattle.grpc_base.specs.declared.event.Event.TheVariants as event
use Rattle.policy_rack.specs.Kinds.{kinds_of}
use Rattle.session_actions.specs.declared.seen.Seen.{Seen}

pub record IsSecondShutdown (e : Event) (x : StateSeen) (s : Seen) : Type 0 where
  pub event_is : e ≡ event.Shutdown
  pub shut : x.shut ≡ true

pub record IsFirstBadConfig (e : Event) (x : StateSeen) (s : Seen) : Type 0 where
  pub addresses : List Address
  pub config : Option (List ℕ)
  pub fault : ConfigFault
  pub event_is : e ≡ event.Resolved addresses config
  pub kept : channel.refusal_of e x ≡ None
  pub none_held : x.held ≡ None
  pub bad : config_read (kinds_of x.net.asker.rack.policies) config ≡ Err fault
