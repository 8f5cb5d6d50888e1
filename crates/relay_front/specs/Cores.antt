-- One connection of a client, with its calls at the channel.
use Rattle.relay_calls.specs.Calls.{Calls, no_calls}
use Rattle.relay_connection.specs.Relay.{Relay, fresh_relay}

pub record Core : Type 0 where
  pub relay : Relay
  pub calls : Calls

-- a new connection
abbrev pub fresh_core : Core
fresh_core = record { relay = fresh_relay; calls = no_calls }
