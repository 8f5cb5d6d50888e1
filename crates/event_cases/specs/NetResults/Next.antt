-- The session's next actions lead to a net: they are of subchannels and policies alone, net and session agree after them, and nothing follows at once.
-- Example: a channel is shut down, and its calls have ended. PolicyRetired 1 and SubchannelShut 1 lead to the net with no policy and no live subchannel.
use Rattle.std.specs.Prelude.{List}
use Rattle.channel_net.specs.Steps.{NetSeen}
use Rattle.net_actions.specs.Sees.{Sees}
use Rattle.attempt_cases.specs.NetChains.Chains.{IsChained}
use Rattle.session_actions.specs.declared.action.Action.{Action}
use Rattle.session_actions.specs.declared.entry.OpenEntry.{OpenEntry}
use Rattle.session_actions.specs.declared.seen.Seen.{Seen}

pub record LeadsTo (o : OpenEntry) (s : Seen) (n : NetSeen) : Type 0 where
  pub actions : List Action
  pub seen : Seen
  pub chained : IsChained actions o s seen
  pub sees : Sees seen n
