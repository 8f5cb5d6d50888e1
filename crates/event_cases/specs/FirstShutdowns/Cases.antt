-- The application shuts an open channel down: every open call ends, and then every policy is retired and every subchannel is shut.
-- Example: Shutdown of a channel with the open calls 1 and 3, and one policy with subchannel 1. CallEnds 1, with its cuts and resets, CallEnds 3 with its own, and
-- then PolicyRetired 1 and SubchannelShut 1.
use Rattle.call_cases.specs.EndsFollow.Cuts.{NoStreamIsToReset}
use Rattle.channel_actions.specs.PrefacedLinks.Prefaced.{LinksArePrefaced}
use Rattle.channel_actions.specs.KeptCalls.Early.{IsEarlyKept}
use Rattle.channel_actions.specs.TheirLinks.Theirs.{LinksAreTheirs}
use Rattle.attempt_cases.specs.NetChains.Chains.{IsPickThere}
use Rattle.channel_core.specs.States.{StateSeen}
use Rattle.grpc_base.specs.declared.event.Event.TheVariants as event
use Rattle.grpc_base.specs.declared.event.Event.{Event}
use Rattle.session_actions.specs.declared.seen.Seen.{Seen}
use Rattle.std.specs.Prelude.{false, length, ◌≡◌, ◌≤◌}

-- (of the session alone: calls before their first attempt and links are as every session keeps them; no stream was reset of an attempt that goes on, and the last pick request was answered with a subchannel that was made. Numbers of calls do
-- not end, which no session reaches.)
pub record IsFirstShutdown (e : Event) (x : StateSeen) (s : Seen) : Type 0 where
  pub event_is : e ≡ event.Shutdown
  pub going : x.shut ≡ false
  pub unreset : NoStreamIsToReset s
  pub early : IsEarlyKept s
  pub prefaced : LinksArePrefaced s
  pub theirs : LinksAreTheirs s
  pub picks : IsPickThere s
  pub few : length s.calls ≤ 4294967295
