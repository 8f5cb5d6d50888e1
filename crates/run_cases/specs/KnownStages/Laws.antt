-- Stages of an entry, and parts of them, in any session that is known to keep what runs keep (`IsKnown`), or to have begun new (`IsSound`): without a premise of
-- their own.
-- Example: the deadline of call 1 has come, and two backoffs are over. CallEnds 1 comes before the event of the entry, BackoffEnds 1 and BackoffEnds 2 come after it.
use Rattle.channel_actions.specs.Known.{IsKnown}
use Rattle.channel_actions.specs.Stages.{EventsAnswered}
use Rattle.attempt_cases.specs.NetChains.Chains.{IsPickThere}
use Rattle.attempt_cases.specs.NetSettlings.Points.{IsUncontested}
use Rattle.call_cases.specs.SettlingActions.Steps.{IsJoined, IsStep}
use Rattle.channel_core.specs.States.{StateSeen}
use Rattle.channel_core.specs.Steps.{net_settled}
use Rattle.grpc_base.specs.declared.event.Event.TheVariants as event
use Rattle.grpc_base.specs.declared.event.Event.{Event}
use Rattle.session_actions.specs.Sessions.{Does, new_session}
use Rattle.session_actions.specs.declared.action.Action.{Action}
use Rattle.session_actions.specs.declared.seen.Seen.{Seen}
use Rattle.session_actions.specs.declared.seen.Setup.{Setup}
use Rattle.std.specs.Prelude.{List, false, ◌≡◌}

-- the last pick request, where it was answered with a subchannel, was answered with one that was made
abbrev pub PicksAreThere : Type 0
PicksAreThere = (setup : Setup) (actions : List Action) (s : Seen) → Does actions (new_session setup) s → IsPickThere s

-- a Shutdown of an open channel is answered
pub record IsKnownShutdown (e : Event) (x : StateSeen) (s : Seen) : Type 0 where
  pub event_is : e ≡ event.Shutdown
  pub going : x.shut ≡ false
  pub known : IsKnown x s

abbrev pub KnownShutdownsAreAnswered : Type 0
KnownShutdownsAreAnswered = EventsAnswered IsKnownShutdown

-- in a settling, subchannels that a policy wishes connect, where no policy may take over
abbrev pub WishSteps : Type 0
WishSteps = IsStep IsUncontested net_settled IsJoined
