-- What stands on the end of one call (`OneCallEnds`), without that premise. A message that is too long ends its call, a call without an attempt ends, calls whose
-- deadline has come end. In a settling each call that waits for its config gets it, ends by it, or ends for want of one.
-- Example: the config of call 1 allows 10 bytes, and it is sent 11. EventAnswered Done, CallEnds 1 for its request, AttemptEnds of its attempts, and StreamReset of
-- their streams. Call 2 accepted 11 bytes before a config came: CallConfigured 2 and CallEnds 2 for its request follow one another.
use Rattle.channel_actions.specs.Agrees.{Agrees}
use Rattle.channel_actions.specs.Quiescent.{IsAt}
use Rattle.call_cases.specs.EndsFollow.Cuts.{NoStreamIsToReset}
use Rattle.channel_actions.specs.Stages.{DeadlinesOf, EventsAnswered}
use Rattle.call_cases.specs.LongSends.Laws.{IsLongSendThen}
use Rattle.call_cases.specs.SettlingActions.Sound.{IsSound}
use Rattle.call_cases.specs.SettlingActions.Steps.{IsJoined, IsTended, Leads}
use Rattle.channel_core.specs.States.{StateSeen}
use Rattle.channel_core.specs.Steps.{unconfigured_served}
use Rattle.service_config.specs.declared.config.Config.{Config}
use Rattle.session_actions.specs.declared.entry.OpenEntry.{OpenEntry}
use Rattle.session_actions.specs.declared.entry.Stage.TheVariants as stage
use Rattle.session_actions.specs.declared.seen.Seen.{Seen}
use Rattle.std.specs.Prelude.{Some, length, ◌≡◌, ◌≤◌}

abbrev pub LongSendsEnd : Type 0
LongSendsEnd = EventsAnswered IsLongSendThen

-- calls whose deadline has come end one after the other, the earliest first, until none is left; also where none has come. (Asked is of the session that no stream was
-- reset of an attempt that goes on, which `kept_calls` has of every session, and that numbers of calls do not end, which no session reaches.)
pub record IsTimed (x : StateSeen) (s : Seen) : Type 0 where
  pub unreset : NoStreamIsToReset s
  pub few : length s.calls ≤ 4294967295

abbrev pub DeadlinesAreMet : Type 0
DeadlinesAreMet = DeadlinesOf IsTimed

-- in a settling, where a config is held, each call that waits for it gets it, or ends by it: whatever messages it accepted. (Without a config see `UnservedCallsEnd`
-- of `config_actions`; `ConfigSteps` of `settling_actions` is both.)
abbrev pub CallsGetConfigsOrEnd : Type 0
CallsGetConfigsOrEnd =
    (config : Config) (x : StateSeen) (o : OpenEntry) (s : Seen) → Agrees x s → IsSound x s → IsAt stage.Settling o s → IsJoined o s → x.held ≡ Some config
    → Leads (unconfigured_served x) o s IsTended
