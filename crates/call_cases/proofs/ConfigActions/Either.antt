-- The step of configs, whether one is held or not.
use Rattle.std.proofs.Common.{◌≡◌, refl, Option, None, Some}
use Rattle.channel_actions.specs.Agrees.{Agrees}
use Rattle.channel_actions.specs.Quiescent.{IsAt}
use Rattle.channel_core.specs.States.{StateSeen}
use Rattle.channel_core.specs.Steps.{unconfigured_served}
use Rattle.call_cases.specs.ConfigActions.Ends.{CallsWithoutAttemptsEnd}
use Rattle.call_cases.specs.ConfigActions.Laws.{ConfigsAreStep, IsAllowed, ServedCallsGetConfigs, UnservedCallsEnd}
use Rattle.service_config.specs.declared.config.Config.{Config}
use Rattle.session_actions.specs.declared.entry.OpenEntry.{OpenEntry}
use Rattle.session_actions.specs.declared.entry.Stage.TheVariants as stage
use Rattle.session_actions.specs.declared.seen.Seen.{Seen}
use Rattle.call_cases.specs.SettlingActions.Sound.{IsSound}
use Rattle.call_cases.specs.SettlingActions.Steps.{ConfigSteps, IsJoined, IsTended, Leads}
use Rattle.call_cases.specs.EndedCalls.Laws.{CallsGetConfigsOrEnd}

module _ (served : ServedCallsGetConfigs) (unserved : UnservedCallsEnd) (ends : CallsWithoutAttemptsEnd) (x : StateSeen) (o : OpenEntry) (s : Seen) (h : Agrees x s) (sound : IsSound x s)
    (at : IsAt stage.Settling o s) (joined : IsJoined o s) (allowed : (config : Config) → x.held ≡ Some config → IsAllowed config x) where
  by_held : (c : Option Config) → x.held ≡ c → Leads (unconfigured_served x) o s IsTended
  by_held None e = unserved ends x o s h sound at joined e
  by_held (Some config) e = served config x o s h sound at joined e (allowed config e)

  pub either : Leads (unconfigured_served x) o s IsTended
  either = by_held x.held refl

pub configs_are_step : ServedCallsGetConfigs → UnservedCallsEnd → ConfigsAreStep
configs_are_step served unserved ends x o s h sound at joined allowed = either served unserved ends x o s h sound at joined allowed

-- and so it is whatever messages were accepted
module _ (served : CallsGetConfigsOrEnd) (unserved : UnservedCallsEnd) (ends : CallsWithoutAttemptsEnd) (x : StateSeen) (o : OpenEntry) (s : Seen) (h : Agrees x s) (sound : IsSound x s)
    (at : IsAt stage.Settling o s) (joined : IsJoined o s) where
  step_by : (c : Option Config) → x.held ≡ c → Leads (unconfigured_served x) o s IsTended
  step_by None e = unserved ends x o s h sound at joined e
  step_by (Some config) e = served config x o s h sound at joined e

  pub one_step : Leads (unconfigured_served x) o s IsTended
  one_step = step_by x.held refl

pub config_steps : CallsGetConfigsOrEnd → UnservedCallsEnd → CallsWithoutAttemptsEnd → ConfigSteps
config_steps served unserved ends x o s h sound at joined = one_step served unserved ends x o s h sound at joined
