-- Calls that wait for their configuration, in a settling. Where the channel has none, and the resolver has answered, those that do not wait for ready end; each
-- by its own action, the lowest number first. (gRPC, "Service Config in gRPC"; "gRPC Wait for Ready Semantics".)
-- Example: the calls 1, 2 and 3 wait for a config, call 2 waits for ready, and the resolution fails: CallEnds 1 and CallEnds 3, with NoConfig.
use Rattle.std.specs.Prelude.{None, Some, false, true, ℕ, ◌≡◌}
use Rattle.call_core.specs.Parts.{is_too_long}
use Rattle.channel_actions.specs.Agrees.{Agrees}
use Rattle.channel_actions.specs.Quiescent.{IsAt}
use Rattle.channel_actions.specs.Stages.{SettlingsOf}
use Rattle.channel_core.specs.Books.{slot_at}
use Rattle.channel_core.specs.States.{StateSeen}
use Rattle.channel_core.specs.Steps.{unconfigured_served, clocked, net_settled}
use Rattle.channel_core.specs.declared.state.slots.CallSlot.{CallSlot}
use Rattle.call_cases.specs.ConfigActions.Ends.{CallsWithoutAttemptsEnd}
use Rattle.picker_gate.specs.Pairs.{has}
use Rattle.service_config.specs.Choice.{chosen_for}
use Rattle.service_config.specs.declared.config.Config.{Config}
use Rattle.session_actions.specs.declared.entry.OpenEntry.{OpenEntry}
use Rattle.session_actions.specs.declared.entry.Stage.TheVariants as stage
use Rattle.session_actions.specs.declared.seen.Seen.{Seen}
use Rattle.call_cases.specs.SettlingActions.Sound.{IsSound, SoundStays}
use Rattle.call_cases.specs.SettlingActions.Steps.{ClockSteps, IsJoined, IsTended, Leads, NetSteps}

-- the step of configs, where no config is held
abbrev pub UnservedCallsEnd : Type 0
UnservedCallsEnd =
    CallsWithoutAttemptsEnd → (x : StateSeen) (o : OpenEntry) (s : Seen) → Agrees x s → IsSound x s → IsAt stage.Settling o s → IsJoined o s → x.held ≡ None
    → Leads (unconfigured_served x) o s IsTended

-- and where one is held, and allows each message that calls without a config accepted, each of them gets it. (A call that accepted a longer one ends at once;
-- that is not stated here.)
abbrev pub IsAllowed : Config → StateSeen → Type 0
IsAllowed config x =
    (number : ℕ) (slot : CallSlot) → has x.awaiting_config (0, number) ≡ true → slot_at x.book number ≡ Some slot
    → is_too_long (Some (chosen_for config slot.call.request.path)) slot.call.longest ≡ false

abbrev pub ServedCallsGetConfigs : Type 0
ServedCallsGetConfigs =
    (config : Config) (x : StateSeen) (o : OpenEntry) (s : Seen) → Agrees x s → IsSound x s → IsAt stage.Settling o s → IsJoined o s → x.held ≡ Some config
    → IsAllowed config x → Leads (unconfigured_served x) o s IsTended

-- so it is whichever config is held, if any
abbrev pub ConfigsAreStep : Type 0
ConfigsAreStep =
    CallsWithoutAttemptsEnd → (x : StateSeen) (o : OpenEntry) (s : Seen) → Agrees x s → IsSound x s → IsAt stage.Settling o s → IsJoined o s
    → ((config : Config) → x.held ≡ Some config → IsAllowed config x) → Leads (unconfigured_served x) o s IsTended

-- a whole settling where no config is held: once the net has done its part, calls end or wait, and no attempt is due or queued, since there is none
pub record IsUnserved (x : StateSeen) (s : Seen) : Type 0 where
  pub sound : IsSound x s
  pub unheld : x.held ≡ None

abbrev pub UnservedSettlings : Type 0
UnservedSettlings = CallsWithoutAttemptsEnd → SoundStays clocked → SoundStays net_settled → ClockSteps → NetSteps → SettlingsOf IsUnserved
