-- One call gets the config that is held: its plan, its deadline, its bucket, and the moment from which its first attempt is due (gRPC, "Service Config in
-- gRPC").
-- Example: a call with a timeout of 9 s waits at 2 s, and a config with a timeout of 3 s is held. It has the deadline 5 s, if it began at 2 s, and its first
-- attempt is due at 2 s. It is in none of the sets of calls without a config any more.
use Rattle.std.specs.Prelude.{Some, length, ℕ, ◌≡◌}
use Rattle.call_actions.specs.Laws.{IsUnconfigured}
use Rattle.channel_actions.specs.Agrees.{Agrees}
use Rattle.channel_actions.specs.Calls.{HasSlot}
use Rattle.channel_core.specs.States.{StateSeen}
use Rattle.call_cases.specs.ConfiguredCalls.Steps.{with_config}
use Rattle.channel_actions.specs.KeptSessions.Laws.{KeptAlong}
use Rattle.channel_actions.specs.LinkFrames.Laws.{ActionsMakeNoDifference, LinksStay}
use Rattle.net_actions.specs.NetFrames.Laws.{NetStays}
use Rattle.call_cases.specs.OtherCalls.Laws.{AllCallsStay, ColumnsStay, SetsStay}
use Rattle.service_config.specs.Choice.{chosen_for}
use Rattle.session_actions.specs.Actions.{following}
use Rattle.session_actions.specs.Configs.{call_configured, held_config}
use Rattle.session_actions.specs.Words.{numbered}
use Rattle.session_actions.specs.declared.action.Action.TheVariants as action
use Rattle.session_actions.specs.declared.call.Call.{Call}
use Rattle.session_actions.specs.declared.config.HeldConfig.{HeldConfig}
use Rattle.session_actions.specs.declared.entry.OpenEntry.{OpenEntry}
use Rattle.session_actions.specs.declared.seen.Seen.{Seen}

-- the frames of the other parts, which are proved apart
pub record Frames : Type 0 where
  pub calls : AllCallsStay
  pub columns : ColumnsStay
  pub sets : SetsStay
  pub links : LinksStay
  pub no_difference : ActionsMakeNoDifference
  pub net : NetStays
  pub kept : KeptAlong

-- its config is next
pub record ConfigNext (number : ℕ) (x : StateSeen) (o : OpenEntry) (s : Seen) : Type 0 where
  pub current : s.current ≡ Some o
  pub agrees : Agrees x s
  pub call : Call
  pub there : numbered s.calls number ≡ Some call
  pub awaiting_config : IsUnconfigured s call
  pub held : HeldConfig
  pub is_held : held_config s ≡ Some held
  pub next : following s ≡ Some (action.CallConfigured number (length s.configs))

-- channel and session agree after it
abbrev pub CallsGetConfigs : Type 0
CallsGetConfigs =
    Frames → (number : ℕ) (x : StateSeen) (o : OpenEntry) (s : Seen) (k : ConfigNext number x o s) (own : HasSlot x s k.call number)
    → Agrees (with_config (chosen_for k.held.config k.call.request.path) number own.slot x) (call_configured number (length s.configs) s)
