-- The action of an event itself, by which it is answered, and the frames that it brings. The events are the channel's own, as is their order.
-- Example: a Take of call 1 is `ItemTaken` where something has come, `EventAnswered` with NotYet where nothing has, and `EventRefused` with
-- NoSuchCall where there is no call 1.
use Rattle.std.specs.Prelude.{Bool, None, Option, Some, [], false, if◌then◌else◌, option_map, true, ℕ}
use Rattle.grpc_base.specs.declared.event.Event.{Event}
use Rattle.grpc_base.specs.declared.event.Refusal.{Refusal}
use Rattle.session_actions.specs.CallEnds.{is_after_event}
use Rattle.session_actions.specs.Configs.{read_config}
use Rattle.session_actions.specs.Deliveries.{next_item, send_action, take_action}
use Rattle.session_actions.specs.Refusals.{refusal_of}
use Rattle.session_actions.specs.Subchannels.{take_dial}
use Rattle.session_actions.specs.Words.{numbered}
use Rattle.session_actions.specs.Writing.{next_frame_read, next_written}
use Rattle.session_actions.specs.declared.action.Action.{Action}
use Rattle.session_actions.specs.declared.call.Call.{Call}
use Rattle.session_actions.specs.declared.entry.OpenEntry.{OpenEntry}
use Rattle.session_actions.specs.declared.seen.Seen.{Seen}
use Rattle.session_actions.specs.declared.action.Action.TheVariants as action
use Rattle.grpc_base.specs.declared.event.Event.TheVariants as event
use Rattle.grpc_base.specs.declared.event.Reply.TheVariants as reply

abbrev pub of_call : (Call → Action) → ℕ → Seen → Option Action
of_call f call s = option_map f (numbered s.calls call)

abbrev pub event_applied : Event → Seen → Option Action
event_applied (event.Begin request) s = Some action.CallBegins
event_applied (event.Send call message) s = of_call (send_action call message s) call s
event_applied (event.Finish call) s = Some (action.RequestFinished call)
event_applied (event.Take call) s = of_call (λ c. take_action call (next_item c s)) call s
event_applied (event.Cancel call) s = Some (action.EventAnswered reply.Done)
event_applied (event.Resolved addresses config) s = Some (action.ConfigRead (read_config config s))
event_applied event.ResolveFailed s = Some action.ResolutionFailed
event_applied event.TakeDial s = Some (take_dial s)
event_applied (event.LinkUp sub) s = Some (action.LinkUp sub)
event_applied (event.DialFailed sub) s = Some (action.DialFails sub)
event_applied (event.Arrived link piece) s = Some (action.BytesArrive link)
event_applied (event.LinkLost link) s = Some (action.LinkLost link)
event_applied (event.Drain link room) s = Some (action.EventAnswered (reply.Octets []))
event_applied (event.Ping link word) s = Some (action.PingQueued link)
event_applied event.Tick s = Some (action.EventAnswered reply.Done)
event_applied event.Shutdown s = Some action.ChannelShuts

abbrev pub event_action_by : Option Refusal → Event → Seen → Option Action
event_action_by (Some why) e s = Some (action.EventRefused why)
event_action_by None e s = event_applied e s

abbrev pub event_action : Event → Seen → Option Action
event_action e s = event_action_by (refusal_of e s) e s

-- frame by frame: of a piece those that are read, of a Drain those that are written
abbrev pub frame_of_event : Event → OpenEntry → Seen → Option Action
frame_of_event (event.Arrived link piece) o s = next_frame_read link s
frame_of_event (event.Drain link most) o s = next_written link most o s
frame_of_event _ o s = None

abbrev pub frame_action : OpenEntry → Seen → Option Action
frame_action o s = if is_after_event o then frame_of_event o.event o s else None

abbrev pub is_loss : Event → Bool
is_loss (event.LinkLost link) = true
is_loss _ = false
