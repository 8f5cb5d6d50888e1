-- The application sends a message that its call's config does not allow (gRPC, "Service Config in gRPC": maxRequestMessageBytes): it is answered, and the end of
-- the call is next; what the channel does is that end.
-- Example: the config of call 1 allows 10 bytes, and it is sent 11. EventAnswered Done, and CallEnds 1 for its request is next. Then its attempts are cut off.
use Rattle.std.specs.List.{list_all}
use Rattle.std.specs.Prelude.{List, None, Some, [], false, is_some, length, not, true, ℕ, ◌||◌, ◌∷◌, ◌≡◌}
use Rattle.call_core.specs.Parts.{is_too_long}
use Rattle.call_core.specs.Steps.{send_refusal}
use Rattle.channel_actions.specs.Agrees.{Agrees}
use Rattle.channel_actions.specs.Quiescent.{IsAt, IsQuiescent}
use Rattle.channel_actions.specs.Points.{IsSameEntry}
use Rattle.channel_actions.specs.Stages.{EventsAnswered}
use Rattle.channel_core.specs.Applying as channel
use Rattle.channel_core.specs.Applying.{AnswersBy}
use Rattle.channel_core.specs.Books.{slot_at}
use Rattle.channel_core.specs.States.{StateSeen}
use Rattle.channel_core.specs.Steps.{closed}
use Rattle.channel_core.specs.declared.state.slots.CallSlot.{CallSlot}
use Rattle.grpc_base.specs.declared.event.EndCause.{EndCause}
use Rattle.grpc_base.specs.declared.event.EndCause.TheVariants as ending
use Rattle.grpc_base.specs.declared.event.Event.{Event}
use Rattle.grpc_base.specs.declared.event.Event.TheVariants as event
use Rattle.grpc_base.specs.declared.event.Reply.{Reply}
use Rattle.session_actions.specs.Actions.{following}
use Rattle.session_actions.specs.CallEnds.{call_ended, next_deadline}
use Rattle.session_actions.specs.Events.{frame_action}
use Rattle.session_actions.specs.Laws.{posted_in}
use Rattle.session_actions.specs.Sessions.{Does}
use Rattle.session_actions.specs.Words.{numbered}
use Rattle.session_actions.specs.declared.action.Action.{Action}
use Rattle.session_actions.specs.declared.action.Action.TheVariants as action
use Rattle.session_actions.specs.declared.call.Call.{Call}
use Rattle.session_actions.specs.declared.entry.OpenEntry.{OpenEntry}
use Rattle.session_actions.specs.declared.entry.Stage.TheVariants as stage
use Rattle.session_actions.specs.declared.seen.Seen.{Seen}
use Rattle.session_order.specs.Quiescent.{IsStill}
use Rattle.session_order.specs.Lines.{is_line}
use Rattle.session_order.specs.declared.line.Line.{Line}
use Rattle.session_order.specs.declared.line.Line.TheVariants as line

-- the call is open, and its request is not finished; and the message is longer than its config allows
pub record IsLongSend (e : Event) (x : StateSeen) (s : Seen) : Type 0 where
  pub call : ℕ
  pub message : List ℕ
  pub event_is : e ≡ event.Send call message
  pub kept : channel.refusal_of e x ≡ None
  pub slot : CallSlot
  pub there : slot_at x.book call ≡ Some slot
  pub free : send_refusal slot.call ≡ None
  pub long : is_too_long slot.call.chosen (length message) ≡ true

-- the end of a call is next, and once it has ended, nothing follows at once but that its attempts are cut off
pub record IsToEnd (number : ℕ) (why : EndCause) (x : StateSeen) (o : OpenEntry) (s : Seen) : Type 0 where
  pub current : s.current ≡ Some o
  pub agrees : Agrees x s
  pub call : Call
  pub there : numbered s.calls number ≡ Some call
  pub going : call.end ≡ None
  pub next : following s ≡ Some (action.CallEnds number why)
  pub uncut : IsStill line.Cut o s
  pub unfollowed : IsStill line.Transparent o s
  pub still : (l : Line) → is_line l line.Cut ≡ false → IsStill l o (call_ended number why s)

-- an event is answered, and then it is so; and what the channel does is the end of that call
pub record LeadsToEnd (number : ℕ) (why : EndCause) (x y : StateSeen) (r : Reply) (o : OpenEntry) (s : Seen) : Type 0 where
  pub entry : OpenEntry
  pub seen : Seen
  pub only : seen ≡ record s { current = Some entry }
  pub does : Does (action.EventAnswered r ∷ []) s seen
  pub same : IsSameEntry o s entry seen
  pub stage_is : entry.stage ≡ stage.Replied
  pub reply : entry.reply ≡ Some r
  pub fresh : entry.turn ≡ None
  pub frameless : (t : Seen) → frame_action entry t ≡ None
  pub led : IsToEnd number why x entry seen
  pub ends : y ≡ closed why number x

abbrev pub LongSendsLead : Type 0
LongSendsLead =
    (x y : StateSeen) (r : Reply) (o : OpenEntry) (s : Seen) → Agrees x s → IsAt stage.Event o s → o.turn ≡ None → next_deadline s ≡ None
    → (case : IsLongSend o.event x s) → AnswersBy (channel.refusal_of o.event x) o.event x y r → LeadsToEnd case.call ending.Request x y r o s

-- So it is answered as any other event, where a call that is to end ends alike in both. That is asked here, of sessions in which no stream was reset of an
-- attempt that goes on; `call_ends` states it
abbrev pub NoStreamIsReset : Seen → Type 0
NoStreamIsReset s = list_all (λ a. is_some a.row.ended || not a.reset) s.attempts ≡ true

pub record EndsAlike (number : ℕ) (why : EndCause) (x : StateSeen) (o : OpenEntry) (s : Seen) : Type 0 where
  pub actions : List Action
  pub seen : Seen
  pub does : Does (action.CallEnds number why ∷ actions) s seen
  pub posts : posted_in actions ≡ []
  pub entries : seen.entries ≡ s.entries
  pub setup : seen.setup ≡ s.setup
  pub current : seen.current ≡ Some o
  pub quiescent : IsQuiescent o seen
  pub agrees : Agrees (closed why number x) seen

abbrev pub CallsEndAlike : Type 0
CallsEndAlike =
    (number : ℕ) (why : EndCause) (x : StateSeen) (o : OpenEntry) (s : Seen) → NoStreamIsReset s → IsToEnd number why x o s → EndsAlike number why x o s

pub record IsLongSendThen (e : Event) (x : StateSeen) (s : Seen) : Type 0 where
  pub send : IsLongSend e x s
  pub unreset : NoStreamIsReset s

abbrev pub LongSendsAreAnswered : Type 0
LongSendsAreAnswered = CallsEndAlike → EventsAnswered IsLongSendThen
