-- The application sends a message for which its call has no room but that of a committed one (gRFC A6, "Memory Management (Buffering)"): it is accepted, and the
-- commitment of the call to the attempt that was drained furthest is next.
-- Example: call 1 holds 262,144 bytes, its attempt 2 is outstanding, and it is sent `hi`. MessageAccepted, and CallCommitted 2 by overflow is next. Between the two
-- the call holds 7 bytes more than is kept for attempts to come.
use Rattle.std.specs.Prelude.{List, None, Some, [], false, length, true, ℕ, ◌∷◌, ◌≡◌}
use Rattle.call_core.specs.Parts.{committed_buffer, furthest, is_too_long, pushed_over}
use Rattle.call_core.specs.Steps as steps
use Rattle.call_core.specs.Steps.{Stepped, send_refusal}
use Rattle.channel_actions.specs.Agrees.{Agrees}
use Rattle.channel_actions.specs.Quiescent.{IsAt}
use Rattle.channel_actions.specs.Points.{IsSameEntry}
use Rattle.channel_core.specs.Applying as channel
use Rattle.channel_core.specs.Applying.{AnswersBy}
use Rattle.channel_core.specs.Books.{slot_at}
use Rattle.channel_core.specs.States.{StateSeen}
use Rattle.channel_core.specs.Steps.{call_asked, sealed}
use Rattle.channel_core.specs.declared.state.slots.CallSlot.{CallSlot}
use Rattle.grpc_base.specs.declared.event.Event.{Event}
use Rattle.grpc_base.specs.declared.event.Event.TheVariants as event
use Rattle.grpc_base.specs.declared.event.Reply.{Reply}
use Rattle.grpc_frame.specs.Messages.{framed}
use Rattle.session_actions.specs.Actions.{following}
use Rattle.session_actions.specs.CallEnds.{next_deadline}
use Rattle.session_actions.specs.Events.{frame_action}
use Rattle.session_actions.specs.Sessions.{Does}
use Rattle.session_actions.specs.Words.{numbered}
use Rattle.session_actions.specs.declared.action.Action.TheVariants as action
use Rattle.session_actions.specs.declared.action.CommitCause.{CommitCause}
use Rattle.session_actions.specs.declared.action.CommitCause.TheVariants as commit
use Rattle.session_actions.specs.declared.attempt.Attempt.{Attempt}
use Rattle.session_actions.specs.declared.call.Call.{Call}
use Rattle.session_actions.specs.declared.entry.OpenEntry.{OpenEntry}
use Rattle.session_actions.specs.declared.entry.Stage.TheVariants as stage
use Rattle.session_actions.specs.declared.seen.Seen.{Seen}
use Rattle.session_order.specs.Quiescent.{IsStill}
use Rattle.session_order.specs.Lines.{is_line}
use Rattle.session_order.specs.declared.line.Line.{Line}
use Rattle.session_order.specs.declared.line.Line.TheVariants as line
use Rattle.call_actions.specs.TakeActions.Cuts.{CanCommit}

-- the call is open, its request is not finished, the message is not too long; and it commits the call
pub record IsFullSend (e : Event) (x : StateSeen) (s : Seen) : Type 0 where
  pub call : ℕ
  pub message : List ℕ
  pub event_is : e ≡ event.Send call message
  pub kept : channel.refusal_of e x ≡ None
  pub slot : CallSlot
  pub there : slot_at x.book call ≡ Some slot
  pub free : send_refusal slot.call ≡ None
  pub short : is_too_long slot.call.chosen (length message) ≡ false
  pub over : pushed_over slot.call.buffer (framed message) (furthest slot.call.buffer slot.call.live) ≡ true

-- a call is committed to a row, which is drained on
abbrev pub commits : ℕ → ℕ → Stepped → Stepped
commits row moment s = steps.committed row moment (record s { call = record s.call { buffer = committed_buffer row s.call.buffer } })

-- an event is answered, and then the commitment of a call to an attempt is next, to which it can be committed; nothing else follows at once. Channel and session
-- agree there, at a state of the channel from which it commits that call
pub record LeadsToCommit (number : ℕ) (why : CommitCause) (x y : StateSeen) (r : Reply) (o : OpenEntry) (s : Seen) : Type 0 where
  pub entry : OpenEntry
  pub seen : Seen
  pub does : Does (action.MessageAccepted number ∷ []) s seen
  pub same : IsSameEntry o s entry seen
  pub current : seen.current ≡ Some entry
  pub stage_is : entry.stage ≡ stage.Replied
  pub reply : entry.reply ≡ Some r
  pub fresh : entry.turn ≡ None
  pub frameless : (t : Seen) → frame_action entry t ≡ None
  pub between : StateSeen
  pub agrees : Agrees between seen
  pub call : Call
  pub there : numbered seen.calls number ≡ Some call
  pub attempt : Attempt
  pub can : CanCommit seen call attempt
  pub next : following seen ≡ Some (action.CallCommitted attempt.place why)
  pub still : (l : Line) → is_line l line.Overflow ≡ false → IsStill l entry seen
  pub commits_so : y ≡ sealed (call_asked (commits attempt.place between.book.moment) number between)

abbrev pub FullSendsLead : Type 0
FullSendsLead =
    (x y : StateSeen) (r : Reply) (o : OpenEntry) (s : Seen) → Agrees x s → IsAt stage.Event o s → o.turn ≡ None → next_deadline s ≡ None
    → (case : IsFullSend o.event x s) → AnswersBy (channel.refusal_of o.event x) o.event x y r → LeadsToCommit case.call commit.Overflow x y r o s
