-- What calls hold of their messages stays so beside a session (`TextsFit`): a new channel and a new session have no call, and each stage of an entry keeps it, where the
-- two agree before and after it. And where nothing was written of the messages of an open call for the attempt to which it is committed, if it is committed, all of
-- them are held from their first byte on.
-- Example: call 1 is committed by overflow to attempt 1, which waits on link 1 for a stream. Link 1 is lost: attempt 1 was never sent, and attempt 2, a transparent
-- retry, takes the commitment over. Nothing was given up meanwhile, so attempt 2 gets all messages.
use Rattle.std.specs.Global.{Global}
use Rattle.std.specs.Prelude.{List, None, Some, true, ℕ, ◌≡◌}
use Rattle.attempt_buffer.specs.Buffers.{text_of}
use Rattle.call_actions.specs.TakeActions.Serves.{drained_so_far}
use Rattle.channel_actions.specs.Agrees.{Agrees}
use Rattle.channel_actions.specs.Quiescent.{IsAt}
use Rattle.channel_actions.specs.HeldTexts.Fits.{TextsFit}
use Rattle.channel_core.specs.Applying.{AnswersBy, new_state, refusal_of}
use Rattle.channel_core.specs.Books.{slot_at}
use Rattle.channel_core.specs.Settling.{settled}
use Rattle.channel_core.specs.States.{StateSeen}
use Rattle.channel_core.specs.Steps.{overdue_ended}
use Rattle.channel_core.specs.declared.state.slots.CallSlot.{CallSlot}
use Rattle.grpc_base.specs.declared.event.Reply.{Reply}
use Rattle.grpc_frame.specs.Messages.{framed_all}
use Rattle.lb_policy.specs.Table.{PolicySeen}
use Rattle.session_actions.specs.CallEnds.{next_deadline}
use Rattle.session_actions.specs.Sessions.{Does, new_session}
use Rattle.session_actions.specs.Words.{numbered}
use Rattle.session_actions.specs.declared.action.Action.{Action}
use Rattle.session_actions.specs.declared.call.Call.{Call}
use Rattle.session_actions.specs.declared.entry.OpenEntry.{OpenEntry}
use Rattle.session_actions.specs.declared.entry.Stage.TheVariants as stage
use Rattle.session_actions.specs.declared.seen.Seen.{Seen}
use Rattle.session_actions.specs.declared.seen.Setup.{Setup}

abbrev pub NewTextsFit : Type 0
NewTextsFit = (alloc : Global) (authority : List ℕ) (policies : List PolicySeen) (setup : Setup) → TextsFit (new_state alloc authority policies) (new_session setup)

-- a step of the channel that accepts no message, with the actions that lead to where both agree again
abbrev pub TextsStay : (StateSeen → StateSeen → Type 0) → Type 0
TextsStay IsStep =
    (x y : StateSeen) (s t : Seen) (actions : List Action) → IsStep x y → Agrees x s → TextsFit x s → Does actions s t → Agrees y t → TextsFit y t

abbrev pub DeadlinesKeepTexts : Type 0
DeadlinesKeepTexts = TextsStay (λ x y. y ≡ overdue_ended x)

abbrev pub SettlingsKeepTexts : Type 0
SettlingsKeepTexts = TextsStay (λ x y. y ≡ settled x)

-- the event is answered
abbrev pub AnswersKeepTexts : Type 0
AnswersKeepTexts =
    (x y : StateSeen) (r : Reply) (o p : OpenEntry) (s t : Seen) (actions : List Action) → Agrees x s → TextsFit x s → IsAt stage.Event o s
    → next_deadline s ≡ None → AnswersBy (refusal_of o.event x) o.event x y r → Does actions s t → IsAt stage.Replied p t → Agrees y t → TextsFit y t

-- all messages are held
abbrev pub UnwrittenTextsAreWhole : Type 0
UnwrittenTextsAreWhole =
    (x : StateSeen) (s : Seen) (number : ℕ) (c : Call) (slot : CallSlot) → Agrees x s → TextsFit x s → numbered s.calls number ≡ Some c → slot_at x.book number ≡ Some slot
    → c.end ≡ None → drained_so_far c s ≡ 0 → (slot.call.buffer.is_whole ≡ true) × (text_of slot.call.buffer ≡ framed_all c.messages)
