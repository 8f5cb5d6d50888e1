-- What the application of a call posts, as cases of events: a Take, a Finish and a Send of a call that is there, while the channel is open. (A Take is
-- answered after a Shutdown too.)
-- Example: a Take of call 1 is such an event where call 1 is there, whether or not something came for it; it is one also once the end was taken, and then it
-- is refused with CallEnded.
use Rattle.std.specs.Prelude.{List, None, Some, false, length, ℕ, ◌≡◌}
use Rattle.call_core.specs.Parts.{furthest, is_too_long, pushed_over}
use Rattle.call_core.specs.Steps.{send_refusal}
use Rattle.channel_core.specs.Applying as channel
use Rattle.channel_core.specs.Books.{slot_at}
use Rattle.channel_core.specs.States.{StateSeen}
use Rattle.channel_core.specs.declared.state.slots.CallSlot.{CallSlot}
use Rattle.grpc_base.specs.declared.event.Event.{Event}
use Rattle.grpc_base.specs.declared.event.Event.TheVariants as event
use Rattle.grpc_frame.specs.Messages.{framed}
use Rattle.session_actions.specs.declared.seen.Seen.{Seen}

-- the application takes
pub record IsTake (e : Event) (x : StateSeen) (s : Seen) : Type 0 where
  pub call : ℕ
  pub event_is : e ≡ event.Take call
  pub kept : channel.refusal_of e x ≡ None

-- it finishes its request
pub record IsFinish (e : Event) (x : StateSeen) (s : Seen) : Type 0 where
  pub call : ℕ
  pub event_is : e ≡ event.Finish call
  pub kept : channel.refusal_of e x ≡ None

-- it sends a message that neither ends its call nor commits it: it is refused. Or it is not longer than the call's config allows, and what the call holds with it is
-- no more than is kept for attempts to come, or no attempt of the call is outstanding
pub record IsPlainSend (e : Event) (x : StateSeen) (s : Seen) : Type 0 where
  pub call : ℕ
  pub message : List ℕ
  pub event_is : e ≡ event.Send call message
  pub kept : channel.refusal_of e x ≡ None
  pub slot : CallSlot
  pub there : slot_at x.book call ≡ Some slot
  pub short : send_refusal slot.call ≡ None → is_too_long slot.call.chosen (length message) ≡ false
  pub room : send_refusal slot.call ≡ None → pushed_over slot.call.buffer (framed message) (furthest slot.call.buffer slot.call.live) ≡ false
