-- The buffers of a channel's calls are sound: those of a new one are, and each step keeps it, where its calls go on (`going_calls`). So does each of a step's
-- parts: that deadlines end calls, that the event is answered, that the channel settles.
-- Example: call 1 is committed to row 2, and a transparent retry of it is made, row 3. Once row 3 is placed, the messages of call 1 are held for it alone.
use Rattle.std.specs.Global.{Global}
use Rattle.std.specs.Prelude.{Bool, List, None, Option, Some, false, slice_get, true, ℕ, ◌≡◌}
use Rattle.attempt_buffer.specs.Buffers.{Buffered}
use Rattle.call_actions.specs.Order.{AttemptsAreNumbered}
use Rattle.call_actions.specs.TakeActions.Serves.{Holds}
use Rattle.channel_actions.specs.Agrees.{Agrees}
use Rattle.channel_actions.specs.DrainCalls.Laws.{IsLeftAt, IsOnlyStreamed, fed_some}
use Rattle.channel_actions.specs.GoingCalls.Going.{CallsGoOn}
use Rattle.channel_actions.specs.SoundBuffers.Held.{BuffersAreSound, HoldsSoundly, IsSoundIn}
use Rattle.channel_core.specs.Applying.{AnswersBy, Stepped, new_state}
use Rattle.channel_core.specs.Books.{slot_at}
use Rattle.channel_core.specs.Settling.{settled}
use Rattle.channel_core.specs.States.{StateSeen}
use Rattle.channel_core.specs.Steps.{overdue_ended}
use Rattle.channel_core.specs.declared.state.slots.CallSlot.{CallSlot}
use Rattle.grpc_base.specs.declared.event.Event.{Event}
use Rattle.grpc_base.specs.declared.event.Refusal.{Refusal}
use Rattle.grpc_base.specs.declared.event.Reply.{Reply}
use Rattle.lb_policy.specs.Table.{PolicySeen}
use Rattle.session_actions.specs.Attempts.{is_of, is_outstanding}
use Rattle.session_actions.specs.Words.{numbered}
use Rattle.session_actions.specs.Writing.{drained}
use Rattle.session_actions.specs.declared.attempt.Attempt.{Attempt}
use Rattle.session_actions.specs.declared.call.Call.{Call}
use Rattle.session_actions.specs.declared.seen.Seen.{Seen}

abbrev pub NewBuffersAreSound : Type 0
NewBuffersAreSound = (alloc : Global) (authority : List ℕ) (policies : List PolicySeen) → BuffersAreSound (new_state alloc authority policies)

abbrev pub StepsHoldSoundly : Type 0
StepsHoldSoundly =
    (entry moment word : ℕ) (e : Event) (old new : StateSeen) (r : Reply) → Stepped entry moment word e old new r → CallsGoOn old → BuffersAreSound old
    → BuffersAreSound new

abbrev pub DeadlinesHoldSoundly : Type 0
DeadlinesHoldSoundly = (x : StateSeen) → CallsGoOn x → BuffersAreSound x → BuffersAreSound (overdue_ended x)

abbrev pub AnswersHoldSoundly : Type 0
AnswersHoldSoundly =
    (refused : Option Refusal) (e : Event) (x y : StateSeen) (r : Reply) → AnswersBy refused e x y r → CallsGoOn x → BuffersAreSound x → BuffersAreSound y

abbrev pub SettlingsHoldSoundly : Type 0
SettlingsHoldSoundly = (x : StateSeen) → CallsGoOn x → BuffersAreSound x → BuffersAreSound (settled x)

-- of the call of a number
abbrev pub EachHoldsSoundly : Type 0
EachHoldsSoundly = (x : StateSeen) (number : ℕ) (slot : CallSlot) → BuffersAreSound x → slot_at x.book number ≡ Some slot → HoldsSoundly slot.call

-- so the buffer of an open call is sound beside any session that it agrees with
abbrev pub BuffersAreSoundIn : Type 0
BuffersAreSoundIn =
    (x : StateSeen) (s : Seen) (number : ℕ) (c : Call) (slot : CallSlot) → Agrees x s → BuffersAreSound x → numbered s.calls number ≡ Some c
    → slot_at x.book number ≡ Some slot → c.end ≡ None → IsSoundIn s c slot.call.buffer

-- and what a drain takes of a sound buffer leaves it with what the session has (as `FeedsHold` of `drain_calls` says where the row to which it is committed is that of
-- the commitment, also while that waits)
abbrev pub SoundFeedsHold : Type 0
SoundFeedsHold =
    (s t : Seen) (c : Call) (b : Buffered) (own : ℕ → Bool) (feeds : List (ℕ × ℕ)) → AttemptsAreNumbered 1 s.attempts → IsOnlyStreamed s t → Holds s c b → IsSoundIn s c b
    → ((i : ℕ) (a : Attempt) → slice_get t.attempts i ≡ Some a → is_of c a ≡ true → is_outstanding a ≡ true → IsLeftAt t c (fed_some own feeds b) a)
    → ((i : ℕ) (a z : Attempt) → slice_get s.attempts i ≡ Some a → slice_get t.attempts i ≡ Some z → is_outstanding a ≡ false → drained z t ≡ drained a s)
    → Holds t c (fed_some own feeds b)
