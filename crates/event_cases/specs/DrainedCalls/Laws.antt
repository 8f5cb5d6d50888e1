-- A drain leaves each call of the channel in agreement with the session, where its buffer holds what the session has and what came of its response is as before.
-- Example: HEADERS and DATA are written for attempt 1 of call 1. What the buffer of call 1 has left is what the session did not write, and nothing came: then
-- call 1 agrees, with its timers and with what the session keeps of it in order.
use Rattle.std.specs.Prelude.{None, Some, ℕ, ◌≡◌}
use Rattle.channel_actions.specs.Agrees.{Agrees}
use Rattle.channel_core.specs.Books.{slot_at}
use Rattle.channel_core.specs.Draining.{DrainLeaves}
use Rattle.channel_core.specs.States.{StateSeen}
use Rattle.channel_core.specs.declared.state.slots.CallSlot.{CallSlot}
use Rattle.attempt_cases.specs.DrainEvents.Laws.{DrainsKeepCalls, HasRun}
use Rattle.grpc_base.specs.declared.event.Reply.{Reply}
use Rattle.session_actions.specs.Words.{numbered}
use Rattle.session_actions.specs.declared.call.Call.{Call}
use Rattle.session_actions.specs.declared.seen.Seen.{Seen}
use Rattle.call_actions.specs.TakeActions.Serves.{Holds, came}

-- of each call what is left of it
pub record IsHeld (s t : Seen) (c : Call) (slot : CallSlot) : Type 0 where
  pub came_same : came c t ≡ came c s
  pub holds : c.end ≡ None → Holds t c slot.call.buffer

abbrev pub CallsAreHeld : Type 0
CallsAreHeld =
    (x y : StateSeen) (s t : Seen) (link room : ℕ) (r : Reply) → Agrees x s → (leaves : DrainLeaves link room x r y) → HasRun s t y link leaves.fed
    → (number : ℕ) (c : Call) (slot : CallSlot) → numbered s.calls number ≡ Some c → slot_at leaves.fed number ≡ Some slot → IsHeld s t c slot

abbrev pub HeldCallsAgree : Type 0
HeldCallsAgree = CallsAreHeld → DrainsKeepCalls
