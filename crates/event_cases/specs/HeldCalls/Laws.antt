-- What `drained_calls` asks of each call after a drain, where channel and session keep what they do keep: the buffer of each open call holds what the session has, and
-- what came for its application is as before. The link is not over.
-- Example: DATA of 3 bytes is written for attempt 1 of call 1. The buffer of call 1 has 3 bytes less left for row 1, and call 2 is as before.
use Rattle.std.specs.Prelude.{None, Some, ℕ, ◌≡◌}
use Rattle.channel_actions.specs.Agrees.{Agrees}
use Rattle.channel_actions.specs.Known.{IsKnown}
use Rattle.channel_actions.specs.Stages.{EventsAnswered}
use Rattle.attempt_cases.specs.DrainEvents.Laws.{HasRun, IsDrain}
use Rattle.event_cases.specs.DrainedCalls.Laws.{IsHeld}
use Rattle.channel_actions.specs.PrefacedLinks.Prefaced.{LinksArePrefaced}
use Rattle.channel_actions.specs.OwnStreams.Own.{StreamsAreOwn}
use Rattle.channel_actions.specs.SoundBuffers.Held.{BuffersAreSound}
use Rattle.channel_core.specs.Books.{slot_at}
use Rattle.channel_core.specs.Draining.{DrainLeaves}
use Rattle.channel_core.specs.States.{StateSeen}
use Rattle.channel_core.specs.declared.state.slots.CallSlot.{CallSlot}
use Rattle.grpc_base.specs.declared.event.Event.{Event}
use Rattle.grpc_base.specs.declared.event.Reply.{Reply}
use Rattle.session_actions.specs.Words.{numbered}
use Rattle.session_actions.specs.declared.call.Call.{Call}
use Rattle.session_actions.specs.declared.seen.Seen.{Seen}

abbrev pub KnownCallsAreHeld : Type 0
KnownCallsAreHeld =
    (x y : StateSeen) (s t : Seen) (link room : ℕ) (r : Reply) → Agrees x s → BuffersAreSound x → LinksArePrefaced s → StreamsAreOwn s → (leaves : DrainLeaves link room x r y)
    → (run : HasRun s t y link leaves.fed) → run.before.over ≡ None
    → (number : ℕ) (c : Call) (slot : CallSlot) → numbered s.calls number ≡ Some c → slot_at leaves.fed number ≡ Some slot → IsHeld s t c slot

-- so a drain is answered, with what runs keep
pub record IsKnownDrain (e : Event) (x : StateSeen) (s : Seen) : Type 0 where
  pub drain : IsDrain e x s
  pub known : IsKnown x s

abbrev pub KnownDrainsAreAnswered : Type 0
KnownDrainsAreAnswered = EventsAnswered IsKnownDrain
