-- What is few in a run: its attempts, and the streams of a link (RFC 9113, section 5.1.1).
-- Example: three attempts were made on link 1. A drain of it opens no more than 3 streams.
use Rattle.std.specs.Prelude.{None, Some, length, ℕ, ◌*◌, ◌<◌, ◌^◌, ◌≡◌}
use Rattle.channel_actions.specs.Agrees.{Agrees}
use Rattle.channel_actions.specs.Known.{IsKnown}
use Rattle.channel_core.specs.Applying as channel
use Rattle.channel_core.specs.Applying.{Applies}
use Rattle.channel_core.specs.States.{StateSeen}
use Rattle.channel_core.specs.Tables.{numbered}
use Rattle.channel_core.specs.declared.state.links.LinkSlot.{LinkSlot}
use Rattle.grpc_base.specs.declared.event.Event.TheVariants as event
use Rattle.grpc_base.specs.declared.event.Reply.{Reply}
use Rattle.session_actions.specs.declared.seen.Seen.{Seen}

abbrev pub AttemptsAreFew : Type 0
AttemptsAreFew = (x : StateSeen) (s : Seen) → IsKnown x s → length s.attempts < 7 * 2 ^ 40

abbrev pub StreamsAreFew : Type 0
StreamsAreFew =
    (x y : StateSeen) (s : Seen) (r : Reply) (link room : ℕ) (slot : LinkSlot) → Agrees x s → IsKnown x s
    → channel.refusal_of (event.Drain link room) x ≡ None → Applies (event.Drain link room) x y r → numbered y.links link ≡ Some slot
    → slot.link.link.wire.opened < 2 ^ 30
