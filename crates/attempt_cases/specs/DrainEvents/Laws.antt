-- A drain is answered: with the bytes of the frames that the session writes, one after the other, until none is left or the next does not fit; and channel and
-- session agree after it.
-- Example: a drain of link 1 finds the preface and HEADERS of attempt 1. The reply has their bytes; attempt 1 has stream 1 in both, and nothing else changes.
use Rattle.std.specs.Prelude.{List, None, Some, ℕ, ◌<◌, ◌^◌, ◌≡◌}
use Rattle.channel_actions.specs.Agrees.{Agrees}
use Rattle.channel_actions.specs.Calls.{SeesCalls}
use Rattle.channel_actions.specs.Columns.{SeesColumns}
use Rattle.channel_actions.specs.Stages.{EventsAnswered}
use Rattle.channel_core.specs.Books.{lines_of}
use Rattle.channel_core.specs.Applying as channel
use Rattle.channel_core.specs.Applying.{Applies}
use Rattle.channel_core.specs.Draining.{DrainLeaves}
use Rattle.channel_core.specs.States.{StateSeen}
use Rattle.channel_core.specs.Tables.{numbered}
use Rattle.channel_core.specs.declared.state.book.Book.{Book}
use Rattle.channel_core.specs.declared.state.links.LinkSlot.{LinkSlot}
use Rattle.channel_actions.specs.DrainLends.Laws.{DeadlinesAreClose}
use Rattle.channel_actions.specs.DrainWrites.Laws.{IsDrainRun}
use Rattle.grpc_base.specs.declared.event.Event.{Event}
use Rattle.grpc_base.specs.declared.event.Event.TheVariants as event
use Rattle.grpc_base.specs.declared.event.Reply.{Reply}
use Rattle.h2_link.specs.Wire.{Wire}
use Rattle.session_actions.specs.declared.entry.OpenEntry.{OpenEntry}
use Rattle.session_actions.specs.declared.link.Link.{Link}
use Rattle.session_actions.specs.declared.seen.Seen.{Seen}

-- a drain of a link that is not gone, with room enough. No deadline is further ahead than the longest duration; and whatever the drain leaves, fewer than 2^30
-- streams were opened on the link, which no session reaches
pub record IsDrain (e : Event) (x : StateSeen) (s : Seen) : Type 0 where
  pub link : ℕ
  pub room : ℕ
  pub event_is : e ≡ event.Drain link room
  pub kept : channel.refusal_of e x ≡ None
  pub near : DeadlinesAreClose s
  pub few : (y : StateSeen) (r : Reply) (slot : LinkSlot) → Applies e x y r → numbered y.links link ≡ Some slot → slot.link.link.wire.opened < 2 ^ 30

-- the session has written what the channel did, and the link agrees after it, with the lines that the book lends then
pub record HasRun (s t : Seen) (y : StateSeen) (link : ℕ) (fed : Book) : Type 0 where
  pub before : Link
  pub here : numbered s.links link ≡ Some before
  pub entry : OpenEntry
  pub current : s.current ≡ Some entry
  pub octets : List ℕ
  pub wire : Wire
  pub slot : LinkSlot
  pub there : numbered y.links link ≡ Some slot
  pub run : IsDrainRun before s entry octets wire slot.link.link.wire (lines_of fed) slot.link.readers
  pub seen : t ≡ run.seen

-- what is left of the channel's side: that its calls are those of the session once a drain has run, its ledger being that of the session. (Of the buffers of
-- calls it is proved, in `drain_calls`.)
abbrev pub DrainsKeepCalls : Type 0
DrainsKeepCalls =
    (x y : StateSeen) (s t : Seen) (link room : ℕ) (r : Reply) → Agrees x s → (leaves : DrainLeaves link room x r y) → HasRun s t y link leaves.fed → SeesColumns y.book.ledger t
    → SeesCalls y t

abbrev pub DrainsAreAnswered : Type 0
DrainsAreAnswered = DrainsKeepCalls → EventsAnswered IsDrain
