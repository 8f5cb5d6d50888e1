-- A piece of bytes arrives on a link. A session has all of it at once (BytesArrive), and reads it one frame after the other. The channel takes of the piece what shows
-- the next frame, receives it with all that follows from it, and then goes on with the rest. So between two frames the two agree as if the link of the channel kept the
-- bytes that are still to be handled (RFC 9113, section 4.1).
-- Example: of two frames of 17 bytes and 3 bytes of a third, which come in one piece, the channel agrees as if its link kept 37 bytes after BytesArrive, 20 after the
-- first frame, and 3 after the second. These 3 it keeps.
use Rattle.std.specs.List.{list_all}
use Rattle.std.specs.Prelude.{List, None, Some, [], drop, length, true, ◌++◌, ◌≡◌, ◌≤◌, ℕ}
use Rattle.channel_actions.specs.Agrees.{Agrees}
use Rattle.channel_actions.specs.Quiescent.{IsAt}
use Rattle.channel_actions.specs.Known.{IsKnown}
use Rattle.channel_actions.specs.Points.{IsSameEntry}
use Rattle.channel_core.specs.States.{StateSeen}
use Rattle.channel_core.specs.declared.state.links.LinkSlot.{LinkSlot}
use Rattle.grpc_base.specs.declared.event.Event.TheVariants as event
use Rattle.grpc_base.specs.declared.event.Reply.TheVariants as reply
use Rattle.h2_frame.specs.Readings.{Partial, reading_of}
use Rattle.ledger_stamps.specs.Steps.{changed_at}
use Rattle.link_actions.specs.ResponseActions.Gained.{is_listed_fairly}
use Rattle.session_actions.specs.Laws.{posted_in}
use Rattle.session_actions.specs.Links.{read_bytes}
use Rattle.session_actions.specs.Sessions.{Does}
use Rattle.session_actions.specs.Words.{numbered}
use Rattle.session_actions.specs.declared.action.Action.{Action}
use Rattle.session_actions.specs.declared.entry.OpenEntry.{OpenEntry}
use Rattle.session_actions.specs.declared.entry.Stage.TheVariants as stage
use Rattle.session_actions.specs.declared.link.Link.{Link}
use Rattle.session_actions.specs.declared.seen.Seen.{Seen}

-- the channel as if a link of it kept these bytes too
abbrev pub with_rest : List ℕ → LinkSlot → LinkSlot
with_rest piece slot = record slot { link = record slot.link { link = record slot.link.link { rest = slot.link.link.rest ++ piece } } }

abbrev pub coming : ℕ → List ℕ → StateSeen → StateSeen
coming link piece x = record x { links = changed_at (with_rest piece) x.links link }

-- of the session alone: no more was read of a link than came, and header lists stand with frames of header blocks alone
pub record IsReadFairly (l : Link) : Type 0 where
  pub within : read_bytes l ≤ length l.received
  pub listed : list_all is_listed_fairly l.traffic ≡ true

-- and what was not read shows no whole frame, unless the link is over
pub record IsReadOut (l : Link) : Type 0 where
  pub fair : IsReadFairly l
  pub part : l.over ≡ None → reading_of (drop (read_bytes l) l.received) ≡ Partial

-- a point between two frames: these bytes of the piece are still to be handled, and nothing follows at once. (A count of 64 bits stays at its last number, which no
-- journal reaches.)
pub record IsReceiving (link : ℕ) (piece : List ℕ) (x : StateSeen) (o : OpenEntry) (s : Seen) : Type 0 where
  pub at : IsAt stage.Replied o s
  pub whole : List ℕ
  pub event_is : o.event ≡ event.Arrived link whole
  pub reply : o.reply ≡ Some reply.Done
  pub fresh : o.turn ≡ None
  pub l : Link
  pub here : numbered s.links link ≡ Some l
  pub fair : IsReadFairly l
  pub few : length l.received ≤ 18446744073709551615
  -- what the link keeps of the bytes before shows no whole frame
  pub part : (slot : LinkSlot) → numbered x.links link ≡ Some slot → l.over ≡ None → reading_of slot.link.link.rest ≡ Partial
  pub agrees : Agrees (coming link piece x) s
  pub known : IsKnown x s

-- one frame was handled, with all that follows from it: these bytes are left of the piece, unless the link is over
pub record HasReceived (link : ℕ) (piece : List ℕ) (y : StateSeen) (o : OpenEntry) (s : Seen) : Type 0 where
  pub actions : List Action
  pub seen : Seen
  pub entry : OpenEntry
  pub does : Does actions s seen
  pub posts : posted_in actions ≡ []
  pub same : IsSameEntry o s entry seen
  pub at : IsAt stage.Replied entry seen
  pub reply : entry.reply ≡ o.reply
  pub fresh : entry.turn ≡ None
  pub link_ : Link
  pub here : numbered seen.links link ≡ Some link_
  pub fair : IsReadFairly link_
  pub few : length link_.received ≤ 18446744073709551615
  pub left : link_.over ≡ None → drop (read_bytes link_) link_.received ≡ piece
  pub agrees : Agrees (coming link piece y) seen
