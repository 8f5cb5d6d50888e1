-- A piece that arrives is its frames, one after the other, however its bytes were cut: where each frame leads from a point to a point, the piece is answered. What is no
-- whole frame yet is kept by channel and session alike; bytes that break the link end the walk; and of a link that is over nothing is read.
-- Example: a piece has a frame of DATA, then PUSH_PROMISE, and a PING. BytesArrive; FrameRead of DATA, with all that follows from it; LinkBreaks, with the end of each
-- attempt on the link. The PING is read in neither.
-- The laws, in the order of this file: what is asked of one frame, and of bytes that break the link; a piece.
use Rattle.std.specs.Prelude.{List, None, Some, [], drop, length, ◌+◌, ◌<◌, ◌≡◌, ◌≤◌, ℕ}
use Rattle.channel_actions.specs.Known.{IsKnown}
use Rattle.channel_actions.specs.Stages.{EventsAnswered}
use Rattle.channel_core.specs.Applying as channel
use Rattle.channel_core.specs.Arrivals.{frame_received}
use Rattle.channel_core.specs.States.{StateSeen}
use Rattle.channel_core.specs.Tables.{Received, received_in}
use Rattle.frame_cases.specs.PieceWalks.Points.{HasReceived, IsReceiving, IsReadOut}
use Rattle.grpc_base.specs.declared.event.Event.{Event}
use Rattle.grpc_base.specs.declared.event.Event.TheVariants as event
use Rattle.session_actions.specs.Laws.{posted_in}
use Rattle.session_actions.specs.Sessions.{Does}
use Rattle.session_actions.specs.Words.{numbered}
use Rattle.session_actions.specs.Writing.{next_frame_read}
use Rattle.session_actions.specs.declared.action.Action.{Action}
use Rattle.session_actions.specs.declared.action.Action.TheVariants as action
use Rattle.session_actions.specs.declared.entry.OpenEntry.{OpenEntry}
use Rattle.session_actions.specs.declared.link.Link.{Link}
use Rattle.session_actions.specs.declared.link.ReadFrame.{ReadFrame}
use Rattle.session_actions.specs.declared.seen.Seen.{Seen}

-- what the bytes show next is read in the session, and received by the channel; from there the actions that follow lead to the next point. By what it is
abbrev pub ReceivedOf : (ℕ → Seen → Action → Received → Type 0) → Type 0
ReceivedOf Case =
    (link : ℕ) (piece : List ℕ) (x : StateSeen) (o : OpenEntry) (s : Seen) (a : Action) (h : Received) → IsReceiving link piece x o s → next_frame_read link s ≡ Some a
    → received_in link piece x.links ≡ Some h → Case link s a h → HasReceived link (drop h.taken piece) (frame_received link h x) o s

-- a frame
abbrev pub FramesAreHandled : Type 0
FramesAreHandled = ReceivedOf (λ link s a h. (r : ReadFrame) × (a ≡ action.FrameRead link r))

-- bytes that break the link (RFC 9113, section 5.4.1), where fewer than 2^64 - 1 attempts were made
pub record IsBreak (link : ℕ) (s : Seen) (a : Action) (h : Received) : Type 0 where
  pub code : ℕ
  pub is : a ≡ action.LinkBreaks link code
  pub few : length s.attempts < 18446744073709551615

abbrev pub BreaksAreHandled : Type 0
BreaksAreHandled = ReceivedOf IsBreak

-- what is known stays known along a frame: of the channel, whatever it receives; of the session, along its actions
abbrev pub KnownAlongFrames : Type 0
KnownAlongFrames =
    (link : ℕ) (piece : List ℕ) (x : StateSeen) (o : OpenEntry) (s t : Seen) (a : Action) (h : Received) (actions : List Action) → IsReceiving link piece x o s
    → next_frame_read link s ≡ Some a → received_in link piece x.links ≡ Some h → Does actions s t → posted_in actions ≡ [] → t.entries ≡ s.entries
    → IsKnown (frame_received link h x) t

-- a piece arrives on a link that is not gone. What was not read of it shows no whole frame, and fewer than 2^64 bytes came on it, as in every session whose journal is
-- below its limit
pub record IsArrival (e : Event) (x : StateSeen) (s : Seen) : Type 0 where
  pub link : ℕ
  pub piece : List ℕ
  pub event_is : e ≡ event.Arrived link piece
  pub kept : channel.refusal_of e x ≡ None
  pub out : (l : Link) → numbered s.links link ≡ Some l → IsReadOut l
  pub few : (l : Link) → numbered s.links link ≡ Some l → length l.received + length piece ≤ 18446744073709551615
  pub known : IsKnown x s

abbrev pub PiecesAreHandled : Type 0
PiecesAreHandled = FramesAreHandled → BreaksAreHandled → KnownAlongFrames → EventsAnswered IsArrival
