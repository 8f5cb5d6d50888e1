-- Frames of which the link reports nothing: nothing follows from them at once, and channel and session agree after them.
-- Example: DATA on stream 1 has the first 3 of 7 bytes of a message. It is read; leave to send as much again is owed on the link and on the stream; nothing is reported to
-- the call, and the next frame is read.
-- The laws, in the order of this file:
-- 1. A frame that reports nothing, as a link and a session read it: no response gains anything.
-- 2. So it is handled: PING, PRIORITY and unknown types; SETTINGS after the first, and their acknowledgement; WINDOW_UPDATE; frames of streams that are closed; parts of
-- header blocks, and of messages; interim responses.
use Rattle.std.specs.List.{list_all}
use Rattle.std.specs.Prelude.{List, None, [], false, true, ◌==◌, ◌≡◌, ℕ}
use Rattle.channel_core.specs.Tables.{Received}
use Rattle.frame_cases.specs.PieceWalks.Laws.{ReceivedOf}
use Rattle.grpc_link.specs.declared.readers.TagReader.{TagReader}
use Rattle.h2_frame.specs.Numbers.{goaway_type}
use Rattle.h2_link.specs.Feeds.{Line}
use Rattle.h2_link.specs.Wire.{Wire}
use Rattle.link_actions.specs.ResponseActions.Gained.{is_listed_fairly}
use Rattle.link_actions.specs.ResponseActions.Laws.{frame_reported}
use Rattle.link_actions.specs.ResponseActions.Readers.{SeesReaders}
use Rattle.link_actions.specs.StreamActions.Laws.{Comes, IsOn, read_link}
use Rattle.link_actions.specs.StreamActions.Sees.{SeesStreams, response_of}
use Rattle.session_actions.specs.Links.{has_settings, is_retiring}
use Rattle.session_actions.specs.Writing.{frame_read}
use Rattle.session_actions.specs.declared.action.Action.{Action}
use Rattle.session_actions.specs.declared.action.Action.TheVariants as action
use Rattle.session_actions.specs.declared.attempt.Attempt.{Attempt}
use Rattle.session_actions.specs.declared.link.Link.{Link}
use Rattle.session_actions.specs.declared.link.ReadFrame.{ReadFrame}
use Rattle.session_actions.specs.declared.response.Response.{Response}
use Rattle.session_actions.specs.declared.seen.Seen.{Seen}

-- a response to which nothing came: but for windows, and the bytes of a message that is not whole
pub record HasNothingNew (p q : Response) : Type 0 where
  pub head : q.head ≡ p.head
  pub messages : q.messages ≡ p.messages
  pub large : q.large ≡ p.large
  pub end : q.end ≡ p.end

-- a frame that is read leaves the responses without anything new, and all that a link has of a session but that SETTINGS came
pub record IsReadStill (l m : Link) (s t : Seen) (w : Wire) (g : ℕ → Line) (readers : List TagReader) : Type 0 where
  pub streams : SeesStreams m t w g
  pub reads : SeesReaders m t readers
  pub retiring : is_retiring m ≡ is_retiring l
  pub responses : (n : ℕ) (a : Attempt) → IsOn l s n a → HasNothingNew (response_of l s n a) (response_of m t n a)

pub record IsReadQuietly (l m : Link) (s t : Seen) (w : Wire) (g : ℕ → Line) (readers : List TagReader) : Type 0 where
  pub still : IsReadStill l m s t w g readers
  pub settings : has_settings m ≡ has_settings l

-- (GOAWAY is a law of its own. The session keeps header lists with frames of header blocks alone.)
abbrev pub QuietFramesLeaveResponses : Type 0
QuietFramesLeaveResponses =
    (l : Link) (s : Seen) (w : Wire) (g : ℕ → Line) (readers : List TagReader) (r : ReadFrame) → SeesStreams l s w g → SeesReaders l s readers → Comes l w r → l.over ≡ None
    → list_all is_listed_fairly l.traffic ≡ true → (r.frame.kind == goaway_type) ≡ false → (frame_reported w readers r.frame).news ≡ []
    → IsReadQuietly l (read_link r l s) s (frame_read l.number r s) (frame_reported w readers r.frame).link.link.wire g (frame_reported w readers r.frame).link.readers

-- a frame that the link does not report, and no GOAWAY
pub record IsQuiet (link : ℕ) (s : Seen) (a : Action) (h : Received) : Type 0 where
  pub frame : ReadFrame
  pub is : a ≡ action.FrameRead link frame
  pub stays : (frame.frame.kind == goaway_type) ≡ false
  pub none : h.news ≡ []

abbrev pub QuietFramesAreHandled : Type 0
QuietFramesAreHandled = ReceivedOf IsQuiet
