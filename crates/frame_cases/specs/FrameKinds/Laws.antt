-- Frames by what the link reports of them. These are all kinds, so where each is handled, every frame is.
-- Example: DATA with END_STREAM after a head completes the message `hi`. The link reports the message, and the end UNKNOWN: a frame that ends an attempt.
-- The laws, in the order of this file:
-- 1. The kinds of frames.
-- 2. One law a kind: what is asked of it.
-- 3. These are all.
use Rattle.std.specs.List.{list_any}
use Rattle.std.specs.Prelude.{Bool, List, false, if◌then◌else◌, true, ◌==◌, ◌≡◌, ℕ}
use Rattle.attempt_ledger.specs.declared.news.News.{News}
use Rattle.attempt_ledger.specs.declared.news.News.TheVariants as news
use Rattle.channel_core.specs.Tables.{Received}
use Rattle.frame_cases.specs.PieceWalks.Laws.{FramesAreHandled, ReceivedOf}
use Rattle.h2_frame.specs.Numbers.{goaway_type}
use Rattle.session_actions.specs.declared.action.Action.{Action}
use Rattle.session_actions.specs.declared.action.Action.TheVariants as action
use Rattle.session_actions.specs.declared.link.ReadFrame.{ReadFrame}
use Rattle.session_actions.specs.declared.seen.Seen.{Seen}

-- what is reported
abbrev pub is_end : News → Bool
is_end (news.Ended tag end) = true
is_end _ = false

abbrev pub is_large : News → Bool
is_large (news.TooLarge tag seen) = true
is_large _ = false

abbrev pub is_head : News → Bool
is_head (news.Head tag meta seen) = true
is_head _ = false

abbrev pub is_message : News → Bool
is_message (news.Message tag octets seen) = true
is_message _ = false

abbrev pub is_ready : News → Bool
is_ready news.Ready = true
is_ready _ = false

-- a frame that ends an attempt (RST_STREAM, trailers, END_STREAM, a broken rule of its stream); that brings a message which is too long; a head; messages; the
-- server's first SETTINGS; or of which nothing is reported
pub data FrameKind : Type 0 where
  Ends : FrameKind
  Large : FrameKind
  Heads : FrameKind
  Messages : FrameKind
  Prefaces : FrameKind
  Quiet : FrameKind

abbrev pub kind_of : List News → FrameKind
kind_of ns =
    if list_any is_end ns then Ends
    else if list_any is_large ns then Large
    else if list_any is_head ns then Heads
    else if list_any is_message ns then Messages
    else if list_any is_ready ns then Prefaces
    else Quiet

-- GOAWAY apart, which may end several attempts
pub record IsOfKind (kind : FrameKind) (link : ℕ) (s : Seen) (a : Action) (h : Received) : Type 0 where
  pub frame : ReadFrame
  pub is : a ≡ action.FrameRead link frame
  pub stays : (frame.frame.kind == goaway_type) ≡ false
  pub kind_is : kind_of h.news ≡ kind

pub record IsGoaway (link : ℕ) (s : Seen) (a : Action) (h : Received) : Type 0 where
  pub frame : ReadFrame
  pub is : a ≡ action.FrameRead link frame
  pub goes : (frame.frame.kind == goaway_type) ≡ true

-- the attempt of the stream ends by its response, and its call goes on, is retried or ends (gRPC over HTTP/2, "Responses" and "Errors"; gRFC A6)
abbrev pub EndsAreHandled : Type 0
EndsAreHandled = ReceivedOf (IsOfKind Ends)

-- a message that is longer than allowed ends its call (gRPC over HTTP/2, "Length-Prefixed-Message")
abbrev pub LargeMessagesAreHandled : Type 0
LargeMessagesAreHandled = ReceivedOf (IsOfKind Large)

-- a head commits its call, and its other attempts are cut off (gRFC A6, "When Retries are Valid")
abbrev pub HeadsAreHandled : Type 0
HeadsAreHandled = ReceivedOf (IsOfKind Heads)

-- messages come for the application
abbrev pub MessagesAreHandled : Type 0
MessagesAreHandled = ReceivedOf (IsOfKind Messages)

-- the server's connection preface: the subchannel of the link becomes READY (RFC 9113, section 3.4; "gRPC Connectivity Semantics and API")
abbrev pub PrefacesAreHandled : Type 0
PrefacesAreHandled = ReceivedOf (IsOfKind Prefaces)

-- GOAWAY: attempts whose streams it leaves out end, and those that wait for a stream, and the link takes no further attempt (RFC 9113, section 6.8)
abbrev pub GoawaysAreHandled : Type 0
GoawaysAreHandled = ReceivedOf IsGoaway

-- these are all
abbrev pub FramesByKinds : Type 0
FramesByKinds = EndsAreHandled → LargeMessagesAreHandled → HeadsAreHandled → MessagesAreHandled → PrefacesAreHandled → GoawaysAreHandled → FramesAreHandled
