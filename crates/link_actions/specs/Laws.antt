-- What a link reads is what a session reads: a new link is one on which nothing passed. A whole frame breaks the link by the same rule, with the same
-- code; and what the next bytes show is the same. What else a frame does (an attempt gets a head, or ends) is other actions, which come after this
-- one; they do not change what was read.
-- Example: PING comes before SETTINGS. The link is broken with PROTOCOL_ERROR in both.
-- The laws, in the order of this file, with what is still to be stated:
-- 1. New links, frames that break the link, and what the next bytes show.
-- 2. What is written: control frames, HEADERS, DATA; drains.
-- 3. Frames of no attempt's stream.
-- 4. Ends: an attempt that ends, for whatever cause, is on its link no more; RST_STREAM is queued for its stream; PING of the environment is queued.
use Rattle.std.specs.List.{list_any}
use Rattle.std.specs.Prelude.{List, None, Option, Some, [], drop, false, filter, flat_map, length, not, option_map, slice_get, true, ℕ, ◌+◌, ◌++◌, ◌==◌, ◌<◌, ◌≤◌, ◌^◌, ◌∷◌, ◌≡◌}
use Rattle.attempt_ledger.specs.declared.row.RowEnd.{RowEnd}
use Rattle.grpc_base.specs.declared.event.Reply.TheVariants as reply
use Rattle.h2_frame.specs.Frames.{FrameSeen, is_allowed}
use Rattle.h2_frame.specs.Numbers.{goaway_type}
use Rattle.h2_frame.specs.Sent.{ping_frame, rst_stream_frame}
use Rattle.h2_link.specs.Drains.{Drains, next, outgoing, sent_control}
use Rattle.h2_link.specs.Drains.{Sent as Sending}
use Rattle.h2_link.specs.Feeds.{Line}
use Rattle.h2_link.specs.Received.{prefix_of}
use Rattle.h2_link.specs.LinkErrors as link
use Rattle.h2_link.specs.Queues.{reset_queued}
use Rattle.h2_link.specs.Steps.{broke, pinged, reported}
use Rattle.h2_link.specs.Wire.{Report, Wire, fresh_wire}
use Rattle.h2_link.specs.declared.control.Control.{Control}
use Rattle.link_actions.specs.Sees.{Sees, SeesLink, SeesOwed, SeesRead, outgoing_of}
use Rattle.session_actions.specs.AttemptEnds.{attempt_ended, stream_reset}
use Rattle.session_actions.specs.Entries.{replied}
use Rattle.session_actions.specs.Links.{link_number, owed, read_bytes}
use Rattle.session_actions.specs.Reading.{link_error, next_read}
use Rattle.session_actions.specs.Subchannels.{new_link}
use Rattle.session_actions.specs.Words.{numbered}
use Rattle.session_actions.specs.Writing.{bytes_of, frame_read, frame_written, has_begun, next_control, owed_for, sendable, with_frame_read}
use Rattle.session_actions.specs.declared.attempt.Attempt.{Attempt}
use Rattle.session_actions.specs.declared.link.Link.{Link}
use Rattle.session_actions.specs.declared.link.NextRead.{NextRead}
use Rattle.session_actions.specs.declared.link.ReadFrame.{ReadFrame}
use Rattle.session_actions.specs.declared.link.Sent.{Sent}
use Rattle.session_actions.specs.declared.seen.Seen.{Seen}
use Rattle.session_actions.specs.declared.link.Traffic.TheVariants as traffic
use Rattle.session_actions.specs.declared.link.NextRead.TheVariants as nextread

-- a link that comes up
abbrev pub NewOnesAgree : Type 0
NewOnesAgree = (number sub : ℕ) (s : Seen) → SeesRead (new_link number sub s) fresh_wire

-- a frame that keeps the rules of a frame alone: the rule of the link that it breaks, if any
abbrev pub FramesAreJudged : Type 0
FramesAreJudged =
    (l : Link) (s : Seen) (w : Wire) (f : FrameSeen) → Sees l s w → is_allowed f ≡ true → link_error l f s ≡ link.link_error w f

-- what the bytes that were not read show: the same frame, which both have read then; or the error that breaks the link
abbrev pub IsSameRead : Link → Seen → Wire → NextRead → Option (ℕ × Report) → Type 0
IsSameRead l s w nextread.Nothing None = Unit {0}
IsSameRead l s w (nextread.Broken code) (Some x) = x.1 ≡ broke w code
IsSameRead l s w (nextread.Frame r) (Some x) =
    (r.end ≡ read_bytes l + x.0) × SeesRead (with_frame_read r (owed_for r.frame l s) l) x.1.wire
IsSameRead l s w _ _ = ⊥

abbrev pub ReadsAreSame : Type 0
ReadsAreSame =
    (l : Link) (s : Seen) (w : Wire) (bytes : List ℕ) → Sees l s w → drop (read_bytes l) l.received ≡ bytes
    → IsSameRead l s w (next_read l s) (prefix_of w bytes)

-- a link on which this was written
abbrev pub with_written : Sent → Link → Link
with_written x l = record l { traffic = l.traffic ++ traffic.Written x ∷ [] }

-- what stands next to be written whatever the windows is the same: the preface, and then the control frames in the order in which they became owed;
-- and both have written it then
pub record IsControlSent (l : Link) (s : Seen) (w : Wire) (c : Control) (g : ℕ → Line) : Type 0 where
  pub sent : Sent
  pub next : sendable l s ≡ Some sent
  pub same : outgoing_of sent ≡ outgoing c
  pub owes : SeesOwed (with_written sent l) (sent_control w g c).wire
  pub reads : SeesRead (with_written sent l) (sent_control w g c).wire

abbrev pub ControlsAreSame : Type 0
ControlsAreSame =
    (l : Link) (s : Seen) (w : Wire) (c : Control) (g : ℕ → Line) → SeesRead l w → SeesOwed l w → slice_get w.queue.items 0 ≡ Some c
    → IsControlSent l s w c g

-- and where nothing of these is left in one, nothing is in the other
abbrev pub NoneIsOwed : Type 0
NoneIsOwed =
    (l : Link) (w : Wire) → SeesOwed l w → slice_get w.queue.items 0 ≡ None → (has_begun l ≡ true) × (next_control l ≡ None)

-- what a link writes next is what the session does: the same bytes, or nothing in both. (The numbers of streams do not end, which no session reaches.)
abbrev pub WritesAreSame : Type 0
WritesAreSame =
    (l : Link) (s : Seen) (w : Wire) (g : ℕ → Line) → SeesLink l s w g → w.opened < 2 ^ 30
    → option_map outgoing_of (sendable l s) ≡ option_map (λ x. x.frame) (next w g)

-- and what was written leaves them in agreement: after each frame the link is what the session then is
pub record IsWritten (l : Link) (s : Seen) (x : Sending) : Type 0 where
  pub sent : Sent
  pub next : sendable l s ≡ Some sent
  pub same : outgoing_of sent ≡ x.frame
  pub sees : SeesLink (with_written sent l) (frame_written l.number sent s) x.wire x.lines

abbrev pub WritesKeep : Type 0
WritesKeep =
    (l : Link) (s : Seen) (w : Wire) (g : ℕ → Line) (x : Sending) → SeesLink l s w g → w.opened < 2 ^ 30 → next w g ≡ Some x → IsWritten l s x

-- a drain is a list of frames that are written, each of which is what the session writes next; and it ends where nothing is left to write, or where the
-- next does not fit
abbrev pub Writes : Link → Seen → List Sent → Link → Seen → Type 0
Writes l s [] m t = (m ≡ l) × (t ≡ s)
Writes l s (x ∷ xs) m t = (sendable l s ≡ Some x) × Writes (with_written x l) (frame_written l.number x s) xs m t

pub record IsDrained (l : Link) (s : Seen) (room_ : ℕ) (octets : List ℕ) (w : Wire) (g : ℕ → Line) : Type 0 where
  pub sent : List Sent
  pub link : Link
  pub seen : Seen
  pub writes : Writes l s sent link seen
  pub bytes : octets ≡ flat_map bytes_of sent
  pub fits : length octets ≤ room_
  pub stops : (x : Sent) → sendable link seen ≡ Some x → room_ < length octets + length (bytes_of x)
  pub sees : SeesLink link seen w g

abbrev pub DrainsAreWritten : Type 0
DrainsAreWritten =
    (room_ : ℕ) (l : Link) (s : Seen) (w w2 : Wire) (g g2 : ℕ → Line) (octets : List ℕ) → SeesLink l s w g → w2.opened < 2 ^ 30
    → Drains room_ w g octets w2 g2 → IsDrained l s room_ octets w2 g2

-- a frame that is of no attempt's stream, and no GOAWAY: what it makes owed is the same, the acknowledgement of SETTINGS, the answer to PING, the window
-- of late DATA given back. Both agree after it, with no other action
abbrev pub IsApart : FrameSeen → Wire → Type 0
IsApart f w = ((f.kind == goaway_type) ≡ false) × (list_any (λ x. x.number == f.stream) w.live ≡ false)

abbrev pub QuietFramesKeep : Type 0
QuietFramesKeep =
    (l : Link) (s : Seen) (w : Wire) (g : ℕ → Line) (r : ReadFrame) → SeesLink l s w g → is_allowed r.frame ≡ true
    → r.end ≡ read_bytes l + (9 + length r.frame.payload) → link.link_error w r.frame ≡ None → (reported w r.frame).wire.broken ≡ None → IsApart r.frame w
    → SeesLink (with_frame_read r (owed_for r.frame l s) l) (frame_read l.number r s) (reported w r.frame).wire g

-- an attempt ends, for whatever cause: its link has its stream no more, nor does it wait there; all else stays (RFC 9113, section 5.1.2: what counts as open
-- are the streams of attempts that are outstanding)
abbrev pub without_tag : ℕ → Wire → Wire
without_tag t w = record w { live = filter (λ x. not (x.tag == t)) w.live; waiting = filter (λ n. not (n == t)) w.waiting }

abbrev pub EndsKeep : Type 0
EndsKeep =
    (l : Link) (s : Seen) (w : Wire) (g : ℕ → Line) (t : ℕ) (a : Attempt) (e : RowEnd) → SeesLink l s w g → numbered s.attempts t ≡ Some a
    → SeesLink l (attempt_ended t e s) (without_tag t w) g

-- RST_STREAM is queued for the stream of an attempt that ended, after all that was owed before (RFC 9113, section 6.4)
abbrev pub with_owed : List FrameSeen → Link → Link
with_owed frames l = record l { owed = l.owed ++ frames }

abbrev pub ResetsKeep : Type 0
ResetsKeep =
    (l : Link) (s : Seen) (w : Wire) (g : ℕ → Line) (t n code : ℕ) (a : Attempt) (e : RowEnd) → SeesLink l s w g → numbered s.attempts t ≡ Some a
    → a.row.ended ≡ Some e → a.row.stream ≡ Some n → link_number a ≡ l.number → w.queue.fresh ≡ 0
    → SeesLink (with_owed (rst_stream_frame n code ∷ []) l) (stream_reset t code s) (record w { queue = reset_queued n code w.queue }) g

-- a PING of the environment is queued after all that is owed, and answered with Done (RFC 9113, section 6.7)
abbrev pub PingsKeep : Type 0
PingsKeep =
    (l : Link) (s : Seen) (w : Wire) (g : ℕ → Line) (word : ℕ) → SeesLink l s w g
    → SeesLink (with_owed (ping_frame word ∷ []) l) (replied reply.Done (owed (ping_frame word ∷ []) l.number s)) (pinged w word) g
