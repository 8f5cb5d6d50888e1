-- Frames of an attempt's stream are actions of a session: the frame is read, its attempt goes on or ends, and its stream is reset; then link and session
-- agree again. Each law is of any link and session that agree, so no other action of the entry stands in it.
-- Example: DATA with END_STREAM comes on a stream whose request is not finished. The frame is read; the attempt ends with UNKNOWN; RST_STREAM with CANCEL
-- is queued. The link has queued the same, and has the stream no more.
-- The laws, in the order of this file:
-- 1. A new link; what is written; frames of no attempt's stream: these leave all responses.
-- 2. An attempt that is cut off ends, and its stream is reset.
-- 3. DATA.
-- 4. A whole header block: the head, trailers, interim responses; and a part of one.
-- 5. RST_STREAM; WINDOW_UPDATE of the stream; PRIORITY and frames of unknown types.
-- 6. GOAWAY.
-- 7. Ends are those of the session's responses, with the codes that it resets streams with: DATA, header blocks, RST_STREAM, GOAWAY.
-- Still to be stated: other ends of one frame (those that are cut off), whose resets go by stream. So is that what is reported of a response is what came of it (a
-- head, messages, the end with its code and metadata); breaks in mid-piece; a link that is lost.
use Rattle.std.specs.List.{AllByRecursion}
use Rattle.std.specs.Prelude.{Bool, List, None, Option, Some, [], false, filter, if◌then◌else◌, is_none, is_some, length, map, nat_lt, not, true, ℕ, ◌&&◌, ◌+◌, ◌==◌, ◌<◌, ◌^◌, ◌||◌, ◌∷◌, ◌≡◌}
use Rattle.attempt_ledger.specs.declared.row.RowEnd.{RowEnd}
use Rattle.grpc_base.specs.ErrorCodes.{cancel, flow_control_error, protocol_error}
use Rattle.h2_frame.specs.Frames.{FrameSeen, has_flag, is_allowed}
use Rattle.h2_frame.specs.Numbers.{continuation_type, data_type, end_stream_flag, goaway_type, headers_type, ping_type, rst_stream_type, settings_type, window_update_type}
use Rattle.h2_frame.specs.Payloads.{increment, last_stream}
use Rattle.h2_frame.specs.Sent.{rst_stream_frame}
use Rattle.h2_link.specs.Drains.{next}
use Rattle.h2_link.specs.Drains.{Sent as Sending}
use Rattle.h2_link.specs.Feeds.{Line}
use Rattle.h2_link.specs.LinkErrors as link
use Rattle.h2_link.specs.Steps.{cut, reported}
use Rattle.h2_link.specs.Wire.{Wire, fresh_wire}
use Rattle.link_actions.specs.Laws.{IsApart, with_owed, with_written}
use Rattle.lb_policy.specs.Table.{is_one_of}
use Rattle.link_actions.specs.ResetActions.Ahead.{SeesAhead}
use Rattle.link_actions.specs.Sees.{AttemptsStandInPlace, by_stream, outgoing_of}
use Rattle.session_actions.specs.AttemptEnds.{attempt_ended, code_to_reset, stream_reset}
use Rattle.session_actions.specs.Links.{has_written_end, read_bytes, stream_number}
use Rattle.session_actions.specs.Reading.{frame_read_by, initial_window, is_of_block, is_outstanding_on, largest_window, outstanding_on, raised, used}
use Rattle.session_actions.specs.Responses.{http_status, is_interim}
use Rattle.session_actions.specs.Subchannels.{new_link}
use Rattle.session_actions.specs.Words.{numbered}
use Rattle.session_actions.specs.Writing.{frame_read, frame_written, owed_for, sendable, streaming_on, waiting_on, with_frame_read}
use Rattle.session_actions.specs.declared.attempt.Attempt.{Attempt}
use Rattle.session_actions.specs.declared.link.Block.{Block}
use Rattle.session_actions.specs.declared.link.Link.{Link}
use Rattle.session_actions.specs.declared.link.NextRead.TheVariants as nextread
use Rattle.session_actions.specs.declared.link.ReadFrame.{ReadFrame}
use Rattle.session_actions.specs.declared.link.Sent.{Sent}
use Rattle.session_actions.specs.declared.response.Outcome.{Outcome}
use Rattle.session_actions.specs.declared.seen.Seen.{Seen}
use Rattle.link_actions.specs.StreamActions.Sees.{SeesBut, SeesStreams, response_of}

-- an attempt has a stream of the link
pub record IsOn (l : Link) (s : Seen) (n : ℕ) (a : Attempt) : Type 0 where
  pub there : numbered s.attempts a.place ≡ Some a
  pub out : is_outstanding_on l a ≡ true
  pub stream : a.row.stream ≡ Some n

-- a frame comes that breaks no rule of the link, and it is read with the header list that it completes, if with any
pub record Comes (l : Link) (w : Wire) (r : ReadFrame) : Type 0 where
  pub allowed : is_allowed r.frame ≡ true
  pub end : r.end ≡ read_bytes l + (9 + length r.frame.payload)
  pub fair : link.link_error w r.frame ≡ None
  pub next : frame_read_by None l r.frame r.end ≡ nextread.Frame r

abbrev pub read_link : ReadFrame → Link → Seen → Link
read_link r l s = with_frame_read r (owed_for r.frame l s) l

-- a link that comes up, on which the session has no attempt yet (RFC 9113, section 3.4)
abbrev pub NewLinksAgree : Type 0
NewLinksAgree =
    (number sub : ℕ) (t s : Seen) (g : ℕ → Line) → numbered s.links number ≡ Some (new_link number sub t) → outstanding_on (new_link number sub t) s ≡ []
    → AttemptsStandInPlace 1 s.attempts → SeesStreams (new_link number sub t) s fresh_wire g

-- a frame that is of no attempt's stream, and no GOAWAY, leaves the responses (RFC 9113, section 5.1)
abbrev pub QuietFramesKeepStreams : Type 0
QuietFramesKeepStreams =
    (l : Link) (s : Seen) (w : Wire) (g : ℕ → Line) (r : ReadFrame) → SeesStreams l s w g → Comes l w r → IsApart r.frame w
    → SeesStreams (read_link r l s) (frame_read l.number r s) (reported w r.frame).wire g

-- and so does whatever is written; a stream that is opened has no response yet (RFC 9113, section 5.1.1)
pub record IsWrittenOn (l : Link) (s : Seen) (x : Sending) : Type 0 where
  pub sent : Sent
  pub next : sendable l s ≡ Some sent
  pub same : outgoing_of sent ≡ x.frame
  pub sees : SeesStreams (with_written sent l) (frame_written l.number sent s) x.wire x.lines

abbrev pub WritesKeepStreams : Type 0
WritesKeepStreams =
    (l : Link) (s : Seen) (w : Wire) (g : ℕ → Line) (x : Sending) → SeesStreams l s w g → w.opened < 2 ^ 30 → next w g ≡ Some x → IsWrittenOn l s x

-- what becomes of the attempt of a stream: it goes on; or it ends, and RST_STREAM with a code is queued for it, or none
pub data Then : Type 0 where
  GoesOn : Then
  Ends : Option ℕ → Then

-- so link and session agree again, once the attempt has ended, but that the link is ahead by that reset, if any. Once the session queues it too they agree
-- (`reset_actions`). (Where its response has an end though the link goes on, as by a message that breaks a rule, the link is asked to cut it off: that is the
-- next law.)
abbrev pub reset_for : ℕ → Option ℕ → List (ℕ × ℕ)
reset_for n None = []
reset_for n (Some code) = (n, code) ∷ []

abbrev pub Follows : Link → Seen → Attempt → ℕ → Then → Wire → (ℕ → Line) → Type 0
Follows l s a n GoesOn w g =
    SeesBut a.place l s w g × ((response_of l s n a).end ≡ None → (response_of l s n a).large ≡ false → SeesStreams l s w g)
Follows l s a n (Ends code) w g =
    (e : RowEnd) → SeesAhead (reset_for n code) l (attempt_ended a.place e s) w g × (w.queue.fresh ≡ length (reset_for n code))

-- the stream of an attempt that ends, for whatever cause, is reset with a code (RFC 9113, section 5.4.2; gRPC over HTTP/2, "Errors"). This is of one such
-- end at a time: where no other reset stands at the end of the queue that was queued by the same frame
abbrev pub CutsKeep : Type 0
CutsKeep =
    (l : Link) (s : Seen) (w : Wire) (g : ℕ → Line) (n code : ℕ) (a : Attempt) → SeesBut a.place l s w g → IsOn l s n a → w.queue.fresh ≡ 0
    → Follows l s a n (Ends (Some code)) (cut w a.place code) g

-- DATA of an attempt's stream (RFC 9113, sections 6.1 and 6.9): as many bytes are given back, on the link, and on the stream where the attempt goes on.
-- Before a head it breaks a rule of the stream (section 8.1); with END_STREAM it ends the attempt, whose stream is reset with CANCEL unless the client has
-- ended it too (gRPC over HTTP/2, "Responses" and "Errors")
abbrev pub closed_code : Bool → Option ℕ
closed_code written_end = if written_end then None else Some cancel

abbrev pub data_then : Bool → Bool → Bool → Then
data_then has_head_ written_end ends = if not has_head_ then Ends (Some protocol_error) else if ends then Ends (closed_code written_end) else GoesOn

abbrev pub DataIsRead : Type 0
DataIsRead =
    (l : Link) (s : Seen) (w : Wire) (g : ℕ → Line) (r : ReadFrame) (a : Attempt) → SeesStreams l s w g → Comes l w r → IsOn l s r.frame.stream a
    → (r.frame.kind == data_type) ≡ true
    → Follows (read_link r l s) (frame_read l.number r s) a r.frame.stream
    (data_then (is_some (response_of l s r.frame.stream a).head) (has_written_end r.frame.stream l) (has_flag r.frame.flags end_stream_flag)) (reported w r.frame).wire g

-- a whole header block on an attempt's stream (RFC 9113, section 8.1; gRPC over HTTP/2, "Responses"). With END_STREAM it is trailers, which end the attempt;
-- its stream is reset with CANCEL unless the client has ended it too. Without, it is the head, of which there is one; interim responses before it are passed
-- over. A block that breaks these rules ends the attempt, whose stream is reset with PROTOCOL_ERROR
abbrev pub block_then : Bool → Option ℕ → Bool → Bool → Then
block_then has_head_ status ends written_end =
    if not has_head_ && is_interim status then (if ends then Ends (Some protocol_error) else GoesOn)
    else if ends then Ends (closed_code written_end)
    else if has_head_ || is_none status then Ends (Some protocol_error)
    else GoesOn

abbrev pub BlocksAreRead : Type 0
BlocksAreRead =
    (l : Link) (s : Seen) (w : Wire) (g : ℕ → Line) (r : ReadFrame) (a : Attempt) (b : Block) → SeesStreams l s w g → Comes l w r → IsOn l s r.frame.stream a
    → r.block ≡ Some b
    → Follows (read_link r l s) (frame_read l.number r s) a r.frame.stream
    (block_then (is_some (response_of l s r.frame.stream a).head) (http_status b.fields) b.ends (has_written_end r.frame.stream l)) (reported w r.frame).wire g

-- a frame of a header block that is not its last: the attempt goes on (RFC 9113, section 4.3)
abbrev pub PartsAreRead : Type 0
PartsAreRead =
    (l : Link) (s : Seen) (w : Wire) (g : ℕ → Line) (r : ReadFrame) (a : Attempt) → SeesStreams l s w g → Comes l w r → IsOn l s r.frame.stream a
    → is_of_block r.frame ≡ true → r.block ≡ None
    → Follows (read_link r l s) (frame_read l.number r s) a r.frame.stream GoesOn (reported w r.frame).wire g

-- RST_STREAM ends the attempt, and nothing is reset (RFC 9113, section 6.4)
abbrev pub ResetsAreRead : Type 0
ResetsAreRead =
    (l : Link) (s : Seen) (w : Wire) (g : ℕ → Line) (r : ReadFrame) (a : Attempt) → SeesStreams l s w g → Comes l w r → IsOn l s r.frame.stream a
    → (r.frame.kind == rst_stream_type) ≡ true
    → Follows (read_link r l s) (frame_read l.number r s) a r.frame.stream (Ends None) (reported w r.frame).wire g

-- WINDOW_UPDATE of the stream gives it more to send; one of nothing, or above the largest window, ends the attempt, whose stream is reset with
-- PROTOCOL_ERROR or FLOW_CONTROL_ERROR (RFC 9113, sections 6.9 and 6.9.1)
abbrev pub is_too_wide : Link → ℕ → ℕ → Bool
is_too_wide l stream by = nat_lt (largest_window + used stream l) (initial_window l + raised stream l + by)

abbrev pub update_then : ℕ → Bool → Then
update_then by wide = if by == 0 then Ends (Some protocol_error) else if wide then Ends (Some flow_control_error) else GoesOn

abbrev pub UpdatesAreRead : Type 0
UpdatesAreRead =
    (l : Link) (s : Seen) (w : Wire) (g : ℕ → Line) (r : ReadFrame) (a : Attempt) → SeesStreams l s w g → Comes l w r → IsOn l s r.frame.stream a
    → (r.frame.kind == window_update_type) ≡ true
    → Follows (read_link r l s) (frame_read l.number r s) a r.frame.stream
    (update_then (increment r.frame.payload) (is_too_wide l r.frame.stream (increment r.frame.payload))) (reported w r.frame).wire g

-- PRIORITY, and a frame of a type that is not known, are passed over (RFC 9113, sections 4.1 and 5.3.2)
abbrev pub is_passed_over : FrameSeen → Bool
is_passed_over f =
    not ((f.kind == data_type) || (f.kind == headers_type) || (f.kind == rst_stream_type) || (f.kind == settings_type) || (f.kind == ping_type)
    || (f.kind == goaway_type) || (f.kind == window_update_type) || (f.kind == continuation_type))

abbrev pub OthersAreRead : Type 0
OthersAreRead =
    (l : Link) (s : Seen) (w : Wire) (g : ℕ → Line) (r : ReadFrame) (a : Attempt) → SeesStreams l s w g → Comes l w r → IsOn l s r.frame.stream a
    → is_passed_over r.frame ≡ true → Follows (read_link r l s) (frame_read l.number r s) a r.frame.stream GoesOn (reported w r.frame).wire g

-- several attempts end, one after the other; and streams are reset with CANCEL, one after the other
abbrev pub ended_all : List (ℕ × RowEnd) → Seen → Seen
ended_all [] s = s
ended_all (x ∷ xs) s = ended_all xs (attempt_ended x.0 x.1 s)

abbrev pub reset_all : List Attempt → Seen → Seen
reset_all [] s = s
reset_all (a ∷ xs) s = reset_all xs (stream_reset a.place cancel s)

-- the attempts whose streams GOAWAY leaves out, in the order of their streams
abbrev pub is_left_out : ℕ → Attempt → Bool
is_left_out last a = nat_lt last (stream_number a)

abbrev pub left_out : Link → Seen → ℕ → List Attempt
left_out l s last = filter (is_left_out last) (by_stream (streaming_on l s))

abbrev pub left_resets : List Attempt → List FrameSeen
left_resets xs = map (λ a. rst_stream_frame (stream_number a) cancel) xs

-- these are the attempts on a link that GOAWAY ends, in whatever order: those whose streams it leaves out, and those that wait for a stream
pub record IsSomewhere (s : Seen) (t : ℕ) : Type 0 where
  pub attempt : Attempt
  pub there : numbered s.attempts t ≡ Some attempt

pub record AreAllOf (l : Link) (s : Seen) (last : ℕ) (ends : List (ℕ × RowEnd)) : Type 0 where
  pub somewhere : AllByRecursion (λ (x : ℕ × RowEnd). IsSomewhere s x.0) ends
  pub streams : AllByRecursion (λ a. is_one_of (map (λ (x : ℕ × RowEnd). x.0) ends) a.place ≡ is_left_out last a) (by_stream (streaming_on l s))
  pub waits : AllByRecursion (λ a. is_one_of (map (λ (x : ℕ × RowEnd). x.0) ends) a.place ≡ true) (waiting_on l s)

-- GOAWAY (RFC 9113, section 6.8; gRPC over HTTP/2, "GOAWAY Frame"): no stream is opened any more; these attempts end, and then the streams that it leaves out
-- are reset, the lowest first
abbrev pub GoawaysAreRead : Type 0
GoawaysAreRead =
    (l : Link) (s : Seen) (w : Wire) (g : ℕ → Line) (r : ReadFrame) (ends : List (ℕ × RowEnd)) → SeesStreams l s w g → Comes l w r
    → (r.frame.kind == goaway_type) ≡ true → AreAllOf l s (last_stream r.frame.payload) ends
    → SeesStreams (with_owed (left_resets (left_out l s (last_stream r.frame.payload))) (read_link r l s))
    (reset_all (left_out l s (last_stream r.frame.payload)) (ended_all ends (frame_read l.number r s))) (reported w r.frame).wire g

-- an end that the link acts on is the session's own: the response has it, and its stream is reset with the code by which the session resets it (gRPC over
-- HTTP/2, "Errors"; RFC 9113, sections 5.4.2, 6.4 and 8.1)
pub record EndsAs (l : Link) (s : Seen) (a : Attempt) (n : ℕ) (code : Option ℕ) : Type 0 where
  pub outcome : Outcome
  pub end : (response_of l s n a).end ≡ Some outcome
  pub resets : (e : RowEnd) → e.cause ≡ outcome.cause → code_to_reset a e n s l ≡ code

abbrev pub EndsAlike : Link → Seen → Attempt → ℕ → Then → Type 0
EndsAlike l s a n GoesOn = Unit {0}
EndsAlike l s a n (Ends code) = EndsAs l s a n code

-- of DATA, where no message is too long
abbrev pub DataEndsAlike : Type 0
DataEndsAlike =
    (l : Link) (s : Seen) (w : Wire) (g : ℕ → Line) (r : ReadFrame) (a : Attempt) → SeesStreams l s w g → Comes l w r → IsOn l s r.frame.stream a → l.over ≡ None
    → (r.frame.kind == data_type) ≡ true → (response_of (read_link r l s) (frame_read l.number r s) r.frame.stream a).large ≡ false
    → EndsAlike (read_link r l s) (frame_read l.number r s) a r.frame.stream
    (data_then (is_some (response_of l s r.frame.stream a).head) (has_written_end r.frame.stream l) (has_flag r.frame.flags end_stream_flag))

-- of a whole header block
abbrev pub BlocksEndAlike : Type 0
BlocksEndAlike =
    (l : Link) (s : Seen) (w : Wire) (g : ℕ → Line) (r : ReadFrame) (a : Attempt) (b : Block) → SeesStreams l s w g → Comes l w r → IsOn l s r.frame.stream a → l.over ≡ None
    → r.block ≡ Some b
    → EndsAlike (read_link r l s) (frame_read l.number r s) a r.frame.stream
    (block_then (is_some (response_of l s r.frame.stream a).head) (http_status b.fields) b.ends (has_written_end r.frame.stream l))

-- of RST_STREAM
abbrev pub ResetsEndAlike : Type 0
ResetsEndAlike =
    (l : Link) (s : Seen) (w : Wire) (g : ℕ → Line) (r : ReadFrame) (a : Attempt) → SeesStreams l s w g → Comes l w r → IsOn l s r.frame.stream a → l.over ≡ None
    → (r.frame.kind == rst_stream_type) ≡ true → EndsAs (read_link r l s) (frame_read l.number r s) a r.frame.stream None

-- of GOAWAY, for a stream that it leaves out
abbrev pub GoawaysEndAlike : Type 0
GoawaysEndAlike =
    (l : Link) (s : Seen) (w : Wire) (g : ℕ → Line) (r : ReadFrame) (a : Attempt) (n : ℕ) → SeesStreams l s w g → Comes l w r → IsOn l s n a → l.over ≡ None
    → (r.frame.kind == goaway_type) ≡ true → nat_lt (last_stream r.frame.payload) n ≡ true → EndsAs (read_link r l s) (frame_read l.number r s) a n (Some cancel)
