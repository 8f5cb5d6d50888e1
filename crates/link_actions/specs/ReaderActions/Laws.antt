-- The readers of a link (`response_actions`) when an attempt is placed on it, and when HEADERS open its stream.
-- Example: attempt 2 is placed on link 1, and gets a reader without a head. HEADERS on stream 3 are written for it: its reader has a stream from then on, and
-- GOAWAY that leaves stream 3 out is reported as an end of a request that was sent.
-- The laws, in the order of this file: an attempt that is placed; what is written, and a drain of it; GOAWAY and the ends that it brings, before the streams are reset and after.
use Rattle.std.specs.Prelude.{List, Some, map, true, ℕ, ◌==◌, ◌≡◌}
use Rattle.attempt_ledger.specs.declared.row.Placed.{Placed}
use Rattle.attempt_ledger.specs.declared.row.RowEnd.{RowEnd}
use Rattle.grpc_link.specs.Links.{opened_all, placed_reader}
use Rattle.grpc_link.specs.declared.readers.TagReader.{TagReader}
use Rattle.h2_frame.specs.Numbers.{goaway_type}
use Rattle.h2_frame.specs.Payloads.{last_stream}
use Rattle.h2_link.specs.Drains.{Outgoing, Sends, next, opened_between}
use Rattle.h2_link.specs.Drains.{Sent as Sending}
use Rattle.h2_link.specs.Feeds.{Line}
use Rattle.h2_link.specs.Wire.{Wire}
use Rattle.link_actions.specs.Laws.{with_owed, with_written}
use Rattle.link_actions.specs.ResponseActions.Laws.{frame_reported}
use Rattle.link_actions.specs.ResponseActions.Readers.{SeesReaders}
use Rattle.session_actions.specs.Policies.{attempt_placed}
use Rattle.session_actions.specs.Responses.{limit_of_attempt}
use Rattle.session_actions.specs.Words.{numbered}
use Rattle.session_actions.specs.Writing.{frame_read, frame_written}
use Rattle.session_actions.specs.declared.attempt.Attempt.{Attempt}
use Rattle.session_actions.specs.declared.link.Link.{Link}
use Rattle.session_actions.specs.declared.link.ReadFrame.{ReadFrame}
use Rattle.session_actions.specs.declared.seen.Seen.{Seen}
use Rattle.link_actions.specs.ResetActions.Laws.{AttemptsAreEndedAt}
use Rattle.link_actions.specs.SteadyLinks.Laws.{CanPlace}
use Rattle.link_actions.specs.StreamActions.Laws.{AreAllOf, Comes, IsWrittenOn, ended_all, left_out, left_resets, read_link, reset_all}
use Rattle.link_actions.specs.StreamActions.Sees.{SeesStreams}

-- an attempt that is placed on a link has a reader there from then on, with the limit of its call
abbrev pub PlacingsGiveReaders : Type 0
PlacingsGiveReaders =
    (l : Link) (s : Seen) (readers : List TagReader) (place : ℕ) (a : Attempt) (at : Placed) → SeesReaders l s readers → numbered s.attempts place ≡ Some a → CanPlace l a at
    → SeesReaders l (attempt_placed place at s) (placed_reader place (limit_of_attempt a s) readers)

-- whatever is written leaves the readers, but that the reader of the attempt whose stream HEADERS open has its stream opened (RFC 9113, section 5.1.1)
abbrev pub WritesKeepReaders : Type 0
WritesKeepReaders =
    (l : Link) (s : Seen) (w : Wire) (g : ℕ → Line) (x : Sending) (readers : List TagReader) → SeesStreams l s w g → SeesReaders l s readers → next w g ≡ Some x
    → (is : IsWrittenOn l s x) → SeesReaders (with_written is.sent l) (frame_written l.number is.sent s) (opened_all (opened_between w x.wire) readers)

-- the link opens the streams of a drain at its end: so do its frames, one after the other
abbrev pub OpeningsAddUp : Type 0
OpeningsAddUp =
    (w z : Wire) (g h : ℕ → Line) (x : Sending) (fs : List Outgoing) (readers : List TagReader) → next w g ≡ Some x → Sends x.wire x.lines fs z h
    → opened_all (opened_between w z) readers ≡ opened_all (opened_between x.wire z) (opened_all (opened_between w x.wire) readers)

-- after GOAWAY, once the attempts have ended that it ends, and the streams that it leaves out are reset, the readers that are left have what came of their
-- responses (RFC 9113, section 6.8)
abbrev pub GoawaysKeepReaders : Type 0
GoawaysKeepReaders =
    (l : Link) (s : Seen) (w : Wire) (g : ℕ → Line) (readers : List TagReader) (r : ReadFrame) (ends : List (ℕ × RowEnd)) → SeesStreams l s w g → SeesReaders l s readers → Comes l w r
    → (r.frame.kind == goaway_type) ≡ true → AreAllOf l s (last_stream r.frame.payload) ends
    → SeesReaders (with_owed (left_resets (left_out l s (last_stream r.frame.payload))) (read_link r l s))
    (reset_all (left_out l s (last_stream r.frame.payload)) (ended_all ends (frame_read l.number r s))) (frame_reported w readers r.frame).link.readers

-- and so before any stream is reset, in a session in which all these have ended
abbrev pub GoawaysLeaveReaders : Type 0
GoawaysLeaveReaders =
    (l : Link) (s : Seen) (w : Wire) (g : ℕ → Line) (readers : List TagReader) (r : ReadFrame) (ends : List (ℕ × RowEnd)) (rows : List Attempt) → SeesStreams l s w g
    → SeesReaders l s readers → Comes l w r → (r.frame.kind == goaway_type) ≡ true → AreAllOf l s (last_stream r.frame.payload) ends
    → AttemptsAreEndedAt (map (λ (x : ℕ × RowEnd). x.0) ends) s.attempts rows
    → SeesReaders (read_link r l s) (record (frame_read l.number r s) { attempts = rows }) (frame_reported w readers r.frame).link.readers
