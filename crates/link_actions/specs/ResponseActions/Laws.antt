-- What a link reports of a frame is what the frame adds to the responses of its attempts: head, messages, a message that is too long, the end with its code
-- and metadata. And the readers that are left have what came of the responses that go on.
-- Example: HEADERS with `:status` 200 and `content-type` application/grpc come on stream 3, that of attempt 2. The link reports the head of attempt 2 with its
-- metadata. Trailers with `grpc-status` 5 after it are reported as the end NOT_FOUND, and attempt 2 has no reader any more.
-- The laws, in the order of this file:
-- 1. Frames of an attempt's stream: DATA, header blocks, RST_STREAM, WINDOW_UPDATE, and those that are passed over.
-- 2. Frames of no attempt's stream; GOAWAY.
-- 3. An attempt that ended has no reader; one that is cut off; whatever leaves the responses.
-- 4. The code of a reset stays once the attempt has ended; that of a cut.
use Rattle.std.specs.List.{list_all}
use Rattle.std.specs.Prelude.{List, None, Option, Some, [], false, if◌then◌else◌, is_some, map, min, not, true, ℕ, ◌&&◌, ◌++◌, ◌==◌, ◌∷◌, ◌≡◌}
use Rattle.attempt_ledger.specs.Ends.{is_cut}
use Rattle.attempt_ledger.specs.declared.news.News.{News}
use Rattle.attempt_ledger.specs.declared.news.News.TheVariants as news
use Rattle.attempt_ledger.specs.declared.row.RowCause.TheVariants as cause
use Rattle.attempt_ledger.specs.declared.row.RowEnd.{RowEnd}
use Rattle.grpc_base.specs.ErrorCodes.{cancel}
use Rattle.grpc_base.specs.declared.code.Code.TheVariants as code
use Rattle.grpc_link.specs.Links.{reader_in, reported_all, without}
use Rattle.grpc_link.specs.Links.{Report as Reported}
use Rattle.grpc_link.specs.declared.readers.TagReader.{TagReader}
use Rattle.h2_frame.specs.Frames.{FrameSeen}
use Rattle.h2_frame.specs.Numbers.{data_type, goaway_type, rst_stream_type, window_update_type}
use Rattle.h2_frame.specs.Payloads.{last_stream}
use Rattle.h2_link.specs.Feeds.{Line}
use Rattle.h2_link.specs.Steps.{reported}
use Rattle.h2_link.specs.Wire.{Wire}
use Rattle.link_actions.specs.Laws.{IsApart}
use Rattle.lb_policy.specs.Table.{is_one_of}
use Rattle.link_actions.specs.Sees.{NumbersAreDistinct, AttemptsStandInPlace}
use Rattle.link_actions.specs.LossActions.Sees.{end_news}
use Rattle.link_actions.specs.ResponseActions.Gained.{gained, is_done, is_listed_fairly}
use Rattle.link_actions.specs.ResponseActions.Readers.{SeesReaders, SeesReadersBut, attempt_on}
use Rattle.session_actions.specs.AttemptEnds.{attempt_ended, code_to_reset, unsent_end, with_end}
use Rattle.session_actions.specs.Links.{has_settings, is_retiring, is_settings, read_bytes}
use Rattle.session_actions.specs.Reading.{is_of_block}
use Rattle.session_actions.specs.Responses.{is_read_by, limit_of_attempt, plain_end, response}
use Rattle.session_actions.specs.Words.{numbered}
use Rattle.session_actions.specs.Writing.{frame_read, waiting_on}
use Rattle.session_actions.specs.declared.attempt.Attempt.{Attempt}
use Rattle.session_actions.specs.declared.link.Block.{Block}
use Rattle.session_actions.specs.declared.link.Link.{Link}
use Rattle.session_actions.specs.declared.link.ReadFrame.{ReadFrame}
use Rattle.session_actions.specs.declared.response.Outcome.{Outcome}
use Rattle.session_actions.specs.declared.seen.Seen.{Seen}
use Rattle.link_actions.specs.StreamActions.Laws.{Comes, Ends, Follows, IsOn, is_passed_over, left_out, read_link}
use Rattle.link_actions.specs.StreamActions.Sees.{SeesStreams, response_of}

-- what a link with these readers makes of a whole frame
abbrev pub frame_reported : Wire → List TagReader → FrameSeen → Reported
frame_reported w readers f = reported_all (record { link = record { wire = (reported w f).wire; rest = [] }; readers = readers }) (reported w f).news

-- how many bytes of the link were read with it. (A count of 64 bits stays at its last number.)
abbrev pub seen_at : ReadFrame → ℕ
seen_at r = min r.end 18446744073709551615

-- the attempt ends: RST_STREAM is queued for its stream with the code that the session says, or none is; and it has no reader any more. A message that is
-- too long ends its call, by which the attempt is cut off
pub record IsEnded (l : Link) (s : Seen) (w : Wire) (g : ℕ → Line) (readers : List TagReader) (n : ℕ) (a : Attempt) : Type 0 where
  pub code : Option ℕ
  pub follows : Follows l s a n (Ends code) w g
  pub by_end : (o : Outcome) (e : RowEnd) → (response_of l s n a).end ≡ Some o → e.cause ≡ o.cause → code_to_reset a e n s l ≡ code
  pub by_cut : (e : RowEnd) → (response_of l s n a).end ≡ None → is_cut e.cause ≡ true → code_to_reset a e n s l ≡ code
  pub readers_are : SeesReadersBut a.place l s readers

-- of a frame of its stream: what is reported is what the response gained, and where it goes on, link and readers agree with the session, and no reset was queued by it
pub record IsFrameReported (l : Link) (s : Seen) (m : Link) (u : Seen) (t : Reported) (g : ℕ → Line) (n seen : ℕ) (a : Attempt) : Type 0 where
  pub news : t.news ≡ gained a.place seen (response_of l s n a) (response_of m u n a)
  pub goes : is_done (response_of m u n a) ≡ false → SeesStreams m u t.link.link.wire g × SeesReaders m u t.link.readers
  pub unreset : is_done (response_of m u n a) ≡ false → t.link.link.wire.queue.fresh ≡ 0
  pub ends : is_done (response_of m u n a) ≡ true → IsEnded m u t.link.link.wire g t.link.readers n a

-- frames of an attempt's stream, by what they are
abbrev pub FramesAreReported : (Link → Seen → ReadFrame → Attempt → Type 0) → Type 0
FramesAreReported Case =
    (l : Link) (s : Seen) (w : Wire) (g : ℕ → Line) (readers : List TagReader) (r : ReadFrame) (a : Attempt) → SeesStreams l s w g → SeesReaders l s readers
    → Comes l w r → IsOn l s r.frame.stream a → l.over ≡ None → Case l s r a
    → IsFrameReported l s (read_link r l s) (frame_read l.number r s) (frame_reported w readers r.frame) g r.frame.stream (seen_at r) a

-- DATA (RFC 9113, section 6.1; gRPC over HTTP/2, "Length-Prefixed-Message")
abbrev pub DataIsReported : Type 0
DataIsReported = FramesAreReported (λ l s r a. (r.frame.kind == data_type) ≡ true)

-- a whole header block: a head, trailers, an interim response, or one that breaks a rule (RFC 9113, section 8.1; gRPC over HTTP/2, "Responses")
abbrev pub BlocksAreReported : Type 0
BlocksAreReported = (b : Block) → FramesAreReported (λ l s r a. r.block ≡ Some b)

-- a part of one
abbrev pub PartsAreReported : Type 0
PartsAreReported = FramesAreReported (λ l s r a. (is_of_block r.frame ≡ true) × (r.block ≡ None))

-- RST_STREAM (section 6.4)
abbrev pub ResetsAreReported : Type 0
ResetsAreReported = FramesAreReported (λ l s r a. (r.frame.kind == rst_stream_type) ≡ true)

-- WINDOW_UPDATE of the stream (section 6.9); one that breaks a rule resets it with PROTOCOL_ERROR or FLOW_CONTROL_ERROR. (The session keeps header lists with
-- frames of header blocks alone.)
abbrev pub UpdatesAreReported : Type 0
UpdatesAreReported = FramesAreReported (λ l s r a. ((r.frame.kind == window_update_type) ≡ true) × (list_all is_listed_fairly l.traffic ≡ true))

-- PRIORITY, and a frame of a type that is not known (sections 4.1 and 5.3.2)
abbrev pub OthersAreReported : Type 0
OthersAreReported = FramesAreReported (λ l s r a. is_passed_over r.frame ≡ true)

-- a frame of no attempt's stream, and no GOAWAY: that the first SETTINGS came is reported, and nothing else; the readers stay
pub record IsQuiet (l : Link) (s : Seen) (m : Link) (u : Seen) (w v : Wire) (t : Reported) (readers : List TagReader) (f : FrameSeen) : Type 0 where
  pub news : t.news ≡ (if is_settings f && not (has_settings l) then news.Ready ∷ [] else [])
  pub wire : t.link.link.wire ≡ v
  pub same : t.link.readers ≡ readers
  pub sees : SeesReaders m u readers

abbrev pub QuietIsReported : Type 0
QuietIsReported =
    (l : Link) (s : Seen) (w : Wire) (g : ℕ → Line) (readers : List TagReader) (r : ReadFrame) → SeesStreams l s w g → SeesReaders l s readers → Comes l w r
    → IsApart r.frame w
    → IsQuiet l s (read_link r l s) (frame_read l.number r s) w (reported w r.frame).wire (frame_reported w readers r.frame) readers r.frame

-- GOAWAY (section 6.8): of each stream that it leaves out, the lowest first, and then of each attempt that waits for a stream, it is reported that the server
-- did not see it. The first time it is reported, too, that the link takes no further attempt. These have no reader any more, and the others keep theirs. (In which order
-- the attempts end is the session's: by place.)
abbrev pub left_out_end : Outcome
left_out_end = plain_end code.Unavailable cause.Goaway true (Some cancel)

abbrev pub ended_as : Outcome → ℕ → Attempt → News
ended_as o seen a = news.Ended a.place (end_news o seen)

abbrev pub places_of : List Attempt → List ℕ
places_of xs = map (λ a. a.place) xs

pub record IsRetired (l : Link) (s : Seen) (w : Wire) (v : Wire) (t : Reported) (readers : List TagReader) (last seen : ℕ) : Type 0 where
  pub news : t.news ≡ map (ended_as left_out_end seen) (left_out l s last) ++ map (ended_as unsent_end seen) (waiting_on l s) ++ (if is_retiring l then [] else news.Retiring ∷ [])
  pub wire : t.link.link.wire ≡ v
  pub gone : (k : ℕ) → is_one_of (places_of (left_out l s last) ++ places_of (waiting_on l s)) k ≡ true → reader_in k t.link.readers ≡ None
  pub kept : (k : ℕ) → is_one_of (places_of (left_out l s last) ++ places_of (waiting_on l s)) k ≡ false → reader_in k t.link.readers ≡ reader_in k readers
  pub distinct : NumbersAreDistinct (map (λ r. r.tag) t.link.readers)

abbrev pub GoawaysAreReported : Type 0
GoawaysAreReported =
    (l : Link) (s : Seen) (w : Wire) (g : ℕ → Line) (readers : List TagReader) (r : ReadFrame) → SeesStreams l s w g → SeesReaders l s readers → Comes l w r
    → (r.frame.kind == goaway_type) ≡ true
    → IsRetired l s w (reported w r.frame).wire (frame_reported w readers r.frame) readers (last_stream r.frame.payload) (seen_at r)

-- an attempt that ended has no reader
abbrev pub EndsKeepReaders : Type 0
EndsKeepReaders =
    (l : Link) (s : Seen) (t : ℕ) (a : Attempt) (e : RowEnd) (readers : List TagReader) → SeesReadersBut t l s readers → numbered s.attempts t ≡ Some a
    → AttemptsStandInPlace 1 s.attempts → SeesReaders l (attempt_ended t e s) readers

-- an attempt that is cut off loses its reader, and is still to end in the session
abbrev pub CutsTakeReaders : Type 0
CutsTakeReaders = (l : Link) (s : Seen) (t : ℕ) (readers : List TagReader) → SeesReaders l s readers → SeesReadersBut t l s (without t readers)

-- whatever leaves the attempts on a link and their responses leaves the readers
pub record IsSameResponse (s t : Seen) (a b : Attempt) : Type 0 where
  pub stream : is_some b.row.stream ≡ is_some a.row.stream
  pub head : is_some (response b t).head ≡ is_some (response a s).head
  pub rest : (response b t).rest ≡ (response a s).rest
  pub limit : limit_of_attempt b t ≡ limit_of_attempt a s

abbrev pub ReadsAlike : Seen → Seen → Option Attempt → Option Attempt → Type 0
ReadsAlike s t None None = Unit {0}
ReadsAlike s t (Some a) (Some b) = IsSameResponse s t a b
ReadsAlike s t _ _ = ⊥

abbrev pub ReadersAreLeft : Type 0
ReadersAreLeft =
    (l m : Link) (s t : Seen) (readers : List TagReader) → SeesReaders l s readers → ((row : ℕ) → ReadsAlike s t (attempt_on l s row) (attempt_on m t row))
    → SeesReaders m t readers

-- the code of a reset stays once the attempt has ended, when the session looks at what its end saw: all that passed on the link was read by then
abbrev pub CodesStay : Type 0
CodesStay =
    (l : Link) (s : Seen) (n : ℕ) (a : Attempt) (e : RowEnd) → numbered s.links l.number ≡ Some l → IsOn l s n a → AttemptsStandInPlace 1 s.attempts → e.seen ≡ read_bytes l
    → list_all (is_read_by (read_bytes l)) l.traffic ≡ true
    → code_to_reset (with_end e a) e n (attempt_ended a.place e s) l ≡ code_to_reset a e n s l

-- it was, as each frame is read after those before
abbrev pub ReadsStayCounted : Type 0
ReadsStayCounted =
    (l : Link) (s : Seen) (w : Wire) (r : ReadFrame) → Comes l w r → list_all (is_read_by (read_bytes l)) l.traffic ≡ true
    → list_all (is_read_by (read_bytes (read_link r l s))) (read_link r l s).traffic ≡ true

-- the stream of an attempt that is cut off while its response goes on is reset with CANCEL (gRPC over HTTP/2, "Errors")
abbrev pub CutsAreCancelled : Type 0
CutsAreCancelled =
    (l : Link) (s : Seen) (w : Wire) (g : ℕ → Line) (n : ℕ) (a : Attempt) (e : RowEnd) → SeesStreams l s w g → IsOn l s n a → l.over ≡ None → is_cut e.cause ≡ true
    → code_to_reset a e n s l ≡ Some cancel
