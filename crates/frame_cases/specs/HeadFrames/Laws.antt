-- Frames that bring the head of a response, and neither its end nor a message that is too long: the last frame of a header block (gRPC over HTTP/2, "Responses").
-- Example: the hedged attempts 1, 2 and 3 of call 1 are on the streams 1, 3 and 5 of a link. HEADERS with `:status` 200 and `content-type` application/grpc come on
-- stream 3: a head came of the response to attempt 2, and nothing of the other two. So the call is committed to attempt 2, and the other two are cut off.
-- What is reported stands here; that channel and session agree after it is `HeadsAreHandled` of `frame_kinds`.
use Rattle.std.specs.List.{list_all}
use Rattle.std.specs.Prelude.{List, None, Some, [], false, true, ◌==◌, ◌∷◌, ◌≡◌, ℕ}
use Rattle.attempt_ledger.specs.declared.news.News.{News}
use Rattle.attempt_ledger.specs.declared.news.News.TheVariants as news
use Rattle.frame_cases.specs.FrameKinds.Laws.{Heads, kind_of}
use Rattle.frame_cases.specs.QuietFrames.Laws.{HasNothingNew}
use Rattle.grpc_base.specs.declared.fields.Field.{Field}
use Rattle.grpc_link.specs.declared.readers.TagReader.{TagReader}
use Rattle.h2_frame.specs.Numbers.{goaway_type}
use Rattle.h2_link.specs.Feeds.{Line}
use Rattle.h2_link.specs.Wire.{Wire}
use Rattle.link_actions.specs.ResponseActions.Gained.{is_listed_fairly}
use Rattle.link_actions.specs.ResponseActions.Laws.{frame_reported, seen_at}
use Rattle.link_actions.specs.ResponseActions.Readers.{SeesReaders}
use Rattle.link_actions.specs.StreamActions.Laws.{Comes, IsOn, read_link}
use Rattle.link_actions.specs.StreamActions.Sees.{SeesStreams, response_of}
use Rattle.session_actions.specs.Links.{has_settings, is_retiring}
use Rattle.session_actions.specs.Writing.{frame_read}
use Rattle.session_actions.specs.declared.attempt.Attempt.{Attempt}
use Rattle.session_actions.specs.declared.link.Link.{Link}
use Rattle.session_actions.specs.declared.link.ReadFrame.{ReadFrame}
use Rattle.session_actions.specs.declared.response.Response.{Response}
use Rattle.session_actions.specs.declared.seen.Seen.{Seen}

-- a response of which the head came
pub record HasHead (meta : List Field) (p q : Response) : Type 0 where
  pub was : p.head ≡ None
  pub head : q.head ≡ Some meta
  pub messages : q.messages ≡ p.messages
  pub large : q.large ≡ p.large
  pub small : q.large ≡ false
  pub end : q.end ≡ p.end

-- it came of one stream, and is what is reported; no reset is queued by it
pub record IsReadWithHead (l m : Link) (s t : Seen) (n seen : ℕ) (ns : List News) (w : Wire) (g : ℕ → Line) (readers : List TagReader) : Type 0 where
  pub attempt : Attempt
  pub on : IsOn l s n attempt
  pub meta : List Field
  pub news_are : ns ≡ news.Head attempt.place meta seen ∷ []
  pub gains : HasHead meta (response_of l s n attempt) (response_of m t n attempt)
  pub others : (k : ℕ) (b : Attempt) → IsOn l s k b → (n == k) ≡ false → HasNothingNew (response_of l s k b) (response_of m t k b)
  pub streams : SeesStreams m t w g
  pub reads : SeesReaders m t readers
  pub unreset : w.queue.fresh ≡ 0
  pub retiring : is_retiring m ≡ is_retiring l
  pub settings : has_settings m ≡ has_settings l

abbrev pub HeadsComeAlone : Type 0
HeadsComeAlone =
    (l : Link) (s : Seen) (w : Wire) (g : ℕ → Line) (readers : List TagReader) (r : ReadFrame) → SeesStreams l s w g → SeesReaders l s readers → Comes l w r → l.over ≡ None
    → list_all is_listed_fairly l.traffic ≡ true → (r.frame.kind == goaway_type) ≡ false → kind_of (frame_reported w readers r.frame).news ≡ Heads
    → IsReadWithHead l (read_link r l s) s (frame_read l.number r s) r.frame.stream (seen_at r) (frame_reported w readers r.frame).news
    (frame_reported w readers r.frame).link.link.wire g (frame_reported w readers r.frame).link.readers
