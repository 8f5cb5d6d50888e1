-- Frames that bring messages of a response, and nothing else: DATA in the stream of an attempt (gRPC over HTTP/2, "Length-Prefixed-Message").
-- Example: the head of stream 1 came, and then DATA with the rest of one message, another whole one, and 3 bytes of a third. Two messages came of the response of
-- stream 1; those of all other streams are as before, but for their windows.
use Rattle.std.specs.List.{list_all}
use Rattle.std.specs.Prelude.{List, None, false, map, true, ◌++◌, ◌==◌, ◌≡◌, ℕ}
use Rattle.attempt_ledger.specs.declared.news.News.{News}
use Rattle.frame_cases.specs.FrameKinds.Laws.{Messages, kind_of}
use Rattle.frame_cases.specs.QuietFrames.Laws.{HasNothingNew}
use Rattle.grpc_link.specs.Response.{message_news}
use Rattle.grpc_link.specs.declared.readers.TagReader.{TagReader}
use Rattle.h2_frame.specs.Numbers.{goaway_type}
use Rattle.h2_link.specs.Feeds.{Line}
use Rattle.h2_link.specs.Wire.{Wire}
use Rattle.link_actions.specs.ResponseActions.Gained.{is_listed_fairly}
use Rattle.link_actions.specs.ResponseActions.Laws.{frame_reported, seen_at}
use Rattle.link_actions.specs.ResponseActions.Readers.{SeesReaders}
use Rattle.link_actions.specs.StreamActions.Laws.{Comes, IsOn, read_link}
use Rattle.link_actions.specs.StreamActions.Sees.{SeesStreams, response_of}
use Rattle.session_actions.specs.Links.{has_settings, is_retiring}
use Rattle.session_actions.specs.Writing.{frame_read}
use Rattle.session_actions.specs.declared.attempt.Attempt.{Attempt}
use Rattle.session_actions.specs.declared.link.Link.{Link}
use Rattle.session_actions.specs.declared.link.ReadFrame.{ReadFrame}
use Rattle.session_actions.specs.declared.response.Response.{Response}
use Rattle.session_actions.specs.declared.seen.Seen.{Seen}

-- a response to which these messages came
pub record HasMessages (more : List (List ℕ)) (p q : Response) : Type 0 where
  pub head : q.head ≡ p.head
  pub messages : q.messages ≡ p.messages ++ more
  pub large : q.large ≡ p.large
  pub end : q.end ≡ p.end

-- they came of one stream, and are what is reported
pub record IsReadWithMessages (l m : Link) (s t : Seen) (n seen : ℕ) (ns : List News) (w : Wire) (g : ℕ → Line) (readers : List TagReader) : Type 0 where
  pub attempt : Attempt
  pub on : IsOn l s n attempt
  pub more : List (List ℕ)
  pub news_are : ns ≡ map (message_news attempt.place seen) more
  pub gains : HasMessages more (response_of l s n attempt) (response_of m t n attempt)
  pub others : (k : ℕ) (b : Attempt) → IsOn l s k b → (n == k) ≡ false → HasNothingNew (response_of l s k b) (response_of m t k b)
  pub streams : SeesStreams m t w g
  pub reads : SeesReaders m t readers
  pub retiring : is_retiring m ≡ is_retiring l
  pub settings : has_settings m ≡ has_settings l

abbrev pub MessagesComeAlone : Type 0
MessagesComeAlone =
    (l : Link) (s : Seen) (w : Wire) (g : ℕ → Line) (readers : List TagReader) (r : ReadFrame) → SeesStreams l s w g → SeesReaders l s readers → Comes l w r → l.over ≡ None
    → list_all is_listed_fairly l.traffic ≡ true → (r.frame.kind == goaway_type) ≡ false → kind_of (frame_reported w readers r.frame).news ≡ Messages
    → IsReadWithMessages l (read_link r l s) s (frame_read l.number r s) r.frame.stream (seen_at r) (frame_reported w readers r.frame).news
    (frame_reported w readers r.frame).link.link.wire g (frame_reported w readers r.frame).link.readers
