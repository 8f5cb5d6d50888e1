-- What a link of the channel keeps of the responses on its streams, beside what it keeps of the frames: whether a head came.
-- Example: HEADERS with `:status` 200 and `content-type` application/grpc came on stream 1. The session has the frame and its header list; the link has
-- that stream 1 has a head, and for its attempt goes on.
use Rattle.std.specs.Prelude.{List, None, Option, Some, [], false, is_some, ◌<◌, ◌≤◌, ℕ, ◌*◌, ◌==◌, ◌∷◌, ◌≡◌}
use Rattle.h2_link.specs.Feeds.{Line}
use Rattle.h2_link.specs.Wire.{Block, Wire}
use Rattle.h2_link.specs.declared.live.LiveStream.{LiveStream}
use Rattle.link_actions.specs.Sees.{SeesLink, by_stream}
use Rattle.session_actions.specs.Links.{is_retiring}
use Rattle.session_actions.specs.Responses.{limit_of_attempt, response_in}
use Rattle.session_actions.specs.Writing.{streaming_on}
use Rattle.session_actions.specs.declared.attempt.Attempt.{Attempt}
use Rattle.session_actions.specs.declared.link.Link.{Link}
use Rattle.session_actions.specs.declared.response.Response.{Response}
use Rattle.session_actions.specs.declared.seen.Seen.{Seen}

-- the response to an attempt on a stream, by all that passed on the link
abbrev pub response_of : Link → Seen → ℕ → Attempt → Response
response_of l s stream a = response_in (limit_of_attempt a s) stream l.traffic

-- the response on a stream of the link goes on, and the link knows whether its head came
pub record IsReceived (l : Link) (s : Seen) (x : LiveStream) (a : Attempt) : Type 0 where
  pub head : x.head ≡ is_some (response_of l s x.number a).head
  pub goes : (response_of l s x.number a).end ≡ None
  pub small : (response_of l s x.number a).large ≡ false

abbrev pub ResponsesAreReceived : Link → Seen → List LiveStream → List Attempt → Type 0
ResponsesAreReceived l s [] [] = Unit {0}
ResponsesAreReceived l s (x ∷ xs) (a ∷ others) = IsReceived l s x a × ResponsesAreReceived l s xs others
ResponsesAreReceived l s _ _ = ⊥

-- of all but the attempt at a place
abbrev pub ResponsesAreReceivedBut : ℕ → Link → Seen → List LiveStream → List Attempt → Type 0
ResponsesAreReceivedBut t l s [] [] = Unit {0}
ResponsesAreReceivedBut t l s (x ∷ xs) (a ∷ others) = ((x.tag == t) ≡ false → IsReceived l s x a) × ResponsesAreReceivedBut t l s xs others
ResponsesAreReceivedBut t l s _ _ = ⊥

-- nothing came yet
pub record IsUnreceived (p : Response) : Type 0 where
  pub head : p.head ≡ None
  pub goes : p.end ≡ None
  pub small : p.large ≡ false

-- nothing came on streams that are still to be opened. (After GOAWAY none is.)
abbrev pub NewStreamsAreUnreceived : Link → ℕ → Type 0
NewStreamsAreUnreceived l opened = (limit k : ℕ) → 2 * opened < k → is_retiring l ≡ false → IsUnreceived (response_in limit k l.traffic)

-- the header block that is begun is on a stream that was opened
abbrev pub IsBegun : Option Block → ℕ → Type 0
IsBegun None opened = Unit {0}
IsBegun (Some b) opened = b.number ≤ 2 * opened

-- a link of a session, with the responses on its streams
pub record SeesStreams (l : Link) (s : Seen) (w : Wire) (g : ℕ → Line) : Type 0 where
  pub sees : SeesLink l s w g
  pub handled : ResponsesAreReceived l s w.live (by_stream (streaming_on l s))
  pub unreceived : NewStreamsAreUnreceived l w.opened
  pub begun : IsBegun w.block w.opened

-- but for the attempt at a place, whose response has an end, or a message that is too long: its end is the next thing that happens
pub record SeesBut (t : ℕ) (l : Link) (s : Seen) (w : Wire) (g : ℕ → Line) : Type 0 where
  pub sees : SeesLink l s w g
  pub handled : ResponsesAreReceivedBut t l s w.live (by_stream (streaming_on l s))
  pub unreceived : NewStreamsAreUnreceived l w.opened
  pub begun : IsBegun w.block w.opened
