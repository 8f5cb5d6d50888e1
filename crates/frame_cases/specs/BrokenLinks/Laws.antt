-- Bytes that break a link: the link is over, its subchannel goes down, and each attempt on it ends by that, the lowest place first. All of them end before the streams
-- are reset that their ends bring on other links (RFC 9113, section 5.4.1; gRPC over HTTP/2, "Connection failure"; "gRPC Connectivity Semantics and API"). A link that
-- breaks sends no GOAWAY.
-- Example: PUSH_PROMISE comes on link 1, with attempt 1 of call 1, which has stream 1, and attempt 3 of call 2, which waits for a stream. Call 1 is hedged; its attempt 2
-- is on stream 1 of link 2. LinkBreaks 1; LinkDown of its subchannel; AttemptEnds 1, with UNAVAILABLE, which hedgingPolicy does not name: CallCommitted 1, AttemptEnds 2,
-- cut, CallEnds 1. Then AttemptEnds 3, which was never sent, and its transparent retry is made; and then StreamReset 2.
use Rattle.end_cases.specs.AttemptEnds.Laws.{OneAttemptEnds}
use Rattle.frame_cases.specs.PieceWalks.Laws.{BreaksAreHandled}

abbrev pub BrokenLinksAreHandled : Type 0
BrokenLinksAreHandled = OneAttemptEnds → BreaksAreHandled
