-- GOAWAY: the link takes no further attempt, and its subchannel goes down. Each attempt whose stream it leaves out ends, and each that waits for a stream, the lowest
-- place first, with what follows from its end; and then the streams are reset that this brings (RFC 9113, section 6.8; gRPC over HTTP/2, "Connection Management").
-- Example: the attempts 1, 2 and 3, of the calls 1, 2 and 3, are on the streams 1, 3 and 5 of link 1, and GOAWAY with the last stream 1 comes. FrameRead; LinkDown of
-- its subchannel; AttemptEnds 2, unseen by the server, and AttemptMade 4, which retries it transparently; AttemptEnds 3, and AttemptMade 5; StreamReset 2 and
-- StreamReset 3, with CANCEL. Attempt 1 goes on.
use Rattle.end_cases.specs.AttemptEnds.Laws.{OneAttemptEnds}
use Rattle.frame_cases.specs.FrameKinds.Laws.{GoawaysAreHandled}

abbrev pub RetiredLinksAreHandled : Type 0
RetiredLinksAreHandled = OneAttemptEnds → GoawaysAreHandled
