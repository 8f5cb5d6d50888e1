-- Frames that end an attempt: trailers, RST_STREAM, END_STREAM without trailers, and what breaks a rule of the stream (gRPC over HTTP/2, "Responses" and "Errors";
-- RFC 9113, sections 5.4.2, 6.4 and 8.1). Messages may come before the end in the same frame. The attempt ends, and no other by the wire; its call goes on, is retried or
-- ends; and then the streams are reset that this brings.
-- Example: trailers come on the stream of attempt 1 with grpc-status 14, which the retry policy of its call names; the client had ended the stream too. AttemptEnds 1, by
-- Status, with UNAVAILABLE; the retry is due after its wait; no stream is reset.
use Rattle.end_cases.specs.AttemptEnds.Laws.{OneAttemptEnds}
use Rattle.frame_cases.specs.FrameKinds.Laws.{Ends, IsOfKind}
use Rattle.frame_cases.specs.PieceWalks.Laws.{ReceivedOf}

abbrev pub EndedFramesAreHandled : Type 0
EndedFramesAreHandled = OneAttemptEnds → ReceivedOf (IsOfKind Ends)
