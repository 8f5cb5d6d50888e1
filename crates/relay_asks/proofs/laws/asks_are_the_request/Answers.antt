use Rattle.std.proofs.Common.{ℕ, List, []}
use Rattle.grpc_base.specs.Limits.{message_limit}
use Rattle.grpc_frame.specs.Reader.{reader_of}
use Rattle.relay_asks.specs.Laws.{Moment}
use Rattle.relay_asks.proofs.Asked.{asked, nothing_asked, nothing_reported, reported}
use Rattle.relay_asks.proofs.laws.asks_are_the_request.Goals as goal

pub returns : goal.returns
returns c = record {
  asks = asked;
  status = reported;
  refused = λ (stream : ℕ) (moments : List Moment). nothing_asked stream (reader_of message_limit []) moments;
  silent = λ (stream : ℕ) (moments : List Moment). nothing_reported stream (reader_of message_limit []) moments;
}
