use Rattle.std.proofs.Common.{◌≡◌, ◌++◌, drop}
use Rattle.relay_connection.specs.Streams.{cancels}
use Rattle.relay_connection.proofs.streams.cancel_all.Given as goal

abbrev pub invariant-loop-stream : goal.invariant-loop-stream
invariant-loop-stream l = l.asks.items ++ cancels (drop l.stream-index l.streams) ≡ l.fn.asks.items ++ cancels l.fn.streams
