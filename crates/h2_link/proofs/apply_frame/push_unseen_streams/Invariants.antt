use Rattle.std.proofs.Common.{◌≡◌, ◌++◌, drop}
use Rattle.std.specs.Prelude.{map}
use Rattle.h2_link.specs.Steps.{unseen_stream}
use Rattle.h2_link.proofs.apply_frame.push_unseen_streams.Given as goal

abbrev pub invariant-loop-stream : goal.invariant-loop-stream
invariant-loop-stream l = l.news ++ map (unseen_stream l.seen) (drop l.stream-index l.streams) ≡ l.fn.news ++ map (unseen_stream l.seen) l.fn.streams
