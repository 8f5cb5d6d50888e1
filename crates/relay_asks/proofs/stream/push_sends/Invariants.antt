use Rattle.std.proofs.Common.{◌≡◌, ◌++◌, length}
use Rattle.std.specs.Prelude.{map}
use Rattle.std.specs.Vec.Iter.{into_iter_items}
use Rattle.relay_asks.specs.Asking.{sent}
use Rattle.relay_asks.proofs.stream.push_sends.Given as goal

-- the asks so far, and those of the messages that are left
abbrev pub invariant-loop-message : goal.invariant-loop-message
invariant-loop-message l =
    l.asks.items ++ map (sent l.stream) (into_iter_items l.rest) ≡ l.fn.asks.items ++ map (sent l.stream) l.fn.messages.items

abbrev pub decreases-loop-message : goal.decreases-loop-message
decreases-loop-message l = length (into_iter_items l.rest)
