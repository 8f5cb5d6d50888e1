use Rattle.std.proofs.Common.{◌≡◌, ◌++◌, length}
use Rattle.std.specs.Prelude.{map}
use Rattle.std.specs.Vec.Iter.{into_iter_items}
use Rattle.grpc_link.specs.Response.{message_news}
use Rattle.grpc_link.proofs.reader.message_news.Given as goal

-- the news so far, and those of the messages that are left
abbrev pub invariant-loop-octets : goal.invariant-loop-octets
invariant-loop-octets l =
    l.news ++ map (message_news l.tag l.seen) (into_iter_items l.rest) ≡ map (message_news l.tag l.seen) l.fn.messages.items

abbrev pub decreases-loop-octets : goal.decreases-loop-octets
decreases-loop-octets l = length (into_iter_items l.rest)
