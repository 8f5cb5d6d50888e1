use Rattle.std.proofs.Common.{◌≡◌, ◌++◌, length}
use Rattle.std.specs.Vec.Iter.{into_iter_items}
use Rattle.grpc_link.specs.Links.{reported_all}
use Rattle.grpc_link.proofs.link.GrpcLink.report_all.Given as goal

-- what is reported so far, and what the news that are left report
abbrev pub invariant-loop-news : goal.invariant-loop-news
invariant-loop-news l =
    ((reported_all l.self (into_iter_items l.rest)).link ≡ (reported_all l.fn.self l.fn.handled).link)
    × (l.all ++ (reported_all l.self (into_iter_items l.rest)).news ≡ (reported_all l.fn.self l.fn.handled).news)

abbrev pub decreases-loop-news : goal.decreases-loop-news
decreases-loop-news l = length (into_iter_items l.rest)
