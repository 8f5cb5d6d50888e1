use Rattle.std.proofs.Common.{◌-◌, length}
use Rattle.h2_link.proofs.Sending.{SoFar}
use Rattle.h2_link.proofs.state.State.send_all.Given as goal

abbrev pub decreases-loop-out : goal.decreases-loop-out
decreases-loop-out g l = l.room - length l.out.items

abbrev pub invariant-loop-out : goal.invariant-loop-out
invariant-loop-out g l = record { so_far : SoFar l.room l.fn.self (g.F.Feed.lines l.fn.feed) l.out.items l.self (g.F.Feed.lines l.feed); same : g.F.Feed.same l.fn.feed l.feed }
