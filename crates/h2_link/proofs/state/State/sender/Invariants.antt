use Rattle.std.proofs.Common.{◌≡◌, drop}
use Rattle.h2_link.specs.Drains.{sender}
use Rattle.h2_link.proofs.state.State.sender.Given as goal

abbrev pub invariant-loop-place : goal.invariant-loop-place
invariant-loop-place g l =
    sender l.window l.size (g.F.Feed.lines l.feed) l.place (drop l.place l.stream-items) ≡ sender l.window l.size (g.F.Feed.lines l.feed) 0 l.stream-items
