use Rattle.std.proofs.Common.{◌≡◌, ◌-◌, length}
use Rattle.channel_core.specs.Applying as applying
use Rattle.channel_core.proofs.state.State.close_all.Given as goal

abbrev pub invariant-loop-index : goal.invariant-loop-index
invariant-loop-index g l = applying.calls_closed (l.count - l.index) l.index l.self ≡ applying.calls_closed (length l.fn.self.book.calls) 0 l.fn.self
