use Rattle.std.proofs.Common.{◌≡◌, length}
use Rattle.channel_core.specs.Arrivals as arrivals
use Rattle.channel_core.proofs.state.State.arrived.Given as goal

abbrev pub invariant-loop-rest : goal.invariant-loop-rest
invariant-loop-rest g l = arrivals.frames_after l.link l.rest 0 l.self ≡ arrivals.frames_after l.fn.link l.fn.piece 0 l.fn.self

abbrev pub decreases-loop-rest : goal.decreases-loop-rest
decreases-loop-rest g l = length l.rest
