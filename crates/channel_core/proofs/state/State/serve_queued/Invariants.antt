use Rattle.std.proofs.Common.{◌≡◌, ◌-◌}
use Rattle.channel_core.specs.Settling as settling
use Rattle.channel_core.proofs.state.State.serve_queued.Given as goal

abbrev pub invariant-loop-turn : goal.invariant-loop-turn
invariant-loop-turn g l =
    settling.passed (l.most - l._turn) (l.call, l.row) (record { state = l.self; moved = l.moved }) ≡ settling.passed l.fn.most (0, 0) (settling.stays l.fn.self)
