use Rattle.std.proofs.Common.{◌≡◌, ◌-◌}
use Rattle.channel_core.specs.Settling as settling
use Rattle.channel_core.proofs.state.State.move_all.Given as goal

abbrev pub invariant-loop-round : goal.invariant-loop-round
invariant-loop-round g l = settling.rounds (l.most - l._round) l.self ≡ settling.rounds l.fn.most l.fn.self
